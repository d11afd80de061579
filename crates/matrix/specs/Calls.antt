-- What an accepted call makes of a matrix's meaning m: the meaning n.
use Rattle.std.specs.Prelude.{◌≡◌, ℕ, ◌+◌, ◌≤◌, cond, ◌&&◌}
use Rattle.matrix.specs.Grants.{names}
use Rattle.matrix.specs.Count.{count}
use Rattle.matrix.specs.Standing.{Meaning, entered, deleted, created, destroyed}
use Rattle.matrix.specs.declared.grants.Grant.{Grant}

-- the room falls by exactly one if the right is new
pub record Entered (m : Meaning) (g : Grant) (n : Meaning) : Type 0 where
  pub standing : n.standing ≡ entered m.standing g
  pub room : n.room + cond (m.standing.held g) 0 1 ≡ m.room

-- the room rises by at least one if the right was held
pub record Deleted (m : Meaning) (g : Grant) (n : Meaning) : Type 0 where
  pub standing : n.standing ≡ deleted m.standing g
  pub room : m.room + cond (m.standing.held g) 1 0 ≤ n.room

pub record Created (m : Meaning) (p t : ℕ) (n : Meaning) : Type 0 where
  pub standing : n.standing ≡ created m.standing p t
  pub room : m.room ≤ n.room

-- the room rises by at least the number of the rights that are gone
pub record Destroyed (m : Meaning) (p : ℕ) (n : Meaning) : Type 0 where
  pub standing : n.standing ≡ destroyed m.standing p
  pub room : m.room + count m.standing.places (λ g. m.standing.held g && names p g) ≤ n.room
