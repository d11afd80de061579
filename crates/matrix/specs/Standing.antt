-- What a matrix means: its places and their types, the rights held, and the room for new ones.
use Rattle.std.specs.Prelude.{◌≡◌, ℕ, ◌≤◌, Bool, true, cond, not, ◌&&◌, ◌||◌, is_some, Some, None, Option, ◌==◌}
use Rattle.matrix.specs.Ranges.{within}
use Rattle.matrix.specs.Grants.{same_grant, names}
use Rattle.matrix.specs.declared.grants.Grant.{Grant}

-- what a matrix shows: the number of places, the type of each that is filled, and the rights held
pub record Standing : Type 0 where
  pub places : ℕ
  pub type_at : ℕ → Option ℕ
  pub held : Grant → Bool

-- and how many new rights can be entered for certain
pub record Meaning : Type 0 where
  pub standing : Standing
  pub room : ℕ

-- a right of 1 to 32 at two filled places
abbrev pub stands : (ℕ → Option ℕ) → Grant → Bool
stands type_of g = within g.right 32 && (is_some (type_of g.row) && is_some (type_of g.column))

-- the bounds that every matrix keeps
pub record Lawful (m : Meaning) : Type 0 where
  pub few : m.standing.places ≤ 128
  pub types : (p t : ℕ) → m.standing.type_at p ≡ Some t → (within p m.standing.places ≡ true) × (within t 16 ≡ true)
  pub rights : (g : Grant) → m.standing.held g ≡ true → stands m.standing.type_at g ≡ true
  pub rooms : m.room ≤ 524288

-- what each operation makes of a standing: all that it does not name stays
abbrev pub entered : Standing → Grant → Standing
entered s g = record { places = s.places; type_at = s.type_at; held = λ h. s.held h || same_grant h g }

abbrev pub deleted : Standing → Grant → Standing
deleted s g = record { places = s.places; type_at = s.type_at; held = λ h. s.held h && not (same_grant h g) }

abbrev pub created : Standing → ℕ → ℕ → Standing
created s p t = record { places = s.places; type_at = λ q. cond (q == p) (Some t) (s.type_at q); held = s.held }

abbrev pub destroyed : Standing → ℕ → Standing
destroyed s p = record { places = s.places; type_at = λ q. cond (q == p) None (s.type_at q); held = λ h. s.held h && not (names p h) }
