-- Lists of grants: none twice, and those that name no place p.
use Rattle.std.specs.Prelude.{ℕ, Bool, true, not, ◌&&◌, List, [], ◌∷◌}
use Rattle.matrix.specs.Grants.{names}
use Rattle.matrix.specs.Listed.{listed}
use Rattle.matrix.specs.declared.grants.Grant.{Grant}

abbrev pub apart : List Grant → Bool
apart [] = true
apart (g ∷ gs) = not (listed gs g) && apart gs

abbrev pub away : ℕ → Grant → Bool
away p g = not (names p g)
