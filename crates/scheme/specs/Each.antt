-- What is said of the elements of a list: of the one with a number, and of each after those before it.
use Rattle.std.specs.Prelude.{ℕ, ◌-◌, Bool, true, cond, ◌&&◌, List, [], ◌∷◌, ◌++◌, None, Option, nat_le}
use Rattle.std.specs.List.{slice_get}

-- the numbers from a lowest to a highest
abbrev pub from_to : ℕ → ℕ → ℕ → Bool
from_to low high n = nat_le low n && nat_le n high

-- a test holds of each element, seen together with all that stand before it
abbrev pub each_after : {X : Type 0} → (List X → X → Bool) → List X → List X → Bool
each_after p before [] = true
each_after p before (x ∷ xs) = p before x && each_after p (before ++ (x ∷ [])) xs

-- the element with a number, counted from 1
abbrev pub numbered : {X : Type 0} → List X → ℕ → Option X
numbered xs n = cond (nat_le 1 n) (slice_get xs (n - 1)) None
