-- What a list of grants holds when one joins it.
use Rattle.std.proofs.Common.{◌≡◌, ℕ, ◌<◌, ◌≤◌, Bool, true, false, ◌||◌, List, [], ◌∷◌, ◌++◌, length, Ok, Err, ap, ◌∙◌, arith}
use Rattle.std.specs.List.{list_any}
use Rattle.std.proofs.lemmas.Bool.Decides.{nat_tests}
use Rattle.std.proofs.lemmas.List.Folds.{list_any-append}
use Rattle.records.specs.Bounded.{addition}
use Rattle.records.specs.declared.Full.{Full}
use Rattle.matrix.specs.Grants.{same_grant}
use Rattle.matrix.specs.Listed.{listed}
use Rattle.matrix.specs.declared.grants.Grant.{Grant}
use Rattle.matrix.proofs.Alikes.{same_is}

pub listed_push : (gs : List Grant) (g h : Grant) → listed (gs ++ (g ∷ [])) h ≡ (listed gs h || same_grant h g)
listed_push gs g h = list_any-append (same_grant h) gs (g ∷ []) ∙ one (listed gs h) (same_grant h g)
  where
    one : (a b : Bool) → (a || (b || false)) ≡ (a || b)
    one a b = grind arith

-- a test that holds of g gains nothing by g
pub held_again : (f : Grant → Bool) (g h : Grant) → f g ≡ true → f h ≡ (f h || same_grant h g)
held_again f g h is = by (same_grant h g) (λ e. ap f (same_is h g e) ∙ is)
  where
    by : (t : Bool) → (t ≡ true → f h ≡ true) → f h ≡ (f h || t)
    by t k = grind (arith, k)

-- what the answer of `add` tells of the list before it
pub when_added : {X : Type 0} (p : X → Bool) (n : ℕ) (xs : List X) → Ok true ≡ addition p n xs → (list_any p xs ≡ false) × (length xs < n)
when_added p n xs h = (grind (arith, nat_tests), grind (arith, nat_tests))

pub when_there : {X : Type 0} (p : X → Bool) (n : ℕ) (xs : List X) → Ok false ≡ addition p n xs → list_any p xs ≡ true
when_there p n xs h = grind (arith, nat_tests)

pub when_full : {X : Type 0} (p : X → Bool) (n : ℕ) (xs : List X) (f : Full) → Err f ≡ addition p n xs → (list_any p xs ≡ false) × (n ≤ length xs)
when_full p n xs f h = (grind (arith, nat_tests), grind (arith, nat_tests))
