-- A test that holds of each element of a list, or of none.
use Rattle.std.proofs.Common.{◌≡◌, ℕ, zero, suc, ◌+◌, ◌<◌, Bool, true, ◌&&◌, List, [], ◌∷◌, ◌++◌, length, get_or, take, set, refl, arith}
use Rattle.std.proofs.lemmas.List.{append-nil, append_assoc, take_all}
use Rattle.std.proofs.lemmas.List.Folds.{list_all-append, list_all_more, list_all_at}
use Rattle.std.specs.List.{list_all}
use Rattle.scheme.specs.Each.{each_after}

module _ {X : Type 0} (p : X → Bool) where
  pub every_set : (xs : List X) (i : ℕ) (y : X) → list_all p xs ≡ true → p y ≡ true → list_all p (set xs i y) ≡ true
  every_set [] i y h k = refl
  every_set (x ∷ xs) zero y h k = grind arith
  every_set (x ∷ xs) (suc i) y h k = grind (arith, every_set xs i y)

  pub every-getD : (xs : List X) (i : ℕ) (d : X) → list_all p xs ≡ true → i < length xs → p (get_or xs i d) ≡ true
  every-getD xs i d h in' = grind (arith, list_all_at p xs i d in')

  pub every_push : (xs : List X) (y : X) → list_all p xs ≡ true → p y ≡ true → list_all p (xs ++ (y ∷ [])) ≡ true
  every_push xs y h k = grind (arith, list_all-append p xs (y ∷ []))

  pub every_weaker : (q : X → Bool) → ((x : X) → p x ≡ true → q x ≡ true) → (xs : List X) → list_all p xs ≡ true → list_all q xs ≡ true
  every_weaker q w [] h = refl
  every_weaker q w (x ∷ xs) h = grind (arith, w x, every_weaker q w xs)

  pub every_both : (q : X → Bool) (xs : List X) → list_all p xs ≡ true → list_all q xs ≡ true → list_all (λ x. p x && q x) xs ≡ true
  every_both q [] h k = refl
  every_both q (x ∷ xs) h k = grind (arith, every_both q xs)

  -- all but the last, and the last
  pub every_but_last : (xs : List X) (n : ℕ) (d : X) → length xs ≡ suc n → list_all p (take n xs) ≡ true → p (get_or xs n d) ≡ true → list_all p xs ≡ true
  every_but_last xs n d e h k = grind (arith, list_all_more p xs n d, take_all (n + 1) xs)

-- a test of each element together with those before it
module _ {X : Type 0} (p : List X → X → Bool) where
  pub after_push : (before xs : List X) (y : X) → each_after p before xs ≡ true → p (before ++ xs) y ≡ true → each_after p before (xs ++ (y ∷ [])) ≡ true
  after_push before [] y h k = grind (arith, append-nil before)
  after_push before (x ∷ xs) y h k = grind (arith, after_push (before ++ (x ∷ [])) xs y, append_assoc before (x ∷ []) xs)

  pub after_weaker : (q : List X → X → Bool) → ((ys : List X) (x : X) → p ys x ≡ true → q ys x ≡ true) → (before xs : List X) → each_after p before xs ≡ true → each_after q before xs ≡ true
  after_weaker q w before [] h = refl
  after_weaker q w before (x ∷ xs) h = grind (arith, w before x, after_weaker q w (before ++ (x ∷ [])) xs)
