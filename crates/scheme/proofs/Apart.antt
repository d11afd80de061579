-- No operation of a command destroys a parameter that the command creates, in whatever order they stand.
use Rattle.std.proofs.Common.{◌≡◌, ℕ, true, false, ◌&&◌, List, [], ◌∷◌, ◌++◌, refl, arith}
use Rattle.std.proofs.lemmas.List.Folds.{list_any-append, list_all-append}
use Rattle.std.specs.List.{list_all}
use Rattle.scheme.specs.Lines.{creates, named}
use Rattle.scheme.specs.Lawful.{creates_fresh, destroys_older}
use Rattle.scheme.specs.declared.lines.Cell.{Cell}
use Rattle.scheme.specs.declared.lines.Operation.{Operation}
use Rattle.scheme.specs.declared.lines.Operation.TheVariants.{Enter, Delete, Create, Destroy}

-- what a list destroys none of, its parts destroy none of
pub older_append : (os ps : List Operation) (x : Operation) → destroys_older (os ++ ps) x ≡ (destroys_older os x && destroys_older ps x)
older_append os ps (Enter c) = refl
older_append os ps (Delete c) = refl
older_append os ps (Create q) = refl
older_append os ps (Destroy q) = grind (arith, list_any-append (λ o. creates o q) os ps)

olders_append : (os ps xs : List Operation) → list_all (destroys_older (os ++ ps)) xs ≡ (list_all (destroys_older os) xs && list_all (destroys_older ps) xs)
olders_append os ps [] = refl
olders_append os ps (x ∷ xs) = grind (arith, older_append os ps x, olders_append os ps xs)

-- what creates nothing, or a parameter that is not named
older_idle : (o : Operation) → ((p : ℕ) → creates o p ≡ false) → (x : Operation) → destroys_older (o ∷ []) x ≡ true
older_idle o none (Enter c) = refl
older_idle o none (Delete c) = refl
older_idle o none (Create q) = refl
older_idle o none (Destroy q) = grind (arith, none q)

olders_idle : (o : Operation) → ((p : ℕ) → creates o p ≡ false) → (xs : List Operation) → list_all (destroys_older (o ∷ [])) xs ≡ true
olders_idle o none [] = refl
olders_idle o none (x ∷ xs) = grind (arith, older_idle o none x, olders_idle o none xs)

olders_create : (p : ℕ) (xs : List Operation) → named xs p ≡ false → list_all (destroys_older (Create p ∷ [])) xs ≡ true
olders_create p [] n = refl
olders_create p (Enter c ∷ xs) n = grind (arith, olders_create p xs)
olders_create p (Delete c ∷ xs) n = grind (arith, olders_create p xs)
olders_create p (Create q ∷ xs) n = grind (arith, olders_create p xs)
olders_create p (Destroy q ∷ xs) n = grind (arith, olders_create p xs)

olders_fresh : (tests : List Cell) (os : List Operation) (o : Operation) → creates_fresh tests os o ≡ true → list_all (destroys_older (o ∷ [])) os && destroys_older (o ∷ []) o ≡ true
olders_fresh tests os (Enter c) fresh = grind (arith, olders_idle (Enter c) (λ p. refl) os)
olders_fresh tests os (Delete c) fresh = grind (arith, olders_idle (Delete c) (λ p. refl) os)
olders_fresh tests os (Create q) fresh = grind (arith, olders_create q os)
olders_fresh tests os (Destroy q) fresh = grind (arith, olders_idle (Destroy q) (λ p. refl) os)

pub apart_push : (tests : List Cell) (os : List Operation) (o : Operation) → list_all (destroys_older os) os ≡ true → creates_fresh tests os o ≡ true → destroys_older os o ≡ true → list_all (destroys_older (os ++ (o ∷ []))) (os ++ (o ∷ [])) ≡ true
apart_push tests os o h fresh k = grind (arith, list_all-append (destroys_older (os ++ (o ∷ []))) os (o ∷ []), olders_append os (o ∷ []) os, older_append os (o ∷ []) o, olders_fresh tests os o fresh)
