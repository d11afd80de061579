-- Which grants a list holds when one joins it, when one is taken out, and that none is there twice.
use Rattle.std.proofs.Common.{◌≡◌, ℕ, zero, suc, ◌+◌, ◌-◌, ◌<◌, ◌≤◌, Bool, true, false, cond, not, ◌&&◌, ◌||◌, ltb, List, [], ◌∷◌, ◌++◌, length, Some, sym, refl, ap, ◌∙◌, arith}
use Rattle.std.specs.List.{remove}
use Rattle.std.proofs.lemmas.Bool.{and_parts, and_from, not-true, or_parts, or_from, or_right, lt-ltb}
use Rattle.std.specs.Prelude.{position, Ok, Err, Result}
use Rattle.std.specs.List.{position_from}
use Rattle.std.proofs.lemmas.Iterator.Adapters.{position_from-zero}
use Rattle.records.specs.Bounded.{addition, with_added, with_out}
use Rattle.records.specs.declared.Full.{Full}
use Rattle.matrix.specs.Grants.{same_grant}
use Rattle.matrix.specs.Listed.{listed}
use Rattle.matrix.specs.declared.grants.Grant.{Grant}
use Rattle.matrix.proofs.Alikes.{same_is, same_flip}
use Rattle.matrix.proofs.Listing.{listed_push, when_added}
use Rattle.grant_list.specs.Grants.{apart}

apart_parts : (g : Grant) (gs : List Grant) → apart (g ∷ gs) ≡ true → (listed gs g ≡ false) × (apart gs ≡ true)
apart_parts g gs a = let f = and_parts (not (listed gs g)) (apart gs) a in (not-true (listed gs g) f.0, f.1)

apart_cons : (g : Grant) (gs : List Grant) → listed gs g ≡ false → apart gs ≡ true → apart (g ∷ gs) ≡ true
apart_cons g gs new a = and_from (not (listed gs g)) (apart gs) (ap not new) a

apart_push : (xs : List Grant) (g : Grant) → apart xs ≡ true → listed xs g ≡ false → apart (xs ++ (g ∷ [])) ≡ true
apart_push [] g a new = refl
apart_push (x ∷ xs) g a new =
    let f = apart_parts x xs a in
    let n = or_parts (same_grant g x) (listed xs g) new in
    apart_cons x (xs ++ (g ∷ [])) (listed_push xs g x ∙ or_from (listed xs x) (same_grant x g) f.0 (same_flip x g ∙ n.0)) (apart_push xs g f.1 n.1)

pub apart-added : (n : ℕ) (xs ys : List Grant) (g : Grant) (r : Result Bool Full) → r ≡ addition (same_grant g) n xs → ys ≡ with_added r g xs
    → apart xs ≡ true → apart ys ≡ true
apart-added n xs ys g (Ok true) told is a = ap apart is ∙ apart_push xs g a (when_added (same_grant g) n xs told).0
apart-added n xs ys g (Ok false) told is a = ap apart is ∙ a
apart-added n xs ys g (Err f) told is a = ap apart is ∙ a

-- what is there after one was taken out was there before
listed_removed : (xs : List Grant) (i : ℕ) (h : Grant) → listed (remove xs i) h ≡ true → listed xs h ≡ true
listed_removed [] zero h e = e
listed_removed [] (suc i) h e = e
listed_removed (x ∷ xs) zero h e = or_right (same_grant h x) (listed xs h) e
listed_removed (x ∷ xs) (suc i) h e = more (same_grant h x) (listed_removed xs i h) e
  where
    more : (b : Bool) → (listed (remove xs i) h ≡ true → listed xs h ≡ true) → (b || listed (remove xs i) h) ≡ true → (b || listed xs h) ≡ true
    more true ih f = refl
    more false ih f = ih f

apart_removed : (xs : List Grant) (i : ℕ) → apart xs ≡ true → apart (remove xs i) ≡ true
apart_removed [] zero a = refl
apart_removed [] (suc i) a = refl
apart_removed (x ∷ xs) zero a = (apart_parts x xs a).1
apart_removed (x ∷ xs) (suc i) a =
    let f = apart_parts x xs a in
    apart_cons x (remove xs i) (still (listed (remove xs i) x) (listed xs x) (listed_removed xs i x) f.0) (apart_removed xs i f.1)
  where
    still : (b t : Bool) → (b ≡ true → t ≡ true) → t ≡ false → b ≡ false
    still true t k e = sym (k refl) ∙ e
    still false t k e = refl

-- the same of `take_out`, which tells whether it took one
pub listed_out : (xs ys : List Grant) (r : Bool) (i : ℕ) → ys ≡ with_out r i xs → (h : Grant) → listed ys h ≡ true → listed xs h ≡ true
listed_out xs ys true i is h e = listed_removed xs i h (sym (ap (λ (l : List Grant). listed l h) is) ∙ e)
listed_out xs ys false i is h e = sym (ap (λ (l : List Grant). listed l h) is) ∙ e

pub apart_out : (xs ys : List Grant) (r : Bool) (i : ℕ) → ys ≡ with_out r i xs → apart xs ≡ true → apart ys ≡ true
apart_out xs ys true i is a = ap apart is ∙ apart_removed xs i a
apart_out xs ys false i is a = ap apart is ∙ a

-- without the first record that passes: what a search and a removal leave
abbrev less : {X : Type 0} → (X → Bool) → List X → List X
less p [] = []
less p (x ∷ xs) = cond (p x) xs (x ∷ less p xs)

removed_less : {X : Type 0} (p : X → Bool) (j i : ℕ) (xs : List X) → position_from p j xs ≡ Some i
    → (j ≤ i) × (i < j + length xs) × (remove xs (i - j) ≡ less p xs)
removed_less p j i [] h = absurd (let z : ◌≡◌ {A = ℕ} 0 1 = cc in omega arith)
removed_less {X = X} p j i (x ∷ xs) h = step (removed_less p (j + 1) i xs) (p x) h
  where
    step : (position_from p (j + 1) xs ≡ Some i → (j + 1 ≤ i) × (i < j + 1 + length xs) × (remove xs (i - (j + 1)) ≡ less p xs))
        → (b : Bool) → cond b (Some j) (position_from p (j + 1) xs) ≡ Some i
        → (j ≤ i) × (i < j + length (x ∷ xs)) × (remove (x ∷ xs) (i - j) ≡ cond b xs (x ∷ less p xs))
    step next true e = let same : j ≡ i = cc in let z : i - j ≡ 0 = omega arith in (omega arith, omega arith, ap (remove (x ∷ xs)) z)
    step next false e =
        let ih = next e in
        let low = ih.0 in
        let z : i - j ≡ suc (i - (j + 1)) = omega arith in
        (omega arith, omega (arith, ih.1), ap (remove (x ∷ xs)) z ∙ ap (λ (l : List X). x ∷ l) ih.2)

-- The grant g is gone, and the others are as they were.
-- Where the first record is g, no later one is, since no grant is there twice; where it is another, it stays.
listed_less : (g h : Grant) (xs : List Grant) → apart xs ≡ true → listed (less (same_grant g) xs) h ≡ (listed xs h && not (same_grant h g))
listed_less g h [] a = refl
listed_less g h (x ∷ xs) a = step (same_grant g x) refl (listed_less g h xs (apart_parts x xs a).1)
  where
    none : (b t s : Bool) → s ≡ t → (t ≡ true → b ≡ false) → b ≡ ((t || b) && not s)
    none b t s e k = grind (arith, e, k)

    others : (b t s : Bool) → (t ≡ true → s ≡ false) → (t || (b && not s)) ≡ ((t || b) && not s)
    others b t s k = grind (arith, k)

    step : (b : Bool) → same_grant g x ≡ b → listed (less (same_grant g) xs) h ≡ (listed xs h && not (same_grant h g))
        → listed (cond b xs (x ∷ less (same_grant g) xs)) h ≡ ((same_grant h x || listed xs h) && not (same_grant h g))
    step true e ih =
        none (listed xs h) (same_grant h x) (same_grant h g) (ap (same_grant h) (same_is g x e))
        (λ t. ap (listed xs) (same_is h x t) ∙ (apart_parts x xs a).0)
    step false e ih =
        ap (λ (b : Bool). same_grant h x || b) ih
        ∙ others (listed xs h) (same_grant h x) (same_grant h g) (λ t. ap (λ (y : Grant). same_grant y g) (same_is h x t) ∙ same_flip x g ∙ e)

-- what is left after the grant g was found at i and taken out there
module _ (g : Grant) (xs : List Grant) (i : ℕ) (found : Some i ≡ position (same_grant g) xs) (r : Bool) (told : r ≡ ltb i (length xs)) where
  first : position_from (same_grant g) 0 xs ≡ Some i
  first = sym (found ∙ position_from-zero (same_grant g) xs)

  pub out_lt : i < length xs
  out_lt = omega (arith, (removed_less (same_grant g) 0 i xs first).1)

  pub out_is : with_out r i xs ≡ remove xs i
  out_is = ap (λ (b : Bool). with_out b i xs) (told ∙ lt-ltb i (length xs) out_lt)

  pub listed_found : apart xs ≡ true → (h : Grant) → listed (with_out r i xs) h ≡ (listed xs h && not (same_grant h g))
  listed_found a h =
      let z : i - 0 ≡ i = omega arith in
      ap (λ (l : List Grant). listed l h) (out_is ∙ sym (ap (remove xs) z) ∙ (removed_less (same_grant g) 0 i xs first).2) ∙ listed_less g h xs a
