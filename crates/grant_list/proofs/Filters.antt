-- The loop that takes out the grants that fail a test, from the end down, and what is left.
use Rattle.std.proofs.Common.{◌≡◌, ℕ, suc, ◌+◌, ◌-◌, ◌<◌, ◌≤◌, Bool, true, false, cond, not, ◌&&◌, ◌||◌, ltb, List, [], ◌∷◌, ◌++◌, length, get_or, take, drop, Some, None, Option, sym, refl, ap, ◌∙◌, ap₂, ⊎_elim, arith}
use mathlib.Core.Path.{fun_ext}
use Rattle.std.specs.Prelude.{filter, MatchOption}
use Rattle.std.specs.List.{remove, slice_get}
use Rattle.std.proofs.lemmas.List.{take_more, drop_more, take_at, drop_at, take_all, drop_all, append-nil, append_assoc, length-append, length-take-le, get_or_append_left, get_or-take}
use Rattle.std.proofs.lemmas.Option.{slice_get-get_or}
use Rattle.std.proofs.lemmas.Bool.{cases_Bool, lt-ltb, or_left, or_right}
use Rattle.records.specs.Bounded.{with_out}
use Rattle.matrix.specs.Count.{count}
use Rattle.matrix.specs.Grants.{same_grant, names, in_range}
use Rattle.matrix.specs.Listed.{listed}
use Rattle.matrix.specs.declared.grants.Grant.{Grant}
use Rattle.matrix.proofs.Alikes.{same_is, same_self}
use Rattle.matrix.proofs.Counts.{count-more, count_add}
use Rattle.matrix.proofs.Listing.{held_again}
use Rattle.grant_list.specs.Grants.{away}

-- a list that keeps the grants that pass q holds those of its grants that pass q
pub listed_kept : (q : Grant → Bool) (h : Grant) (xs : List Grant) → listed (filter q xs) h ≡ (listed xs h && q h)
listed_kept q h [] = refl
listed_kept q h (x ∷ xs) = step (q x) refl (listed_kept q h xs) ∙ refl
  where
    stays : (b t k : Bool) → (t ≡ true → k ≡ true) → (t || (b && k)) ≡ ((t || b) && k)
    stays b t k f = grind (arith, f)

    goes : (b t k : Bool) → (t ≡ true → k ≡ false) → (b && k) ≡ ((t || b) && k)
    goes b t k f = grind (arith, f)

    step : (b : Bool) → q x ≡ b → listed (filter q xs) h ≡ (listed xs h && q h)
        → listed (cond b (x ∷ filter q xs) (filter q xs)) h ≡ ((same_grant h x || listed xs h) && q h)
    step true e ih =
        ap (λ (b : Bool). same_grant h x || b) ih
        ∙ stays (listed xs h) (same_grant h x) (q h) (λ t. ap q (same_is h x t) ∙ e)
    step false e ih = ih ∙ goes (listed xs h) (same_grant h x) (q h) (λ t. ap q (same_is h x t) ∙ e)

-- the loop begins with the whole list
pub kept-none : {X : Type 0} (q : X → Bool) (xs : List X) (n : ℕ) → length xs ≤ n → xs ≡ take n xs ++ filter q (drop n xs)
kept-none {X = X} q xs n le = sym (ap (λ (l : List X). take n xs ++ filter q l) (drop_all n xs le) ∙ append-nil (take n xs) ∙ take_all n xs le)

removed_at : {X : Type 0} (a : List X) (x : X) (b : List X) (j : ℕ) → length a ≡ j → remove (a ++ (x ∷ b)) j ≡ a ++ b
removed_at {X = X} a x b j e = ap₂ (λ (l m : List X). l ++ m) (take_at a (x ∷ b) j e)
    (ap (drop (suc j)) (sym (append_assoc a (x ∷ []) b)) ∙ drop_at (a ++ (x ∷ [])) b (suc j) (length-append a (x ∷ []) ∙ omega arith))

-- One turn, at i above 0: below i the list ys is xs, and from i on it has what is kept.
-- What stands at i - 1 is split off the front, and either joins what is kept or is taken out.
module _ {X : Type 0} (q : X → Bool) (xs ys : List X) (i : ℕ) (pos : 0 < i) (le : i ≤ length xs) (is : ys ≡ take i xs ++ filter q (drop i xs)) where
  front_long : length (take i xs) ≡ i
  front_long = length-take-le i xs le

  turn_lt : i - 1 < length ys
  turn_lt = omega (arith, ap length is, length-append (take i xs) (filter q (drop i xs)), front_long)

  turn_some : (x : X) → Some x ≡ slice_get ys (i - 1) → x ≡ get_or xs (i - 1) x
  turn_some x e =
      let h : Some x ≡ Some (get_or ys (i - 1) x) = e ∙ slice_get-get_or ys (i - 1) x turn_lt in
      let same : x ≡ get_or ys (i - 1) x = cc in
      same ∙ ap (λ (l : List X). get_or l (i - 1) x) is
      ∙ get_or_append_left (take i xs) (filter q (drop i xs)) x (i - 1) (omega (arith, front_long)) ∙ get_or-take i xs (i - 1) x (omega arith)

  pub turn_none : None ≡ slice_get ys (i - 1) → ⊥
  turn_none e = let z : ◌≡◌ {A = ℕ} 0 1 = past ys turn_lt e in omega arith
    where
      past : (l : List X) → i - 1 < length l → None ≡ slice_get l (i - 1) → ◌≡◌ {A = ℕ} 0 1
      past [] lt e = absurd (omega arith)
      past (x ∷ l) lt e = let h : None ≡ Some (get_or (x ∷ l) (i - 1) x) = e ∙ slice_get-get_or (x ∷ l) (i - 1) x lt in cc

  module _ (x : X) (read : Some x ≡ slice_get ys (i - 1)) where
    before : ys ≡ take (i - 1) xs ++ (x ∷ filter q (drop i xs))
    before =
        let j = i - 1 in
        let next : i ≡ j + 1 = omega arith in
        is ∙ ap (λ (l : List X). l ++ filter q (drop i xs)) (ap (λ (n : ℕ). take n xs) next ∙ take_more xs j x (omega arith)
        ∙ ap (λ (y : X). take j xs ++ (y ∷ [])) (sym (turn_some x read))) ∙ append_assoc (take j xs) (x ∷ []) (filter q (drop i xs))

    after : (b : Bool) → q x ≡ b → take (i - 1) xs ++ cond b (x ∷ filter q (drop i xs)) (filter q (drop i xs)) ≡ take (i - 1) xs ++ filter q (drop (i - 1) xs)
    after b e =
        let j = i - 1 in
        let next : i ≡ j + 1 = omega arith in
        sym (ap (λ (l : List X). take j xs ++ filter q l) (drop_more xs j x (omega arith)
        ∙ ap₂ (λ (y : X) (n : ℕ). y ∷ drop n xs) (sym (turn_some x read)) (sym next))
        ∙ ap (λ (t : Bool). take j xs ++ cond t (x ∷ filter q (drop i xs)) (filter q (drop i xs))) e)

    pub turn_stays : q x ≡ true → ys ≡ take (i - 1) xs ++ filter q (drop (i - 1) xs)
    turn_stays e = before ∙ after true e

    pub turn_goes : (r : Bool) → q x ≡ false → r ≡ ltb (i - 1) (length ys) → with_out r (i - 1) ys ≡ take (i - 1) xs ++ filter q (drop (i - 1) xs)
    turn_goes r e told =
        ap (λ (b : Bool). with_out b (i - 1) ys) (told ∙ lt-ltb (i - 1) (length ys) turn_lt)
        ∙ ap (λ (l : List X). remove l (i - 1)) before
        ∙ removed_at (take (i - 1) xs) x (filter q (drop i xs)) (i - 1) (length-take-le (i - 1) xs (omega arith)) ∙ after false e

-- the same, by what is told of the record at i - 1: whether it names the place p
module _ (p : ℕ) (xs ys : List Grant) (i : ℕ) (pos : 0 < i) (le : i ≤ length xs) (is : ys ≡ take i xs ++ filter (away p) (drop i xs)) where
  pub turn_named : MatchOption (slice_get ys (i - 1)) (true ≡ false) (λ x. true ≡ names p x) → (r : Bool) → r ≡ ltb (i - 1) (length ys)
      → with_out r (i - 1) ys ≡ take (i - 1) xs ++ filter (away p) (drop (i - 1) xs)
  turn_named m r told = by (slice_get ys (i - 1)) refl m
    where
      by : (o : Option Grant) → o ≡ slice_get ys (i - 1) → MatchOption o (true ≡ false) (λ x. true ≡ names p x)
          → with_out r (i - 1) ys ≡ take (i - 1) xs ++ filter (away p) (drop (i - 1) xs)
      by None e m = absurd (turn_none (away p) xs ys i pos le is e)
      by (Some x) e m = turn_goes (away p) xs ys i pos le is x e r (sym (ap not m)) told

  pub turn_unnamed : MatchOption (slice_get ys (i - 1)) (false ≡ false) (λ x. false ≡ names p x) → ys ≡ take (i - 1) xs ++ filter (away p) (drop (i - 1) xs)
  turn_unnamed m = by (slice_get ys (i - 1)) refl m
    where
      by : (o : Option Grant) → o ≡ slice_get ys (i - 1) → MatchOption o (false ≡ false) (λ x. false ≡ names p x)
          → ys ≡ take (i - 1) xs ++ filter (away p) (drop (i - 1) xs)
      by None e m = absurd (turn_none (away p) xs ys i pos le is e)
      by (Some x) e m = turn_stays (away p) xs ys i pos le is x e (sym (ap not m))

-- one grant more, which may be there already
count-step : (n : ℕ) (f : Grant → Bool) (g : Grant) → in_range n g ≡ true → count n (λ h. f h || same_grant h g) ≤ count n f + 1
count-step n f g range = ⊎_elim
    (λ (e : f g ≡ true). omega (arith, sym (ap (count n) (fun_ext (λ h. held_again f g h e)))))
    (λ (e : f g ≡ false). omega (arith, count-more n f g range e))
    (cases_Bool (f g))

-- The rights that name p are no more than the records that go.
-- Record by record: one that names p adds at most one right, and another adds none.
pub count_gone : (n p : ℕ) (xs : List Grant) → ((h : Grant) → listed xs h ≡ true → in_range n h ≡ true)
    → count n (λ h. listed xs h && names p h) + length (filter (away p) xs) ≤ length xs
count_gone n p [] ranges = omega (arith, count_add n (λ _. false) (λ _. false) (λ _. false) (λ _. refl))
count_gone n p (x ∷ xs) ranges =
    step (names p x) refl (count_gone n p xs (λ h e. ranges h (or_right (same_grant h x) (listed xs h) e)))
  where
    here : in_range n x ≡ true
    here = ranges x (or_left (same_grant x x) (listed xs x) (same_self x))

    -- t: x or a later record is the right; b: a later one is; s: x is; k: the right names p
    more : (t b s k : Bool) → t ≡ (s || b) → (s ≡ true → k ≡ true) → (t && k) ≡ ((b && k) || s)
    more t b s k e f = grind (arith, e, f)

    none : (t b s k : Bool) → t ≡ (s || b) → (s ≡ true → k ≡ false) → (t && k) ≡ (b && k)
    none t b s k e f = grind (arith, e, f)

    step : (b : Bool) → names p x ≡ b → count n (λ h. listed xs h && names p h) + length (filter (away p) xs) ≤ length xs
        → count n (λ h. listed (x ∷ xs) h && names p h) + length (cond (not b) (x ∷ filter (away p) xs) (filter (away p) xs)) ≤ length (x ∷ xs)
    step true e ih = omega (
      arith,
      ih,
      count-step n (λ h. listed xs h && names p h) x here,
      ap (count n) (fun_ext (λ h. more (listed (x ∷ xs) h) (listed xs h) (same_grant h x) (names p h) refl (λ t. ap (names p) (same_is h x t) ∙ e))),
    )
    step false e ih = omega (
      arith,
      ih,
      ap (count n) (fun_ext (λ h. none (listed (x ∷ xs) h) (listed xs h) (same_grant h x) (names p h) refl (λ t. ap (names p) (same_is h x t) ∙ e))),
    )
