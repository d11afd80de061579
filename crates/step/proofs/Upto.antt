-- What holds of each number of 1 to n.
use Rattle.std.proofs.Common.{◌≡◌, ℕ, zero, suc, ◌+◌, ◌-◌, ◌<◌, ◌≤◌, Bool, true, false, ◌&&◌, sym, refl, ap, ◌∙◌, ap₂, ⊎_elim, add-one, add-zero, arith}
use Rattle.std.specs.List.{list_all, range_with_len}
use Rattle.std.proofs.lemmas.Bool.{cases_eq, cases_Bool, false≢true, and_parts, and_from}
use Rattle.step.specs.Steps.{all_to}

-- the same for n numbers from a on
more : (a n : ℕ) (f : ℕ → Bool) → list_all f (range_with_len a n) ≡ true → f (a + n) ≡ true → list_all f (range_with_len a (suc n)) ≡ true
more a zero f all next = and_from (f a) true (sym (ap f (add-zero a)) ∙ next) refl
more a (suc n) f all next =
    let two = and_parts (f a) (list_all f (range_with_len (a + 1) n)) all in
    let end : (a + 1) + n ≡ a + suc n = omega arith in
    and_from (f a) (list_all f (range_with_len (a + 1) (suc n))) two.0 (more (a + 1) n f two.1 (ap f end ∙ next))

at : (a n i : ℕ) (f : ℕ → Bool) → list_all f (range_with_len a n) ≡ true → a ≤ i → i < a + n → f i ≡ true
at a zero i f all low high = absurd (omega arith)
at a (suc n) i f all low high =
    let two = and_parts (f a) (list_all f (range_with_len (a + 1) n)) all in
    ⊎_elim (λ (e : i ≡ a). ap f e ∙ two.0) (λ (d : i ≡ a → ⊥). at (a + 1) n i f two.1 (omega arith) (omega arith)) (cases_eq i a)

same : (a n : ℕ) (f g : ℕ → Bool) → ((i : ℕ) → a ≤ i → i < a + n → g i ≡ f i) → list_all g (range_with_len a n) ≡ list_all f (range_with_len a n)
same a zero f g e = refl
same a (suc n) f g e =
    ap₂ (λ (b c : Bool). b && c) (e a (omega arith) (omega arith)) (same (a + 1) n f g (λ i low high. e i (omega arith) (omega arith)))

pub all_to_more : (n : ℕ) (f : ℕ → Bool) → all_to n f ≡ true → f (n + 1) ≡ true → all_to (n + 1) f ≡ true
all_to_more n f all next =
    let end : 1 + n ≡ n + 1 = omega arith in ap (λ (m : ℕ). all_to m f) (add-one n) ∙ more 1 n f all (ap f end ∙ next)

pub all_to_next : (i n : ℕ) (f : ℕ → Bool) → 1 ≤ i → n ≡ i → all_to (i - 1) f ≡ true → f i ≡ true → all_to n f ≡ true
all_to_next i n f low is all next =
    let back : i - 1 + 1 ≡ i = omega arith in
    let end : n ≡ i - 1 + 1 = omega arith in
    ap (λ (m : ℕ). all_to m f) end ∙ all_to_more (i - 1) f all (ap f back ∙ next)

pub all_to_at : (n i : ℕ) (f : ℕ → Bool) → all_to n f ≡ true → 1 ≤ i → i ≤ n → f i ≡ true
all_to_at n i f all low high = at 1 n i f all low (omega arith)

pub all_to_same : (n : ℕ) (f g : ℕ → Bool) → ((i : ℕ) → 1 ≤ i → i ≤ n → g i ≡ f i) → all_to n g ≡ all_to n f
all_to_same n f g e = same 1 n f g (λ i low high. e i low (omega arith))

pub all_to_off : (n i : ℕ) (f : ℕ → Bool) → 1 ≤ i → i ≤ n → f i ≡ false → all_to n f ≡ false
all_to_off n i f low high off = ⊎_elim (λ (on : all_to n f ≡ true). absurd (false≢true (sym off ∙ all_to_at n i f on low high))) (λ e. e) (cases_Bool (all_to n f))
