-- How the number of the rights that a test lets through follows the test.
use Rattle.std.proofs.Common.{◌≡◌, ℕ, zero, suc, ◌+◌, ◌*◌, ◌<◌, ◌≤◌, Bool, true, false, cond, ◌||◌, sym, refl, ap, ◌∙◌, mul_assoc, arith}
use Rattle.matrix.specs.Count.{sum_below, grant, cell_count, count}
use Rattle.matrix.specs.Grants.{same_grant, in_range}
use Rattle.matrix.specs.declared.grants.Grant.{Grant}
use Rattle.matrix.proofs.Sums.{sum_same, sum_bump, sum_zero, sum_le, sum_add}
use Rattle.matrix.proofs.Fillings.{range_in}
use Rattle.matrix.proofs.Alikes.{same_self}
use Rattle.std.proofs.lemmas.Bool.{or_right}
use Rattle.std.proofs.lemmas.Bool.Decides.{nat_tests}

abbrev one : Bool → ℕ
one b = cond b 1 0

cell_same : (f g : Grant → Bool) (r c : ℕ) → ((k : ℕ) → g (grant k r c) ≡ f (grant k r c)) → cell_count g r c ≡ cell_count f r c
unfolding cell_count
cell_same f g r c e = sum_same 32 (λ k. one (f (grant (suc k) r c))) (λ k. one (g (grant (suc k) r c))) (λ k h. ap one (e (suc k)))

cell_le : (f : Grant → Bool) (r c : ℕ) → cell_count f r c ≤ 32
unfolding cell_count
cell_le f r c = sum_le 32 1 (λ k. one (f (grant (suc k) r c))) (λ k. one_le (f (grant (suc k) r c)))
  where
    one_le : (b : Bool) → one b ≤ 1
    one_le true = omega arith
    one_le false = omega arith

pub count_le : (n : ℕ) (f : Grant → Bool) → count n f ≤ 32 * (n * n)
unfolding count
count_le n f = omega (
  arith,
  sum_le n (n * 32) (λ r. sum_below n (λ c. cell_count f (suc r) (suc c)))
      (λ r. sum_le n 32 (λ c. cell_count f (suc r) (suc c)) (λ c. cell_le f (suc r) (suc c))),
  mul_assoc n n 32,
)

-- one right more
module _ (n : ℕ) (f g : Grant → Bool) (k r c : ℕ) (right : k < 32) (row : r < n) (column : c < n)
    (was : f (grant (suc k) (suc r) (suc c)) ≡ false) (is : g (grant (suc k) (suc r) (suc c)) ≡ true)
    (others : (k' r' c' : ℕ) → ((k' ≡ suc k) → (r' ≡ suc r) → (c' ≡ suc c) → ⊥) → g (grant k' r' c') ≡ f (grant k' r' c')) where
  cell-more : cell_count g (suc r) (suc c) ≡ cell_count f (suc r) (suc c) + 1
  unfolding cell_count
  cell-more = sum_bump 32 (λ i. one (f (grant (suc i) (suc r) (suc c)))) (λ i. one (g (grant (suc i) (suc r) (suc c)))) k right
      (ap one is ∙ sym (ap (λ (b : Bool). one b + 1) was))
      (λ i d. ap one (others (suc i) (suc r) (suc c) (λ e _ _. d (omega arith))))

  count_bump : count n g ≡ count n f + 1
  unfolding count
  count_bump = sum_bump n (λ i. sum_below n (λ j. cell_count f (suc i) (suc j))) (λ i. sum_below n (λ j. cell_count g (suc i) (suc j))) r row
      (sum_bump n (λ j. cell_count f (suc r) (suc j)) (λ j. cell_count g (suc r) (suc j)) c column cell-more
      (λ j d. cell_same f g (suc r) (suc j) (λ k'. others k' (suc r) (suc j) (λ _ _ e. d (omega arith)))))
      (λ i d. sum_same n (λ j. cell_count f (suc i) (suc j)) (λ j. cell_count g (suc i) (suc j))
      (λ j h. cell_same f g (suc i) (suc j) (λ k'. others k' (suc i) (suc j) (λ _ e _. d (omega arith)))))

-- a grant in range that f lacks is let through as well
pub count-more : (n : ℕ) (f : Grant → Bool) (g : Grant) → in_range n g ≡ true → f g ≡ false → count n (λ h. f h || same_grant h g) ≡ count n f + 1
count-more n f g range new = step g.right g.row g.column range new
  where
    or_none : (a b : Bool) → b ≡ false → (a || b) ≡ a
    or_none true b h = refl
    or_none false b h = h

    other : (k r c : ℕ) (g : Grant) → ((k ≡ g.right) → (r ≡ g.row) → (c ≡ g.column) → ⊥) → same_grant (grant k r c) g ≡ false
    other k r c g d = grind (arith, nat_tests)

    step : (k r c : ℕ) → in_range n (grant k r c) ≡ true → f (grant k r c) ≡ false → count n (λ h. f h || same_grant h (grant k r c)) ≡ count n f + 1
    step zero r c i e = absurd (omega (arith, range_in n (grant 0 r c) i))
    step (suc k) zero c i e = absurd (omega (arith, range_in n (grant (suc k) 0 c) i))
    step (suc k) (suc r) zero i e = absurd (omega (arith, range_in n (grant (suc k) (suc r) 0) i))
    step (suc k) (suc r) (suc c) i e =
        let at = grant (suc k) (suc r) (suc c) in
        let in' = range_in n at i in
        count_bump n f (λ h. f h || same_grant h at) k r c (omega arith) (omega arith) (omega arith) e
        (or_right (f at) (same_grant at at) (same_self at))
        (λ k' r' c' d. or_none (f (grant k' r' c')) (same_grant (grant k' r' c') at) (other k' r' c' at d))

-- the rights that f lets through are those of g and those of h
pub count_add : (n : ℕ) (f g h : Grant → Bool) → ((x : Grant) → one (f x) ≡ one (g x) + one (h x)) → count n f ≡ count n g + count n h
unfolding count cell_count
count_add n f g h e =
    sum_add n _ _ _ (λ r. sum_add n _ _ _ (λ c. sum_add 32 _ _ _ (λ k. e (grant (suc k) (suc r) (suc c)))))

-- where no right is let through
pub count_none : (n : ℕ) → count n (λ _. false) ≡ 0
unfolding count cell_count
count_none n = sum_zero n _ (λ r. sum_zero n _ (λ c. sum_zero 32 _ (λ k. refl)))
