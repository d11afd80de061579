-- The bits of the n × n cells are the rights held.
use Rattle.std.proofs.Common.{◌≡◌, ℕ, zero, suc, ◌+◌, ◌-◌, ◌*◌, ◌<◌, ◌≤◌, Bool, true, cond, eqb, List, [], ◌∷◌, length, get_or, take, sum_by, sym, refl, ap, ◌∙◌, ap₂, add-zero, add_assoc, suc-mul, zero-mul, arith}
use Rattle.std.proofs.lemmas.List.{length-take-le, get_or-take}
use Rattle.std.proofs.lemmas.List.Sums.{sum_by-cons}
use Rattle.std.proofs.lemmas.Bool.Decides.{nat_tests}
use Rattle.matrix.specs.Count.{sum_below, grant, cell_count, count}
use Rattle.matrix.specs.Grants.{in_range}
use Rattle.matrix.proofs.Sums.{sum_same, sum_first}
use Rattle.grid.specs.Cells.{bit, bits, in_cells}
use Rattle.grid.proofs.Bits.{bit_lt}
use Rattle.grid.proofs.Writes.{bit_decides}

sum_list : (f : ℕ → ℕ) (xs : List ℕ) → sum_by f xs ≡ sum_below (length xs) (λ i. f (get_or xs i 0))
sum_list f [] = refl
sum_list f (x ∷ xs) =
    sum_by-cons f x xs ∙ ap (λ (z : ℕ). f x + z) (sum_list f xs) ∙ sym (sum_first (length xs) (λ i. f (get_or (x ∷ xs) i 0)))

sum_append : (a m : ℕ) (F : ℕ → ℕ) → sum_below (a + m) F ≡ sum_below a F + sum_below m (λ i. F (a + i))
sum_append a zero F = ap (λ (z : ℕ). sum_below z F) (add-zero a) ∙ sym (add-zero (sum_below a F))
sum_append a (suc m) F =
    ap (λ (z : ℕ). sum_below z F) next ∙ ap (λ (z : ℕ). z + F (a + m)) (sum_append a m F) ∙ add_assoc (sum_below a F) (sum_below m (λ i. F (a + i))) (F (a + m))
  where
    next : a + suc m ≡ suc (a + m)
    next = omega arith

-- row after row
sum_rows : (n m : ℕ) (F : ℕ → ℕ) → sum_below (n * m) F ≡ sum_below n (λ r. sum_below m (λ c. F (r * m + c)))
sum_rows zero m F = ap (λ (z : ℕ). sum_below z F) (zero-mul m)
sum_rows (suc n) m F =
    ap (λ (z : ℕ). sum_below z F) (suc-mul n m) ∙ sum_append (n * m) m F ∙ ap (λ (z : ℕ). z + sum_below m (λ c. F (n * m + c))) (sum_rows n m F)

module _ (n : ℕ) (cells : List ℕ) where
  -- one right of one cell
  right_bit : (r c k : ℕ) → r < n → c < n → k < 32 → bit k (get_or cells (r * n + c) 0) ≡ cond (in_cells n cells (grant (suc k) (suc r) (suc c))) 1 0
  right_bit r c k hr hc hk =
      one (bit k (get_or cells (r * n + c) 0)) (bit_lt k (get_or cells (r * n + c) 0))
      ∙ ap (λ (b : Bool). cond b 1 0)
      (ap₂ (λ (j i : ℕ). eqb (bit j (get_or cells i 0)) 1) (back k) (ap₂ (λ (y z : ℕ). y * n + z) (back r) (back c))
      ∙ sym (bit_decides n cells (grant (suc k) (suc r) (suc c)) (inside k r c hr hc hk)))
    where
      one : (b : ℕ) → b < 2 → b ≡ cond (eqb b 1) 1 0
      one b h = grind (arith, nat_tests)

      back : (p : ℕ) → p ≡ suc p - 1
      back p = omega arith

      inside : (k r c : ℕ) → r < n → c < n → k < 32 → in_range n (grant (suc k) (suc r) (suc c)) ≡ true
      inside k r c hr hc hk = grind (arith, nat_tests)

  cell-bits : (r c : ℕ) → r < n → c < n → bits (get_or cells (r * n + c) 0) ≡ cell_count (in_cells n cells) (suc r) (suc c)
  unfolding bits cell_count
  cell-bits r c hr hc =
      sum_same 32 (λ k. cond (in_cells n cells (grant (suc k) (suc r) (suc c))) 1 0) (λ k. bit k (get_or cells (r * n + c) 0)) (λ k hk. right_bit r c k hr hc hk)

  pub total_held : n * n ≤ length cells → sum_by bits (take (n * n) cells) ≡ count n (in_cells n cells)
  unfolding count
  total_held whole =
      sum_list bits (take (n * n) cells)
      ∙ ap (λ (z : ℕ). sum_below z (λ i. bits (get_or (take (n * n) cells) i 0))) (length-take-le (n * n) cells whole)
      ∙ sum_same (n * n) (λ i. bits (get_or cells i 0)) (λ i. bits (get_or (take (n * n) cells) i 0)) (λ i h. ap bits (get_or-take (n * n) cells i 0 h))
      ∙ sum_rows n n (λ i. bits (get_or cells i 0))
      ∙ sum_same n (λ r. sum_below n (λ c. cell_count (in_cells n cells) (suc r) (suc c))) (λ r. sum_below n (λ c. bits (get_or cells (r * n + c) 0)))
      (λ r hr. sum_same n (λ c. cell_count (in_cells n cells) (suc r) (suc c)) (λ c. bits (get_or cells (r * n + c) 0)) (λ c hc. cell-bits r c hr hc))
