-- How many rights a test on grants lets through.
use Rattle.std.specs.Prelude.{ℕ, zero, suc, ◌+◌, Bool, cond}
use Rattle.matrix.specs.declared.grants.Grant.{Grant}

-- f 0 + .. + f (n - 1)
abbrev pub sum_below : ℕ → (ℕ → ℕ) → ℕ
sum_below zero f = 0
sum_below (suc n) f = sum_below n f + f n

abbrev pub grant : ℕ → ℕ → ℕ → Grant
grant k r c = record { right = k; row = r; column = c }

-- of the rights 1 to 32 in one cell
unfoldable pub cell_count : (Grant → Bool) → ℕ → ℕ → ℕ
cell_count test r c = sum_below 32 (λ k. cond (test (grant (suc k) r c)) 1 0)

-- over the places 1 to n as rows and as columns
unfoldable pub count : ℕ → (Grant → Bool) → ℕ
count n test = sum_below n (λ r. sum_below n (λ c. cell_count test (suc r) (suc c)))
