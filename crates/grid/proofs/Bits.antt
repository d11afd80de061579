-- The bits of a cell: one set, one cleared, and how many there are.
use Rattle.std.proofs.Common.{◌≡◌, ℕ, zero, suc, ◌+◌, ◌-◌, ◌*◌, ◌/◌, ◌%◌, ◌^◌, ◌<◌, ◌≤◌, max, ◌≢◌, List, [], ◌∷◌, length, get_or, sum_by, sym, refl, ap, ◌∙◌, subst, ap₂, ⊎_elim, mod-lt, pow-suc, div-one, add-one, arith, lit<}
use native.Mathlib.Nat.{div-eq_of_lt, div_self, mul-mod_left}
use lib.Bits.{bit_or, bit_xor, or_step, xor_step, differ}
use lib.Count.{ones, ones_step}
use Rattle.std.proofs.lemmas.Nat.{or_shr, xor_shr, mod_low, shl-shr, shr-shr, shr_below, pow-add, pow_below, pow_pos}
use Rattle.std.proofs.lemmas.List.Sums.{sum_by-cons}
use Rattle.std.proofs.lemmas.Bool.{cases_order}
use Rattle.matrix.specs.Count.{sum_below}
use Rattle.grid.specs.Cells.{bit, bits}
use Rattle.matrix.proofs.Sums.{sum_same, sum_first, sum_le}

mod2 : (n : ℕ) → n % 2 < 2
mod2 n = mod-lt n (lit< tt)

pub bit_lt : (k c : ℕ) → bit k c < 2
bit_lt k c = mod2 (c / 2 ^ k)

pub bit-or : (k a b : ℕ) → bit k (bit_or a b) ≡ max (bit k a) (bit k b)
bit-or k a b =
    let x = a / 2 ^ k in
    let y = b / 2 ^ k in
    ap (λ (z : ℕ). z % 2) (or_shr a b k ∙ or_step x y)
    ∙ mod_low (bit_or (x / 2) (y / 2)) 1 (max (x % 2) (y % 2)) (omega (arith, mod2 x, mod2 y))

pub bit_pow_same : (k : ℕ) → bit k (2 ^ k) ≡ 1
bit_pow_same k = ap (λ (z : ℕ). z % 2) (div_self (pow_pos k))

pub bit_pow_other : (j k : ℕ) → j ≢ k → bit j (2 ^ k) ≡ 0
bit_pow_other j k d = ⊎_elim
    (λ (e : j ≡ k). absurd (d e))
    (⊎_elim
    (λ (h : j < k).
    let m = k - suc j in
    let split : 2 ^ k ≡ (2 ^ m * 2) * 2 ^ j = ap (λ (z : ℕ). 2 ^ z) (omega arith) ∙ pow-add 2 (suc m) j ∙ ap (λ (z : ℕ). z * 2 ^ j) (pow-suc 2 m) in
    ap (λ (z : ℕ). z / 2 ^ j % 2) split ∙ ap (λ (z : ℕ). z % 2) (shl-shr (2 ^ m * 2) j) ∙ mul-mod_left (2 ^ m) 2)
    (λ (h : k < j). ap (λ (z : ℕ). z % 2) (div-eq_of_lt (pow_below k j h))))
    (cases_order j k)

-- setting a bit: which are set then
pub bit_set_same : (k c : ℕ) → bit k (bit_or c (2 ^ k)) ≡ 1
bit_set_same k c = omega (arith, bit-or k c (2 ^ k), bit_pow_same k, bit_lt k c)

pub bit_set_other : (j k c : ℕ) → j ≢ k → bit j (bit_or c (2 ^ k)) ≡ bit j c
bit_set_other j k c d = omega (arith, bit-or j c (2 ^ k), bit_pow_other j k d)

pub bits_le : (c : ℕ) → bits c ≤ 32
unfolding bits
bits_le c = sum_le 32 1 (λ k. bit k c) (λ i. omega (arith, bit_lt i c))

ones_zero : ones 0 ≡ 0
unfolding ones
ones_zero = refl

-- a number of d bits has as many of them set as `ones` says
ones_below : (d c : ℕ) → c < 2 ^ d → ones c ≡ sum_below d (λ k. bit k c)
ones_below zero c h = let z : c ≡ 0 = omega arith in ap ones z ∙ ones_zero
ones_below (suc d) c h =
    ones_step c
    ∙ ap (λ (z : ℕ). c % 2 + z) (ones_below d (c / 2) (shr_below c d 1 (subst (λ (z : ℕ). c < 2 ^ z) (sym (add-one d)) h))
    ∙ sum_same d (λ k. bit (suc k) c) (λ k. bit k (c / 2)) (λ i l. ap (λ (z : ℕ). z % 2) (shr-shr c 1 i ∙ ap (λ (z : ℕ). c / 2 ^ z) (omega arith))))
    ∙ sym (sum_first d (λ k. bit k c) ∙ ap (λ (z : ℕ). z % 2 + sum_below d (λ k. bit (suc k) c)) (div-one c))

pub ones_bits : (c : ℕ) → c < 2 ^ 32 → ones c ≡ bits c
unfolding bits
ones_bits c h = ones_below 32 c h

pub ones_cells : (cells : List ℕ) → ((k : ℕ) → get_or cells k 0 < 2 ^ 32) → sum_by ones cells ≡ sum_by bits cells
ones_cells [] h = refl
ones_cells (c ∷ cells) h = sum_by-cons ones c cells ∙ ap₂ (λ (x y : ℕ). x + y) (ones_bits c (h 0)) (ones_cells cells (λ k. h (suc k))) ∙ sym (sum_by-cons bits c cells)

pub held_le : (cells : List ℕ) → sum_by bits cells ≤ 32 * length cells
held_le [] = omega arith
held_le (c ∷ cells) = omega (arith, sum_by-cons bits c cells, bits_le c, held_le cells)

bit-differ : (k a b : ℕ) → bit k (bit_xor a b) ≡ differ (bit k a) (bit k b)
bit-differ k a b =
    let x = a / 2 ^ k in
    let y = b / 2 ^ k in
    ap (λ (z : ℕ). z % 2) (xor_shr a b k ∙ xor_step x y)
    ∙ mod_low (bit_xor (x / 2) (y / 2)) 1 (differ (x % 2) (y % 2)) (differ_lt (x % 2) (y % 2) (mod2 x) (mod2 y))
  where
    differ_lt : (u v : ℕ) → u < 2 → v < 2 → differ u v < 2
    differ_lt zero v hu hv = hv
    differ_lt (suc u) zero hu hv = hu
    differ_lt (suc u) (suc v) hu hv = differ_lt u v (omega arith) (omega arith)

-- clearing a bit that is set
pub bit_clear_same : (k c : ℕ) → bit k c ≡ 1 → bit k (bit_xor c (2 ^ k)) ≡ 0
bit_clear_same k c on = bit-differ k c (2 ^ k) ∙ ap₂ differ on (bit_pow_same k)

pub bit_clear_other : (j k c : ℕ) → j ≢ k → bit j (bit_xor c (2 ^ k)) ≡ bit j c
bit_clear_other j k c d = bit-differ j c (2 ^ k) ∙ ap (differ (bit j c)) (bit_pow_other j k d) ∙ zero_right (bit j c)
  where
    zero_right : (x : ℕ) → differ x 0 ≡ x
    zero_right zero = refl
    zero_right (suc x) = refl
