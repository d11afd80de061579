-- The rights in the cells after one cell was written.
use Rattle.std.proofs.Common.{◌≡◌, ℕ, ◌-◌, ◌*◌, ◌^◌, ◌≤◌, Bool, true, false, not, ◌&&◌, ◌||◌, eqb, ◌≢◌, List, length, get_or, set, sym, refl, ap, ◌∙◌, ap₂, ⊎_elim, arith}
use lib.Bits.{bit_or, bit_xor}
use Rattle.std.proofs.lemmas.List.{get_or-set_same, get_or-set_other}
use Rattle.std.proofs.lemmas.Bool.{cases_eq, cases_Bool, and_parts, eqb-true, eq-eqb, ne_eqb}
use Rattle.std.proofs.lemmas.Bool.Decides.{nat_tests}
use Rattle.matrix.specs.Grants.{same_grant, in_range}
use Rattle.matrix.specs.declared.grants.Grant.{Grant}
use Rattle.matrix.proofs.Alikes.{same_is}
use Rattle.matrix.proofs.Fillings.{range_in}
use Rattle.grid.specs.Cells.{bit, cell_at, in_cells}
use Rattle.grid.proofs.Bits.{bit_set_same, bit_set_other, bit_clear_same, bit_clear_other}
use Rattle.grid.proofs.Places.{cell_lt, cell_one}

abbrev on : ℕ → ℕ → Bool
on k c = eqb (bit k c) 1

-- the number y is written into the cell of g: its bits are those of the old one, but for g's own
module _ (n : ℕ) (cells : List ℕ) (g : Grant) (whole : n * n ≤ length cells) (range : in_range n g ≡ true) (y : ℕ)
    (op : Bool → Bool → Bool) (keeps : (b : Bool) → op b false ≡ b)
    (bits_are : (k : ℕ) → on k y ≡ op (on k (get_or cells (cell_at n g) 0)) (eqb k (g.right - 1))) where
  -- at the same cell the rights tell two grants apart, at another the grants differ
  bit-after : (h : Grant) → in_range n h ≡ true
      → on (h.right - 1) (get_or (set cells (cell_at n g) y) (cell_at n h) 0) ≡ op (on (h.right - 1) (get_or cells (cell_at n h) 0)) (same_grant h g)
  bit-after h j = ⊎_elim
      (λ (e : cell_at n h ≡ cell_at n g).
      let old : get_or cells (cell_at n h) 0 ≡ get_or cells (cell_at n g) 0 = ap (λ (i : ℕ). get_or cells i 0) e in
      let new : get_or (set cells (cell_at n g) y) (cell_at n h) 0 ≡ y =
      ap (λ (i : ℕ). get_or (set cells (cell_at n g) y) i 0) e ∙ get_or-set_same cells (cell_at n g) y 0 (omega (arith, cell_lt n g range)) in
      ap (on (h.right - 1)) new ∙ bits_are (h.right - 1)
      ∙ ap₂ op (sym (ap (on (h.right - 1)) old)) (by_right h (range_in n g range) (range_in n h j) (cell_one n g h range j e)))
      (λ (d : cell_at n h ≢ cell_at n g).
      ap (on (h.right - 1)) (get_or-set_other cells (cell_at n g) (cell_at n h) y 0 d)
      ∙ sym (keeps _) ∙ sym (ap (op (on (h.right - 1) (get_or cells (cell_at n h) 0))) (differs h d)))
      (cases_eq (cell_at n h) (cell_at n g))
    where
      by_right : (h : Grant) → (1 ≤ g.right) × (g.right ≤ 32) × (1 ≤ g.row) × (g.row ≤ n) × (1 ≤ g.column) × (g.column ≤ n)
          → (1 ≤ h.right) × (h.right ≤ 32) × (1 ≤ h.row) × (h.row ≤ n) × (1 ≤ h.column) × (h.column ≤ n)
          → (h.row ≡ g.row) × (h.column ≡ g.column) → eqb (h.right - 1) (g.right - 1) ≡ same_grant h g
      by_right h i j e = grind (arith, nat_tests)

      differs : (h : Grant) → cell_at n h ≢ cell_at n g → same_grant h g ≡ false
      differs h d = ⊎_elim (λ (e : same_grant h g ≡ true). absurd (d (ap (cell_at n) (same_is h g e)))) (λ f. f) (cases_Bool (same_grant h g))

  held_after : (h : Grant) → in_cells n (set cells (cell_at n g) y) h ≡ (in_range n h && op (on (h.right - 1) (get_or cells (cell_at n h) 0)) (same_grant h g))
  unfolding in_cells
  held_after h = guard (in_range n h) (bit-after h)
    where
      guard : {x z : Bool} (b : Bool) → (b ≡ true → x ≡ z) → (b && x) ≡ (b && z)
      guard true f = f refl
      guard false f = refl

pub held_in : (n : ℕ) (cells : List ℕ) (g : Grant) → in_cells n cells g ≡ true → (in_range n g ≡ true) × (bit (g.right - 1) (get_or cells (cell_at n g) 0) ≡ 1)
unfolding in_cells
held_in n cells g h = let f = and_parts (in_range n g) _ h in (f.0, eqb-true _ _ f.1)

-- where a grant is in range, its bit decides
pub bit_decides : (n : ℕ) (cells : List ℕ) (g : Grant) → in_range n g ≡ true → in_cells n cells g ≡ on (g.right - 1) (get_or cells (cell_at n g) 0)
unfolding in_cells
bit_decides n cells g i = ap (λ (b : Bool). b && on (g.right - 1) (get_or cells (cell_at n g) 0)) i

module _ (n : ℕ) (cells : List ℕ) (g : Grant) (whole : n * n ≤ length cells) (range : in_range n g ≡ true) where
  pub cells_entered : (h : Grant) → in_cells n (set cells (cell_at n g) (bit_or (get_or cells (cell_at n g) 0) (2 ^ (g.right - 1)))) h ≡ (in_cells n cells h || same_grant h g)
  unfolding in_cells
  cells_entered h = held_after n cells g whole range _ ◌||◌ or_false set-bits h ∙ spread (in_range n h) _ (same_grant h g) (λ e. ap (in_range n) (same_is h g e) ∙ range)
    where
      or_false : (b : Bool) → (b || false) ≡ b
      or_false true = refl
      or_false false = refl

      spread : (a b t : Bool) → (t ≡ true → a ≡ true) → (a && (b || t)) ≡ ((a && b) || t)
      spread true b t f = refl
      spread false b true f = absurd (let z : false ≡ true = f refl in let y : ◌≡◌ {A = ℕ} 0 1 = cc in omega arith)
      spread false b false f = refl

      set-bits : (k : ℕ) → on k (bit_or (get_or cells (cell_at n g) 0) (2 ^ (g.right - 1))) ≡ (on k (get_or cells (cell_at n g) 0) || eqb k (g.right - 1))
      set-bits k = ⊎_elim
          (λ (e : k ≡ g.right - 1).
          ap (λ (b : ℕ). eqb b 1) (ap (λ (j : ℕ). bit j (bit_or (get_or cells (cell_at n g) 0) (2 ^ (g.right - 1)))) e ∙ bit_set_same (g.right - 1) (get_or cells (cell_at n g) 0))
          ∙ sym (or_true (on k (get_or cells (cell_at n g) 0)) (eqb k (g.right - 1)) (eq-eqb k (g.right - 1) e)))
          (λ (d : k ≢ g.right - 1).
          ap (λ (b : ℕ). eqb b 1) (bit_set_other k (g.right - 1) (get_or cells (cell_at n g) 0) d)
          ∙ sym (ap (λ (b : Bool). on k (get_or cells (cell_at n g) 0) || b) (ne_eqb k (g.right - 1) d) ∙ or_false _))
          (cases_eq k (g.right - 1))
        where
          or_true : (a b : Bool) → b ≡ true → (a || b) ≡ true
          or_true true b e = refl
          or_true false b e = e

  pub cells_deleted : in_cells n cells g ≡ true → (h : Grant)
      → in_cells n (set cells (cell_at n g) (bit_xor (get_or cells (cell_at n g) 0) (2 ^ (g.right - 1)))) h ≡ (in_cells n cells h && not (same_grant h g))
  unfolding in_cells
  cells_deleted held h = held_after n cells g whole range _ (λ b t. b && not t) and_true clear_bits h ∙ regroup (in_range n h) _ (not (same_grant h g))
    where
      and_true : (b : Bool) → (b && true) ≡ b
      and_true true = refl
      and_true false = refl

      regroup : (a b t : Bool) → (a && (b && t)) ≡ ((a && b) && t)
      regroup true b t = refl
      regroup false b t = refl

      and_false : (a : Bool) → (a && false) ≡ false
      and_false true = refl
      and_false false = refl

      clear_bits : (k : ℕ) → on k (bit_xor (get_or cells (cell_at n g) 0) (2 ^ (g.right - 1))) ≡ (on k (get_or cells (cell_at n g) 0) && not (eqb k (g.right - 1)))
      clear_bits k = ⊎_elim
          (λ (e : k ≡ g.right - 1).
          ap (λ (b : ℕ). eqb b 1) (ap (λ (j : ℕ). bit j (bit_xor (get_or cells (cell_at n g) 0) (2 ^ (g.right - 1)))) e
          ∙ bit_clear_same (g.right - 1) (get_or cells (cell_at n g) 0) (held_in n cells g held).1)
          ∙ sym (ap (λ (b : Bool). on k (get_or cells (cell_at n g) 0) && not b) (eq-eqb k (g.right - 1) e) ∙ and_false _))
          (λ (d : k ≢ g.right - 1).
          ap (λ (b : ℕ). eqb b 1) (bit_clear_other k (g.right - 1) (get_or cells (cell_at n g) 0) d)
          ∙ sym (ap (λ (b : Bool). on k (get_or cells (cell_at n g) 0) && not b) (ne_eqb k (g.right - 1) d) ∙ and_true _))
          (cases_eq k (g.right - 1))
