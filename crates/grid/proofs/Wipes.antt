-- A loop that clears the row and the column of a place, one cell of each a turn.
use Rattle.std.proofs.Common.{◌≡◌, ℕ, ◌+◌, ◌-◌, ◌*◌, ◌/◌, ◌%◌, ◌^◌, ◌<◌, ◌≤◌, Bool, true, false, not, ◌&&◌, eqb, ◌≢◌, ◌⊎◌, List, length, get_or, drop, set, sym, refl, ap, ◌∙◌, subst, inl, inr, ⊎_elim, arith, below_more}
use mathlib.Core.Path.{fun_ext}
use native.Mathlib.Nat.{zero-div}
use Rattle.std.proofs.lemmas.List.{get_or-set_same, get_or-set_other, length-set, set_past, drop-set-lt}
use Rattle.std.proofs.lemmas.Bool.{cases_eq, cases_lt, and_parts, and_from, or_cases, or_parts, eqb-true, eq-eqb, false≢true}
use Rattle.std.proofs.lemmas.Nat.{mul-add-lt, div-mul-add, mod-mul-add}
use Rattle.matrix.specs.Ranges.{within}
use Rattle.matrix.specs.Grants.{in_range, names}
use Rattle.matrix.specs.Stored.{Sound}
use Rattle.matrix.specs.Tables.{table_places}
use Rattle.matrix.specs.declared.grants.Grant.{Grant}
use Rattle.matrix.specs.declared.tables.PlaceTable.{PlaceTable}
use Rattle.matrix.proofs.Fillings.{range_in, within_in}
use Rattle.matrix.proofs.Shown.{sound_less}
use Rattle.grid.specs.Cells.{bit, cell_at, in_cells, in_cells_but}
use Rattle.grid.proofs.Places.{cell_row, cell_column}

-- what was 0 is 0 after a 0 is written anywhere
set_zero : (xs : List ℕ) (j x : ℕ) → get_or xs x 0 ≡ 0 → get_or (set xs j 0) x 0 ≡ 0
set_zero xs j x z = ⊎_elim
    (λ (e : x ≡ j). ⊎_elim
    (λ (h : j < length xs). ap (λ (i : ℕ). get_or (set xs j 0) i 0) e ∙ get_or-set_same xs j 0 0 h)
    (λ (h : length xs ≤ j). ap (λ (l : List ℕ). get_or l x 0) (set_past xs j 0 h) ∙ z)
    (cases_lt j (length xs)))
    (λ (d : x ≢ j). get_or-set_other xs j x 0 0 d ∙ z)
    (cases_eq x j)

-- a cell is as it was, or 0
set_either : (xs : List ℕ) (j x : ℕ) → (get_or (set xs j 0) x 0 ≡ get_or xs x 0) ⊎ (get_or (set xs j 0) x 0 ≡ 0)
set_either xs j x = ⊎_elim
    (λ (e : x ≡ j). ⊎_elim
    (λ (h : j < length xs). inr (ap (λ (i : ℕ). get_or (set xs j 0) i 0) e ∙ get_or-set_same xs j 0 0 h))
    (λ (h : length xs ≤ j). inl (ap (λ (l : List ℕ). get_or l x 0) (set_past xs j 0 h)))
    (cases_lt j (length xs)))
    (λ (d : x ≢ j). inl (get_or-set_other xs j x 0 0 d))
    (cases_eq x j)

pub no_bit : (k x : ℕ) → x ≡ 0 → eqb (bit k x) 1 ≡ false
no_bit k x e = ap (λ (z : ℕ). eqb (bit k z) 1) e ∙ ap (λ (z : ℕ). eqb (z % 2) 1) (zero-div (2 ^ k))

-- writing 0 brings no right in
zero_less : (n : ℕ) (cells : List ℕ) (j : ℕ) (h : Grant) → in_cells n (set cells j 0) h ≡ true → in_cells n cells h ≡ true
unfolding in_cells
zero_less n cells j h e =
    let f = and_parts (in_range n h) _ e in
    and_from _ _ f.0 (⊎_elim
    (λ (same : get_or (set cells j 0) (cell_at n h) 0 ≡ get_or cells (cell_at n h) 0). sym (ap (λ (x : ℕ). eqb (bit (h.right - 1) x) 1) same) ∙ f.1)
    (λ (zero : get_or (set cells j 0) (cell_at n h) 0 ≡ 0). absurd (false≢true (sym (no_bit (h.right - 1) _ zero) ∙ f.1)))
    (set_either cells j (cell_at n h)))

pub sound_zero : (t : PlaceTable) (cells : List ℕ) (j : ℕ) → Sound t (in_cells (table_places t) cells) → Sound t (in_cells (table_places t) (set cells j 0))
sound_zero t cells j sound = sound_less t _ _ sound (zero_less (table_places t) cells j)

-- one turn, at i, for the place q + 1
module _ (cells : List ℕ) (n q i : ℕ) (whole : n * n ≤ length cells) (hq : q < n) (hi : i < n) where
  pub row_lt : q * n + i < n * n
  row_lt = mul-add-lt q n i n hq hi

  pub column_lt : i * n + q < n * n
  column_lt = mul-add-lt i n q n hi hq

  pub kept_more : (j : ℕ) → j / n ≢ q → j % n ≢ q → get_or (set (set cells (q * n + i) 0) (i * n + q) 0) j 0 ≡ get_or cells j 0
  kept_more j dr dc =
      get_or-set_other (set cells (q * n + i) 0) (i * n + q) j 0 0 (λ (e : j ≡ i * n + q). dc (ap (λ (z : ℕ). z % n) e ∙ mod-mul-add i n q hq))
      ∙ get_or-set_other cells (q * n + i) j 0 0 (λ (e : j ≡ q * n + i). dr (ap (λ (z : ℕ). z / n) e ∙ div-mul-add q n i hi))

  pub row_more : ((x : ℕ) → x < i → get_or cells (q * n + x) 0 ≡ 0) → (x : ℕ) → x < i + 1 → get_or (set (set cells (q * n + i) 0) (i * n + q) 0) (q * n + x) 0 ≡ 0
  row_more zeros = below_more (λ x. get_or (set (set cells (q * n + i) 0) (i * n + q) 0) (q * n + x) 0 ≡ 0) i
      (λ x h. set_zero (set cells (q * n + i) 0) (i * n + q) (q * n + x) (set_zero cells (q * n + i) (q * n + x) (zeros x h)))
      (set_zero (set cells (q * n + i) 0) (i * n + q) (q * n + i) (get_or-set_same cells (q * n + i) 0 0 (omega (arith, row_lt))))

  pub column_more : ((x : ℕ) → x < i → get_or cells (x * n + q) 0 ≡ 0) → (x : ℕ) → x < i + 1 → get_or (set (set cells (q * n + i) 0) (i * n + q) 0) (x * n + q) 0 ≡ 0
  column_more zeros = below_more (λ x. get_or (set (set cells (q * n + i) 0) (i * n + q) 0) (x * n + q) 0 ≡ 0) i
      (λ x h. set_zero (set cells (q * n + i) 0) (i * n + q) (x * n + q) (set_zero cells (q * n + i) (x * n + q) (zeros x h)))
      (get_or-set_same (set cells (q * n + i) 0) (i * n + q) 0 0 (omega (arith, column_lt, length-set cells (q * n + i) 0)))

  pub beyond-more : drop (n * n) (set (set cells (q * n + i) 0) (i * n + q) 0) ≡ drop (n * n) cells
  beyond-more = drop-set-lt (n * n) (set cells (q * n + i) 0) (i * n + q) 0 column_lt ∙ drop-set-lt (n * n) cells (q * n + i) 0 row_lt

-- after the last turn: the rights that name p are gone, and the cells of the others are as they were
pub wiped : (n p : ℕ) (old new : List ℕ) → within p n ≡ true
    → ((j : ℕ) → j / n ≢ p - 1 → j % n ≢ p - 1 → get_or new j 0 ≡ get_or old j 0)
    → ((x : ℕ) → x < n → get_or new ((p - 1) * n + x) 0 ≡ 0) → ((x : ℕ) → x < n → get_or new (x * n + (p - 1)) 0 ≡ 0)
    → in_cells n new ≡ in_cells_but p n old
unfolding in_cells
wiped n p old new at kept row column = fun_ext (λ h. guard h (in_range n h) refl)
  where
    none : (a b : Bool) → a ≡ false → a ≡ (b && false)
    none a true e = e
    none a false e = e

    all : (a b : Bool) → a ≡ b → a ≡ (b && true)
    all a true e = e
    all a false e = e

    named : (p : ℕ) (h : Grant) → names p h ≡ true → (h.row ≡ p) ⊎ (h.column ≡ p)
    named p h e = ⊎_elim (λ (f : eqb h.row p ≡ true). inl (eqb-true h.row p f)) (λ (f : eqb h.column p ≡ true). inr (eqb-true h.column p f)) (or_cases (eqb h.row p) (eqb h.column p) e)

    apart : (p : ℕ) (h : Grant) → names p h ≡ false → (h.row ≢ p) × (h.column ≢ p)
    apart p h e =
        let f = or_parts (eqb h.row p) (eqb h.column p) e in
        ((λ (q : h.row ≡ p). false≢true (sym f.0 ∙ eq-eqb h.row p q)), (λ (q : h.column ≡ p). false≢true (sym f.1 ∙ eq-eqb h.column p q)))

    cleared : (h : Grant) → in_range n h ≡ true → (h.row ≡ p) ⊎ (h.column ≡ p) → get_or new (cell_at n h) 0 ≡ 0
    cleared h i (inl e) = let r = range_in n h i in ap (λ (x : ℕ). get_or new ((x - 1) * n + (h.column - 1)) 0) e ∙ row (h.column - 1) (omega arith)
    cleared h i (inr e) = let r = range_in n h i in ap (λ (x : ℕ). get_or new ((h.row - 1) * n + (x - 1)) 0) e ∙ column (h.row - 1) (omega arith)

    as_before : (h : Grant) → in_range n h ≡ true → (h.row ≢ p) × (h.column ≢ p) → get_or new (cell_at n h) 0 ≡ get_or old (cell_at n h) 0
    as_before h i d =
        let r = range_in n h i in
        let w = within_in p n at in
        kept (cell_at n h)
        (λ (e : cell_at n h / n ≡ p - 1). d.0 (omega (arith, e, cell_row n h i)))
        (λ (e : cell_at n h % n ≡ p - 1). d.1 (omega (arith, e, cell_column n h i)))

    by_name : (h : Grant) → in_range n h ≡ true → (b : Bool) → names p h ≡ b
        → eqb (bit (h.right - 1) (get_or new (cell_at n h) 0)) 1 ≡ (eqb (bit (h.right - 1) (get_or old (cell_at n h) 0)) 1 && not b)
    by_name h i true e = none _ _ (no_bit (h.right - 1) _ (cleared h i (named p h e)))
    by_name h i false e = all _ _ (ap (λ (x : ℕ). eqb (bit (h.right - 1) x) 1) (as_before h i (apart p h e)))

    guard : (h : Grant) (b : Bool) → in_range n h ≡ b
        → (b && eqb (bit (h.right - 1) (get_or new (cell_at n h) 0)) 1) ≡ ((b && eqb (bit (h.right - 1) (get_or old (cell_at n h) 0)) 1) && not (names p h))
    guard h true i = by_name h i (names p h) refl
    guard h false i = refl

-- the n × n cells are there, whichever equal table says so
pub whole_at : (t s : PlaceTable) (n l : ℕ) → t ≡ s → n ≡ table_places s → table_places t * table_places t ≤ l → n * n ≤ l
whole_at t s n l e is h = let size : n ≡ table_places t = is ∙ ap table_places (sym e) in subst (λ (m : ℕ). m * m ≤ l) (sym size) h
