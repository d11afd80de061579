-- Where the cells of a grid lie, row after row.
use Rattle.std.proofs.Common.{◌≡◌, ℕ, ◌-◌, ◌*◌, ◌/◌, ◌%◌, ◌<◌, true, sym, ap, ◌∙◌, arith}
use Rattle.std.proofs.lemmas.Nat.{mul-add-lt, div-mul-add, mod-mul-add}
use Rattle.matrix.specs.Grants.{in_range}
use Rattle.matrix.specs.declared.grants.Grant.{Grant}
use Rattle.matrix.proofs.Fillings.{range_in}
use Rattle.grid.specs.Cells.{cell_at}

pub cell_lt : (n : ℕ) (g : Grant) → in_range n g ≡ true → cell_at n g < n * n
cell_lt n g i = let r = range_in n g i in mul-add-lt (g.row - 1) n (g.column - 1) n (omega arith) (omega arith)

pub cell_row : (n : ℕ) (g : Grant) → in_range n g ≡ true → cell_at n g / n ≡ g.row - 1
cell_row n g i = let r = range_in n g i in div-mul-add (g.row - 1) n (g.column - 1) (omega arith)

pub cell_column : (n : ℕ) (g : Grant) → in_range n g ≡ true → cell_at n g % n ≡ g.column - 1
cell_column n g i = let r = range_in n g i in mod-mul-add (g.row - 1) n (g.column - 1) (omega arith)

-- one cell has one row and one column
pub cell_one : (n : ℕ) (g h : Grant) → in_range n g ≡ true → in_range n h ≡ true → cell_at n h ≡ cell_at n g → (h.row ≡ g.row) × (h.column ≡ g.column)
cell_one n g h i j e =
    let a : h.row - 1 ≡ g.row - 1 = sym (cell_row n h j) ∙ ap (λ (z : ℕ). z / n) e ∙ cell_row n g i in
    let b : h.column - 1 ≡ g.column - 1 = sym (cell_column n h j) ∙ ap (λ (z : ℕ). z % n) e ∙ cell_column n g i in
    let r = range_in n g i in
    let s = range_in n h j in
    (omega arith, omega arith)
