-- The rights in a grid's cells: n × n numbers, row after row, right k at bit k - 1.
use Rattle.std.specs.Prelude.{ℕ, ◌+◌, ◌-◌, ◌*◌, ◌/◌, ◌%◌, ◌^◌, Bool, not, ◌&&◌, List, ◌==◌, slice_index}
use Rattle.matrix.specs.Count.{sum_below}
use Rattle.matrix.specs.Grants.{in_range, names}
use Rattle.matrix.specs.declared.grants.Grant.{Grant}

abbrev pub bit : ℕ → ℕ → ℕ
bit k c = c / 2 ^ k % 2

-- how many of a cell's 32 bits are set
unfoldable pub bits : ℕ → ℕ
bits c = sum_below 32 (λ k. bit k c)

-- where the cell of a grant lies
abbrev pub cell_at : ℕ → Grant → ℕ
cell_at n g = (g.row - 1) * n + (g.column - 1)

unfoldable pub in_cells : ℕ → List ℕ → Grant → Bool
in_cells n cells g = in_range n g && bit (g.right - 1) (slice_index cells (cell_at n g)) == 1

-- without the rights that name a place
abbrev pub in_cells_but : ℕ → ℕ → List ℕ → Grant → Bool
in_cells_but p n cells g = in_cells n cells g && not (names p g)
