-- What a grid means: its room is 32 × n × n less the rights held.
use Rattle.std.specs.Prelude.{ℕ, ◌-◌, ◌*◌, ◌≤◌, List, drop}
use Rattle.std.proofs.Common.{arith}
use Rattle.std.proofs.lemmas.Nat.{mul-le}
use Rattle.matrix.specs.Count.{count}
use Rattle.matrix.specs.Standing.{Meaning, Lawful}
use Rattle.matrix.specs.Stored.{shows, few_places, lawful_store}
use Rattle.matrix.specs.Tables.{table_places}
use Rattle.matrix.specs.declared.tables.PlaceTable.{PlaceTable}
use Rattle.grid.specs.Cells.{in_cells}
use Rattle.grid.specs.declared.store.Grid.{Grid}

abbrev pub room_of : PlaceTable → List ℕ → ℕ
room_of t cells = 32 * (table_places t * table_places t) - count (table_places t) (in_cells (table_places t) cells)

abbrev pub meaning_of : PlaceTable → List ℕ → Meaning
meaning_of t cells = record { standing = shows t (in_cells (table_places t) cells); room = room_of t cells }

abbrev pub grid_means : Grid → Meaning
grid_means g = meaning_of g.table g.cells.now

-- the memory beyond the n × n cells
abbrev pub beyond : Grid → List ℕ
beyond g = drop (table_places g.table * table_places g.table) g.cells.now

room_le : (n c : ℕ) → n ≤ 128 → 32 * (n * n) - c ≤ 524288
room_le n c few = omega (arith, mul-le n n 128 128 few few)

pub grid_lawful : (g : Grid) → Lawful (grid_means g)
grid_lawful g = lawful_store g.table (in_cells (table_places g.table) g.cells.now) (room_of g.table g.cells.now) g.sound
    (room_le (table_places g.table) (count (table_places g.table) (in_cells (table_places g.table) g.cells.now)) (few_places g.table))
