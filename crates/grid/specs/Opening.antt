-- Which memory serves for a grid, and what it means when it is opened.
use Rattle.std.specs.Prelude.{ℕ, ◌*◌, cond, ◌&&◌, Ok, Err, Result, nat_le}
use Rattle.matrix.specs.Ranges.{within}
use Rattle.matrix.specs.Standing.{Meaning}
use Rattle.matrix.specs.Stored.{blank}
use Rattle.matrix.specs.declared.faults.MemoryFault.{MemoryFault}
use Rattle.matrix.specs.declared.faults.MemoryFault.TheVariants.{Places, ShortGrid}

-- 1 to 128 places, and a cell for each pair of them
abbrev pub grid_judged : ℕ → ℕ → Result (Unit {0}) MemoryFault
grid_judged n cells = cond (within n 128) (cond (nat_le (n * n) cells) (Ok tt) (Err ShortGrid)) (Err Places)

-- n places with room for 32 rights in each pair of them, or no place and no room
abbrev pub opened_grid : ℕ → ℕ → Meaning
opened_grid n cells = cond (within n 128 && nat_le (n * n) cells) (blank n (32 * (n * n))) (blank 0 0)
