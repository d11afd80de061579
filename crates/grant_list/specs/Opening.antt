-- Which memory serves for a grant list, and what it means when it is opened.
use Rattle.std.specs.Prelude.{ℕ, cond, ◌&&◌, Ok, Err, Result, nat_le}
use Rattle.matrix.specs.Ranges.{within}
use Rattle.matrix.specs.Standing.{Meaning}
use Rattle.matrix.specs.Stored.{blank}
use Rattle.matrix.specs.declared.faults.MemoryFault.{MemoryFault}
use Rattle.matrix.specs.declared.faults.MemoryFault.TheVariants.{Places, LongList}

-- 1 to 128 places and at most 4,096 records
abbrev pub list_judged : ℕ → ℕ → Result (Unit {0}) MemoryFault
list_judged n m = cond (within n 128) (cond (nat_le m 4096) (Ok tt) (Err LongList)) (Err Places)

-- n places and room for m rights, or none of either
abbrev pub opened_list : ℕ → ℕ → Meaning
opened_list n m = cond (within n 128 && nat_le m 4096) (blank n m) (blank 0 0)
