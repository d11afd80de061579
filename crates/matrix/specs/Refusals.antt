-- The numbers of the refusals, and when each call of a matrix is refused with which.
use Rattle.std.specs.Prelude.{ℕ, cond, ◌&&◌, ◌||◌, is_some, Option, Result, ◌==◌, nat_lt}
use Rattle.refusals.specs.Refusals.{refusal_by}
use Rattle.matrix.specs.Ranges.{within}
use Rattle.matrix.specs.Grants.{in_range}
use Rattle.matrix.specs.Standing.{Meaning}
use Rattle.matrix.specs.declared.grants.Grant.{Grant}
use Rattle.matrix.specs.declared.faults.MatrixFault.{MatrixFault}
use Rattle.matrix.specs.declared.faults.MatrixFault.TheVariants.{OutOfRange, WrongFilling, NoRoom}
use Rattle.matrix.specs.declared.faults.MemoryFault.{MemoryFault}
use Rattle.matrix.specs.declared.faults.MemoryFault.TheVariants.{Places, ShortGrid, LongList}

abbrev pub number_of : MatrixFault → ℕ
number_of OutOfRange = 5
number_of WrongFilling = 6
number_of NoRoom = 7

abbrev pub memory_number : MemoryFault → ℕ
memory_number Places = 8
memory_number ShortGrid = 8
memory_number LongList = 8

-- the number of a call's refusal, 0 where it was accepted
abbrev pub refusal : {X : Type 0} → Result X MatrixFault → ℕ
refusal r = refusal_by number_of r

abbrev pub memory_refusal : {X : Type 0} → Result X MemoryFault → ℕ
memory_refusal r = refusal_by memory_number r

-- a grant in a matrix of n places, its row and its column having these types: range goes before filling
abbrev pub cell_judged : ℕ → Option ℕ → Option ℕ → Grant → ℕ
cell_judged n row column g = cond (in_range n g) (cond (is_some row && is_some column) 0 6) 5

abbrev pub create_judged : ℕ → Option ℕ → ℕ → ℕ → ℕ
create_judged n filling p t = cond (within p n && within t 16) (cond (is_some filling) 6 0) 5

abbrev pub destroy_judged : ℕ → Option ℕ → ℕ → ℕ
destroy_judged n filling p = cond (within p n) (cond (is_some filling) 0 6) 5

abbrev pub delete_refusal : Meaning → Grant → ℕ
delete_refusal m g = cell_judged m.standing.places (m.standing.type_at g.row) (m.standing.type_at g.column) g

-- a ground goes before those after it
abbrev pub else_ground : ℕ → ℕ → ℕ
else_ground n later = cond (n == 0) later n

abbrev pub enter_refusal : Meaning → Grant → ℕ
enter_refusal m g = else_ground (delete_refusal m g) (cond (m.standing.held g || nat_lt 0 m.room) 0 7)

abbrev pub create_refusal : Meaning → ℕ → ℕ → ℕ
create_refusal m p t = create_judged m.standing.places (m.standing.type_at p) p t

abbrev pub destroy_refusal : Meaning → ℕ → ℕ
destroy_refusal m p = destroy_judged m.standing.places (m.standing.type_at p) p
