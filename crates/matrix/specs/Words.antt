-- The words that faults and grants are printed in.
use Rattle.std.specs.Prelude.{ℕ, List, ◌++◌, codes, decimal}
use Rattle.matrix.specs.declared.grants.Grant.{Grant}
use Rattle.matrix.specs.declared.faults.MatrixFault.{MatrixFault}
use Rattle.matrix.specs.declared.faults.MatrixFault.TheVariants.{OutOfRange, WrongFilling, NoRoom}
use Rattle.matrix.specs.declared.faults.MemoryFault.{MemoryFault}
use Rattle.matrix.specs.declared.faults.MemoryFault.TheVariants.{Places, ShortGrid, LongList}

abbrev pub fault_words : MatrixFault → List ℕ
fault_words OutOfRange = codes "a right, a place or a type is out of range"
fault_words WrongFilling = codes "a place is empty, or filled, against the call"
fault_words NoRoom = codes "there is no room for a new right"

abbrev pub memory_words : MemoryFault → List ℕ
memory_words Places = codes "there are 1 to 128 places"
memory_words ShortGrid = codes "a grid wants a cell for each pair of places"
memory_words LongList = codes "a grant list has at most 4096 records"

abbrev pub grant_words : Grant → List ℕ
grant_words g = codes "right " ++ decimal g.right ++ codes " of place " ++ decimal g.row ++ codes " in place " ++ decimal g.column
