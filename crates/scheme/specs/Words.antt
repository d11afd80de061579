-- The words that faults, cells and operations are printed in.
use Rattle.std.specs.Prelude.{ℕ, List, ◌++◌, codes, decimal}
use Rattle.scheme.specs.declared.faults.SchemeFault.{SchemeFault}
use Rattle.scheme.specs.declared.faults.SchemeFault.TheVariants.{WrongCount, OutOfRange, OutOfOrder, Unfinished}
use Rattle.scheme.specs.declared.lines.Cell.{Cell}
use Rattle.scheme.specs.declared.lines.Operation.{Operation}
use Rattle.scheme.specs.declared.lines.Operation.TheVariants.{Enter, Delete, Create, Destroy}

abbrev pub fault_words : SchemeFault → List ℕ
fault_words WrongCount = codes "too many of these, or none"
fault_words OutOfRange = codes "a number out of range, or a row that is no subject"
fault_words OutOfOrder = codes "a line that may not stand here"
fault_words Unfinished = codes "a command without operations"

abbrev pub cell_words : Cell → List ℕ
cell_words c = codes "right " ++ decimal c.right ++ codes " of " ++ decimal c.row ++ codes " in " ++ decimal c.column

abbrev pub operation_words : Operation → List ℕ
operation_words (Enter c) = codes "enter " ++ cell_words c
operation_words (Delete c) = codes "delete " ++ cell_words c
operation_words (Create p) = codes "create " ++ decimal p
operation_words (Destroy p) = codes "destroy " ++ decimal p
