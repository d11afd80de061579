-- What a list in an array holds.
use Rattle.std.specs.Prelude.{ℕ, List, take}
use Rattle.records.specs.declared.arrays.ArrayList.{ArrayList}

-- the records in use, in order
abbrev pub elements : {X : Type 0} {N : ℕ} → ArrayList X N → List X
elements l = take l.used l.records
