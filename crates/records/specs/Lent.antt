-- What a bounded list in lent memory holds.
use Rattle.std.specs.Prelude.{ℕ, List, length, take}
use Rattle.records.specs.declared.lent.BoundedList.{BoundedList}

-- the records in use, in order
abbrev pub items : {X : Type 0} → BoundedList X → List X
items l = take l.used l.records.now

-- how many records the memory takes
abbrev pub capacity : {X : Type 0} → BoundedList X → ℕ
capacity l = length l.records.now
