-- What the calls of a bounded list tell and leave.
use Rattle.std.specs.Prelude.{ℕ, Bool, true, false, cond, List, [], ◌∷◌, ◌++◌, length, Ok, Err, Result, nat_lt}
use Rattle.std.specs.List.{list_any, remove}
use Rattle.records.specs.declared.Full.{Full}

-- what becomes of a record that is to join xs where there is memory for n: equality is looked at first; it is added, an equal one is there, or xs is full
abbrev pub addition : {X : Type 0} → (X → Bool) → ℕ → List X → Result Bool Full
addition same n xs = cond (list_any same xs) (Ok false) (cond (nat_lt (length xs) n) (Ok true) (Err record {}))

-- the same, where equal ones may join
abbrev pub pushing : {X : Type 0} → ℕ → List X → Result (Unit {0}) Full
pushing n xs = cond (nat_lt (length xs) n) (Ok tt) (Err record {})

abbrev pub with_added : {X : Type 0} → Result Bool Full → X → List X → List X
with_added (Ok true) x xs = xs ++ (x ∷ [])
with_added (Ok false) x xs = xs
with_added (Err f) x xs = xs

abbrev pub UnlessAdded : Result Bool Full → Type 0 → Type 0
UnlessAdded (Ok true) P = Unit {0}
UnlessAdded (Ok false) P = P
UnlessAdded (Err f) P = P

-- the list without the record at a position, where one was taken out
abbrev pub with_out : {X : Type 0} → Bool → ℕ → List X → List X
with_out there i xs = cond there (remove xs i) xs

abbrev pub Unless : Bool → Type 0 → Type 0
Unless true P = Unit {0}
Unless false P = P
