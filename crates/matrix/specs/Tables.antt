-- What a place-type table says: its places, and the type of each that is filled.
use Rattle.std.specs.Prelude.{ℕ, ◌-◌, min, cond, ◌&&◌, Some, None, Option, ◌==◌, slice_index}
use Rattle.matrix.specs.Ranges.{within}
use Rattle.matrix.specs.declared.tables.PlaceTable.{PlaceTable}

unfoldable pub table_places : PlaceTable → ℕ
table_places t = min t.n 128

-- a type is a number of 1 to 16
abbrev pub as_type : ℕ → Option ℕ
as_type t = cond (within t 16) (Some t) None

unfoldable pub table_type : PlaceTable → ℕ → Option ℕ
table_type t p = cond (within p (table_places t)) (as_type (slice_index t.types (p - 1))) None

-- the types after a place of the table was given one, or emptied
abbrev pub only_types : Option ℕ → Option ℕ
only_types (Some t) = as_type t
only_types None = None

abbrev pub put_type : PlaceTable → ℕ → Option ℕ → ℕ → Option ℕ
put_type t p o q = cond (within p (table_places t) && q == p) (only_types o) (table_type t q)
