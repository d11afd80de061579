-- What a grant list means: its room is the number of records not in use.
use Rattle.std.specs.Prelude.{ℕ, ◌-◌, ◌≤◌, List, length}
use Rattle.std.proofs.Common.{arith}
use Rattle.records.specs.Lent.{items, capacity}
use Rattle.matrix.specs.Listed.{listed}
use Rattle.matrix.specs.Standing.{Meaning, Lawful}
use Rattle.matrix.specs.Stored.{shows, lawful_store}
use Rattle.matrix.specs.declared.grants.Grant.{Grant}
use Rattle.matrix.specs.declared.tables.PlaceTable.{PlaceTable}
use Rattle.grant_list.specs.declared.store.GrantList.{GrantList}

-- grants gs in memory for m records
abbrev pub meaning_of : PlaceTable → List Grant → ℕ → Meaning
meaning_of t gs m = record { standing = shows t (listed gs); room = m - length gs }

abbrev pub list_means : GrantList → Meaning
list_means l = meaning_of l.table (items l.grants) (capacity l.grants)

less_le : (m n : ℕ) → m ≤ 4096 → m - n ≤ 524288
less_le m n le = omega arith

pub list_lawful : (l : GrantList) → Lawful (list_means l)
list_lawful l =
    lawful_store l.table (listed (items l.grants)) (capacity l.grants - length (items l.grants)) l.sound
    (less_le (capacity l.grants) (length (items l.grants)) l.fits)
