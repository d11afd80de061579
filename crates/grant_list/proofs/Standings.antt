-- When two grant lists are equal.
use Rattle.std.proofs.Common.{◌≡◌, ◌≤◌, true}
use mathlib.Core.HLevel.{is_prop→PathP, Π_prop}
use mathlib.Core.Bool.{Bool-set}
use native.Mathlib.Bridge.{le_prop}
use Rattle.records.specs.Lent.{items, capacity}
use Rattle.records.specs.declared.lent.BoundedList.{BoundedList}
use Rattle.matrix.specs.Standing.{stands}
use Rattle.matrix.specs.Tables.{table_type}
use Rattle.matrix.specs.Listed.{listed}
use Rattle.matrix.specs.Stored.{Sound}
use Rattle.matrix.specs.declared.grants.Grant.{Grant}
use Rattle.grant_list.specs.Grants.{apart}
use Rattle.grant_list.specs.declared.store.GrantList.{GrantList}

-- a grant list with the same table and the same records is the same: the rest is propositions
pub same_store : (l : GrantList) (b : BoundedList Grant) (is : b ≡ l.grants) (f : capacity b ≤ 4096) (s : Sound l.table (listed (items b))) (d : apart (items b) ≡ true)
    → record { table = l.table; grants = b; fits = f; sound = s; distinct = d } ≡ l
same_store l b is f s d = λ i. record {
  table = l.table;
  grants = is i;
  fits = is_prop→PathP (λ j. capacity (is j) ≤ 4096) (λ j. le_prop) f l.fits i;
  sound = is_prop→PathP (λ j. Sound l.table (listed (items (is j)))) (λ j. Π_prop (λ h. Π_prop (λ e. Bool-set (stands (table_type l.table) h) true))) s l.sound i;
  distinct = is_prop→PathP (λ j. apart (items (is j)) ≡ true) (λ j. Bool-set (apart (items (is j))) true) d l.distinct i;
}
