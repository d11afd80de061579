-- A grid in which a place was emptied, with its row and its column.
use Rattle.std.proofs.Common.{◌≡◌, ℕ, ◌+◌, ◌-◌, ◌*◌, Bool, true, false, cond, not, ◌&&◌, List, None, sym, refl, ap, ◌∙◌, arith}
use Rattle.matrix.specs.Grants.{names}
use Rattle.matrix.specs.Count.{count}
use Rattle.matrix.specs.Calls.{Destroyed}
use Rattle.matrix.specs.Refusals.{destroy_judged}
use Rattle.matrix.specs.Tables.{table_places, table_type, put_type}
use Rattle.matrix.specs.declared.grants.Grant.{Grant}
use Rattle.matrix.specs.declared.tables.PlaceTable.{PlaceTable}
use Rattle.matrix.proofs.Counts.{count_le, count_add}
use Rattle.matrix.proofs.Shown.{destroyed-shows}
use Rattle.grid.specs.Cells.{in_cells, in_cells_but}
use Rattle.grid.specs.Means.{meaning_of, room_of}

module _ (t t' : PlaceTable) (cells cells' : List ℕ) (p : ℕ) (size : table_places t' ≡ table_places t) (put : table_type t' ≡ put_type t p None)
    (ok : 0 ≡ destroy_judged (table_places t) (table_type t p) p) (gone : in_cells (table_places t) cells' ≡ in_cells_but p (table_places t) cells) where
  -- the rights held before are those held after and those that name p
  split : count (table_places t) (in_cells (table_places t) cells)
      ≡ count (table_places t) (in_cells (table_places t) cells') + count (table_places t) (λ g. in_cells (table_places t) cells g && names p g)
  split =
      count_add (table_places t) (in_cells (table_places t) cells) (in_cells_but p (table_places t) cells) (λ g. in_cells (table_places t) cells g && names p g)
      (λ g. parts (in_cells (table_places t) cells g) (names p g))
      ∙ sym (ap (λ (f : Grant → Bool). count (table_places t) f + count (table_places t) (λ g. in_cells (table_places t) cells g && names p g)) gone)
    where
      parts : (a b : Bool) → ◌≡◌ {A = ℕ} (cond a 1 0) (cond (a && not b) 1 0 + cond (a && b) 1 0)
      parts true true = refl
      parts true false = refl
      parts false b = refl

  room-kept : room_of t' cells' ≡ 32 * (table_places t * table_places t) - count (table_places t) (in_cells (table_places t) cells')
  room-kept = ap (λ (n : ℕ). 32 * (n * n) - count n (in_cells n cells')) size

  pub destroyed : Destroyed (meaning_of t cells) p (meaning_of t' cells')
  destroyed = record {
    standing = destroyed-shows t t' p size put ok (in_cells (table_places t) cells) (in_cells (table_places t') cells')
        (λ h. ap (λ (n : ℕ). in_cells n cells' h) size ∙ ap (λ (f : Grant → Bool). f h) gone);
    room = omega (arith, split, room-kept, count_le (table_places t) (in_cells (table_places t) cells));
  }
