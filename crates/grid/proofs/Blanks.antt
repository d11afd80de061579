-- A grid whose places are empty and whose cells are clear.
use Rattle.std.proofs.Common.{◌≡◌, ℕ, ◌-◌, ◌*◌, ◌<◌, ◌≤◌, min, Bool, true, false, ◌&&◌, eqb, List, get_or, None, sym, refl, ap, ◌∙◌, arith}
use mathlib.Core.Path.{fun_ext}
use Rattle.std.proofs.lemmas.Bool.{false≢true}
use Rattle.matrix.specs.Count.{count}
use Rattle.matrix.specs.Grants.{in_range}
use Rattle.matrix.specs.Stored.{Sound, blank}
use Rattle.matrix.specs.Tables.{table_places, table_type}
use Rattle.matrix.specs.declared.grants.Grant.{Grant}
use Rattle.matrix.specs.declared.tables.PlaceTable.{PlaceTable}
use Rattle.matrix.proofs.Counts.{count_none}
use Rattle.grid.specs.Cells.{bit, cell_at, in_cells}
use Rattle.grid.specs.Means.{meaning_of, room_of}
use Rattle.grid.proofs.Places.{cell_lt}
use Rattle.grid.proofs.Wipes.{no_bit}

module _ (t : PlaceTable) (cells : List ℕ) (n : ℕ) (few : n ≤ 128) (size : table_places t ≡ min n 128)
    (zeros : (k : ℕ) → k < n * n → get_or cells k 0 ≡ 0) where
  pub size_is : table_places t ≡ n
  size_is = omega (arith, size)

  unheld : in_cells (table_places t) cells ≡ (λ _. false)
  unfolding in_cells
  unheld = ap (λ (m : ℕ). in_cells m cells) size_is ∙ fun_ext (λ g. clear g (in_range n g) refl)
    where
      clear : (g : Grant) (b : Bool) → in_range n g ≡ b → in_cells n cells g ≡ false
      clear g true i = ap (λ (b : Bool). b && eqb (bit (g.right - 1) (get_or cells (cell_at n g) 0)) 1) i ∙ no_bit (g.right - 1) _ (zeros (cell_at n g) (cell_lt n g i))
      clear g false i = ap (λ (b : Bool). b && eqb (bit (g.right - 1) (get_or cells (cell_at n g) 0)) 1) i

  pub sound-blank : Sound t (in_cells (table_places t) cells)
  sound-blank g h = absurd (false≢true (sym (ap (λ (f : Grant → Bool). f g) unheld) ∙ h))

  pub opened : table_type t ≡ (λ _. None) → meaning_of t cells ≡ blank n (32 * (n * n))
  opened empty = λ i. record { standing = record { places = size_is i; type_at = empty i; held = unheld i }; room = all_room i }
    where
      all_room : room_of t cells ≡ 32 * (n * n)
      all_room =
          ap (λ (f : Grant → Bool). 32 * (table_places t * table_places t) - count (table_places t) f) unheld
          ∙ ap (λ (m : ℕ). 32 * (m * m) - count m (λ _. false)) size_is
          ∙ ap (λ (z : ℕ). 32 * (n * n) - z) (count_none n) ∙ omega arith
