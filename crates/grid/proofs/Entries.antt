-- A right entered into a grid, or deleted from it: what it means then.
use Rattle.std.proofs.Common.{◌≡◌, ℕ, ◌+◌, ◌-◌, ◌*◌, ◌^◌, ◌<◌, ◌≤◌, Bool, true, false, cond, not, ◌&&◌, ◌||◌, List, length, get_or, drop, set, sym, refl, ap, ◌∙◌, ap₂, ⊎_elim, arith}
use mathlib.Core.Path.{fun_ext}
use lib.Bits.{bit_or, bit_xor}
use Rattle.std.proofs.lemmas.List.{length-set, drop-set-lt}
use Rattle.std.proofs.lemmas.Bool.{cases_Bool, and_parts, or_left, or_right, lt-ltb}
use Rattle.matrix.specs.Grants.{same_grant, in_range}
use Rattle.matrix.specs.Count.{count}
use Rattle.matrix.specs.Calls.{Entered, Deleted}
use Rattle.matrix.specs.Refusals.{cell_judged, enter_refusal}
use Rattle.matrix.specs.Stored.{Sound}
use Rattle.matrix.specs.Tables.{table_places, table_type}
use Rattle.matrix.specs.declared.grants.Grant.{Grant}
use Rattle.matrix.specs.declared.tables.PlaceTable.{PlaceTable}
use Rattle.matrix.proofs.Alikes.{same_self, same_is}
use Rattle.matrix.proofs.Counts.{count_le, count-more}
use Rattle.matrix.proofs.Listing.{held_again}
use Rattle.matrix.proofs.Shown.{cell-fits, cell-stands, enter_goes, entered-shows, deleted-shows, sound-entered, sound_less}
use Rattle.grid.specs.Cells.{cell_at, in_cells}
use Rattle.grid.specs.Means.{meaning_of}
use Rattle.grid.proofs.Places.{cell_lt}
use Rattle.grid.proofs.Writes.{cells_entered, cells_deleted}

-- one more right is counted where it was not there
counted : (n : ℕ) (f f' : Grant → Bool) (g : Grant) → in_range n g ≡ true → ((h : Grant) → f' h ≡ (f h || same_grant h g))
    → count n f' ≡ count n f + cond (f g) 0 1
counted n f f' g range is = ap (count n) (fun_ext is) ∙ ⊎_elim
    (λ (h : f g ≡ true).
    let none : ◌≡◌ {A = ℕ} (cond (f g) 0 1) 0 = ap (λ (b : Bool). cond b 0 1) h in
    let same : count n (λ x. f x || same_grant x g) ≡ count n f = sym (ap (count n) (fun_ext (λ x. held_again f g x h))) in
    omega arith)
    (λ (h : f g ≡ false).
    let one : ◌≡◌ {A = ℕ} (cond (f g) 0 1) 1 = ap (λ (b : Bool). cond b 0 1) h in
    let more : count n (λ x. f x || same_grant x g) ≡ count n f + 1 = count-more n f g range h in
    omega arith)
    (cases_Bool (f g))

-- y is written into the cell of a grant that passes range and filling
module _ (t : PlaceTable) (cells : List ℕ) (g : Grant) (whole : table_places t * table_places t ≤ length cells)
    (ok : 0 ≡ cell_judged (table_places t) (table_type t g.row) (table_type t g.column) g)
    (at : ℕ) (at-is : at ≡ cell_at (table_places t) g) where
  pub range : in_range (table_places t) g ≡ true
  range = (cell-fits (table_places t) (table_type t g.row) (table_type t g.column) g ok).0

  pub at_lt : at < table_places t * table_places t
  at_lt = omega (arith, at-is, cell_lt (table_places t) g range)

  pub whole_set : (y : ℕ) → table_places t * table_places t ≤ length (set cells at y)
  whole_set y = omega (arith, length-set cells at y)

  pub beyond-set : (y : ℕ) → drop (table_places t * table_places t) (set cells at y) ≡ drop (table_places t * table_places t) cells
  beyond-set y = drop-set-lt (table_places t * table_places t) cells at y at_lt

  module _ (sound : Sound t (in_cells (table_places t) cells)) (mask : ℕ) (mask_is : mask ≡ 2 ^ (g.right - 1)) where
    in_entered : (h : Grant) → in_cells (table_places t) (set cells at (bit_or (get_or cells at 0) mask)) h ≡ (in_cells (table_places t) cells h || same_grant h g)
    in_entered h =
        ap₂ (λ (i m : ℕ). in_cells (table_places t) (set cells i (bit_or (get_or cells i 0) m)) h) at-is mask_is
        ∙ cells_entered (table_places t) cells g whole range h

    pub sound_enter : Sound t (in_cells (table_places t) (set cells at (bit_or (get_or cells at 0) mask)))
    sound_enter = sound-entered t _ _ g sound (cell-stands (table_type t) (table_places t) g ok) in_entered

    more : count (table_places t) (in_cells (table_places t) (set cells at (bit_or (get_or cells at 0) mask)))
        ≡ count (table_places t) (in_cells (table_places t) cells) + cond (in_cells (table_places t) cells g) 0 1
    more = counted (table_places t) _ _ g range in_entered

    pub entered : Entered (meaning_of t cells) g (meaning_of t (set cells at (bit_or (get_or cells at 0) mask)))
    entered = record {
      standing = entered-shows t _ _ g in_entered;
      room = omega (arith, more, count_le (table_places t) (in_cells (table_places t) (set cells at (bit_or (get_or cells at 0) mask))));
    }

    -- a right that is not held leaves room, since it could be counted
    pub enter_told : 0 ≡ enter_refusal (meaning_of t cells) g
    enter_told = enter_goes (meaning_of t cells) g ok (⊎_elim
        (λ (h : in_cells (table_places t) cells g ≡ true). or_left _ _ h)
        (λ (h : in_cells (table_places t) cells g ≡ false).
        let one : ◌≡◌ {A = ℕ} (cond (in_cells (table_places t) cells g) 0 1) 1 = ap (λ (b : Bool). cond b 0 1) h in
        or_right (in_cells (table_places t) cells g) _
        (lt-ltb _ _ (omega (arith, one, more, count_le (table_places t) (in_cells (table_places t) (set cells at (bit_or (get_or cells at 0) mask)))))))
        (cases_Bool (in_cells (table_places t) cells g)))

    module _ (held : in_cells (table_places t) cells g ≡ true) where
      in_deleted : (h : Grant) → in_cells (table_places t) (set cells at (bit_xor (get_or cells at 0) mask)) h ≡ (in_cells (table_places t) cells h && not (same_grant h g))
      in_deleted h =
          ap₂ (λ (i m : ℕ). in_cells (table_places t) (set cells i (bit_xor (get_or cells i 0) m)) h) at-is mask_is
          ∙ cells_deleted (table_places t) cells g whole range held h

      pub sound_delete : Sound t (in_cells (table_places t) (set cells at (bit_xor (get_or cells at 0) mask)))
      sound_delete = sound_less t _ _ sound (λ h e. (and_parts _ _ (sym (in_deleted h) ∙ e)).0)

      -- the right put back is one more
      fewer : count (table_places t) (in_cells (table_places t) cells) ≡ count (table_places t) (in_cells (table_places t) (set cells at (bit_xor (get_or cells at 0) mask))) + 1
      fewer = ap (count (table_places t)) (fun_ext back) ∙ count-more (table_places t) _ g range gone
        where
          restored : (h t : Bool) → (t ≡ true → h ≡ true) → h ≡ ((h && not t) || t)
          restored true true f = refl
          restored true false f = refl
          restored false true f = f refl
          restored false false f = refl

          back : (h : Grant) → in_cells (table_places t) cells h ≡ (in_cells (table_places t) (set cells at (bit_xor (get_or cells at 0) mask)) h || same_grant h g)
          back h =
              restored (in_cells (table_places t) cells h) (same_grant h g) (λ e. ap (in_cells (table_places t) cells) (same_is h g e) ∙ held)
              ∙ sym (ap (λ (b : Bool). b || same_grant h g) (in_deleted h))

          none : (a : Bool) → (a && false) ≡ false
          none true = refl
          none false = refl

          gone : in_cells (table_places t) (set cells at (bit_xor (get_or cells at 0) mask)) g ≡ false
          gone = in_deleted g ∙ ap (λ (b : Bool). in_cells (table_places t) cells g && not b) (same_self g) ∙ none (in_cells (table_places t) cells g)

      pub deleted : Deleted (meaning_of t cells) g (meaning_of t (set cells at (bit_xor (get_or cells at 0) mask)))
      deleted = record {
        standing = deleted-shows t _ _ g in_deleted;
        room =
            let one : ◌≡◌ {A = ℕ} (cond (in_cells (table_places t) cells g) 1 0) 1 = ap (λ (b : Bool). cond b 1 0) held in
            omega (arith, one, fewer, count_le (table_places t) (in_cells (table_places t) cells));
      }
