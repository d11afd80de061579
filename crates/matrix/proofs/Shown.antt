-- What a register shows after its table or its store was changed, and that its store stays sound.
use Rattle.std.proofs.Common.{◌≡◌, ℕ, ◌+◌, Bool, true, false, cond, not, ◌&&◌, ◌||◌, eqb, ltb, is_some, is_ok, Some, None, Ok, Err, Option, Result, sym, refl, ap, ◌∙◌, ⊎_elim, add-zero, arith}
use mathlib.Core.Path.{fun_ext}
use Rattle.std.proofs.lemmas.Bool.{and_parts, and_from, or_cases, cases_Bool, false≢true}
use Rattle.std.proofs.lemmas.Bool.Decides.{nat_tests}
use Rattle.matrix.specs.Ranges.{within}
use Rattle.matrix.specs.Calls.{Entered}
use Rattle.matrix.specs.Grants.{same_grant, names, in_range}
use Rattle.matrix.specs.Standing.{Standing, Meaning, stands, entered, deleted, created, destroyed}
use Rattle.matrix.specs.Refusals.{refusal, cell_judged, create_judged, destroy_judged, delete_refusal, enter_refusal}
use Rattle.matrix.specs.Tables.{table_places, table_type, put_type, only_types}
use Rattle.matrix.specs.Stored.{shows, Sound, typed_within}
use Rattle.matrix.specs.declared.grants.Grant.{Grant}
use Rattle.matrix.specs.declared.faults.MatrixFault.{MatrixFault}
use Rattle.matrix.specs.declared.faults.MatrixFault.TheVariants.{OutOfRange, WrongFilling, NoRoom}
use Rattle.matrix.specs.declared.tables.PlaceTable.{PlaceTable}
use Rattle.matrix.proofs.Alikes.{same_is}
use Rattle.matrix.proofs.Listing.{held_again}

-- what an accepted judgement says of a grant
pub cell-fits : (n : ℕ) (row column : Option ℕ) (g : Grant) → 0 ≡ cell_judged n row column g
    → (in_range n g ≡ true) × (is_some row ≡ true) × (is_some column ≡ true)
cell-fits n row column g h = (grind (arith, nat_tests), grind (arith, nat_tests), grind (arith, nat_tests))

pub cell-stands : (types : ℕ → Option ℕ) (n : ℕ) (g : Grant) → 0 ≡ cell_judged n (types g.row) (types g.column) g → stands types g ≡ true
cell-stands types n g h =
    let f = cell-fits n (types g.row) (types g.column) g h in
    and_from _ _ (and_parts _ _ f.0).0 (and_from _ _ f.1 f.2)

-- an enter that passes range and filling
pub enter_goes : (m : Meaning) (g : Grant) → 0 ≡ delete_refusal m g → (m.standing.held g || ltb 0 m.room) ≡ true → 0 ≡ enter_refusal m g
enter_goes m g h free = grind (arith, nat_tests)

pub enter_lacks : (m : Meaning) (g : Grant) → 0 ≡ delete_refusal m g → m.standing.held g ≡ false → m.room ≡ 0 → 7 ≡ enter_refusal m g
enter_lacks m g h new full = grind (arith, nat_tests)

-- rights that were stored are at filled places
pub sound_less : (t : PlaceTable) (f f' : Grant → Bool) → Sound t f → ((h : Grant) → f' h ≡ true → f h ≡ true) → Sound t f'
sound_less t f f' sound less h e = sound h (less h e)

pub sound-entered : (t : PlaceTable) (f f' : Grant → Bool) (g : Grant) → Sound t f → stands (table_type t) g ≡ true
    → ((h : Grant) → f' h ≡ (f h || same_grant h g)) → Sound t f'
sound-entered t f f' g sound here is h e = ⊎_elim (sound h) (λ (s : same_grant h g ≡ true). ap (stands (table_type t)) (same_is h g s) ∙ here)
    (or_cases (f h) (same_grant h g) (sym (is h) ∙ e))

pub entered-shows : (t : PlaceTable) (f f' : Grant → Bool) (g : Grant) → ((h : Grant) → f' h ≡ (f h || same_grant h g)) → shows t f' ≡ entered (shows t f) g
entered-shows t f f' g is = ap (shows t) (fun_ext is)

pub deleted-shows : (t : PlaceTable) (f f' : Grant → Bool) (g : Grant) → ((h : Grant) → f' h ≡ (f h && not (same_grant h g))) → shows t f' ≡ deleted (shows t f) g
deleted-shows t f f' g is = ap (shows t) (fun_ext is)

-- the table t' is t with a type put at p
module _ (t t' : PlaceTable) (p : ℕ) (size : table_places t' ≡ table_places t) where
  module _ (k : ℕ) (put : table_type t' ≡ put_type t p (Some k)) (ok : 0 ≡ create_judged (table_places t) (table_type t p) p k) where
    create_fits : (n : ℕ) (o : Option ℕ) → 0 ≡ create_judged n o p k → (within p n ≡ true) × (within k 16 ≡ true)
    create_fits n o h = (grind (arith, nat_tests), grind (arith, nat_tests))

    types-created : table_type t' ≡ (λ q. cond (eqb q p) (Some k) (table_type t q))
    types-created =
        let fits = create_fits (table_places t) (table_type t p) ok in
        put ∙ fun_ext (λ q.
        ap (λ (b : Bool). cond (b && eqb q p) (only_types (Some k)) (table_type t q)) fits.0
        ∙ ap (λ (b : Bool). cond (eqb q p) (cond b (Some k) None) (table_type t q)) fits.1)

    pub created-shows : (f : Grant → Bool) → shows t' f ≡ created (shows t f) p k
    created-shows f = λ i. record { places = size i; type_at = types-created i; held = f }

    -- what was filled stays filled
    pub sound-created : (f : Grant → Bool) → Sound t f → Sound t' f
    sound-created f sound h e =
        let s = sound h e in
        let parts = and_parts _ _ (and_parts _ _ s).1 in
        and_from _ _ (and_parts _ _ s).0 (and_from _ _ (still h.row parts.0) (still h.column parts.1))
      where
        kept : (b : Bool) (o : Option ℕ) → is_some o ≡ true → is_some (cond b (Some k) o) ≡ true
        kept true o s = refl
        kept false o s = s

        still : (q : ℕ) → is_some (table_type t q) ≡ true → is_some (table_type t' q) ≡ true
        still q s = ap (λ (types : ℕ → Option ℕ). is_some (types q)) types-created ∙ kept (eqb q p) (table_type t q) s

  module _ (put : table_type t' ≡ put_type t p None) (ok : 0 ≡ destroy_judged (table_places t) (table_type t p) p)
      (f f' : Grant → Bool) (is : (h : Grant) → f' h ≡ (f h && not (names p h))) where
    destroy_fits : (n : ℕ) (o : Option ℕ) → 0 ≡ destroy_judged n o p → within p n ≡ true
    destroy_fits n o h = grind (arith, nat_tests)

    types-destroyed : table_type t' ≡ (λ q. cond (eqb q p) None (table_type t q))
    types-destroyed = put ∙ fun_ext (λ q.
        ap (λ (b : Bool). cond (b && eqb q p) None (table_type t q)) (destroy_fits (table_places t) (table_type t p) ok))

    pub destroyed-shows : shows t' f' ≡ destroyed (shows t f) p
    destroyed-shows = λ i. record { places = size i; type_at = types-destroyed i; held = fun_ext is i }

    -- what is still stored names other places, which are as they were
    pub sound-destroyed : Sound t f → Sound t' f'
    sound-destroyed sound h e =
        let left = and_parts (f h) (not (names p h)) (sym (is h) ∙ e) in
        let s = sound h left.0 in
        let parts = and_parts _ _ (and_parts _ _ s).1 in
        let away = others h left.1 in
        and_from _ _ (and_parts _ _ s).0 (and_from _ _ (still h.row away.0 parts.0) (still h.column away.1 parts.1))
      where
        others : (h : Grant) → not (names p h) ≡ true → (eqb h.row p ≡ false) × (eqb h.column p ≡ false)
        others h a = (grind (arith, nat_tests), grind (arith, nat_tests))

        still : (q : ℕ) → eqb q p ≡ false → is_some (table_type t q) ≡ true → is_some (table_type t' q) ≡ true
        still q d s = ap (λ (types : ℕ → Option ℕ). is_some (types q)) types-destroyed ∙ ap (λ (b : Bool). is_some (cond b None (table_type t q))) d ∙ s

-- where a type means a place of 1 to n, a right at filled places passes range and filling
module _ (s : Standing) (types : (p t : ℕ) → s.type_at p ≡ Some t → (within p s.places ≡ true) × (within t 16 ≡ true)) (g : Grant) where
  pub stands_in_range : stands s.type_at g ≡ true → in_range s.places g ≡ true
  stands_in_range h =
      let f = and_parts (within g.right 32) (is_some (s.type_at g.row) && is_some (s.type_at g.column)) h in
      let k = and_parts (is_some (s.type_at g.row)) (is_some (s.type_at g.column)) f.1 in
      and_from _ _ f.0 (and_from _ _ (filled g.row (s.type_at g.row) refl k.0) (filled g.column (s.type_at g.column) refl k.1))
    where
      filled : (p : ℕ) (o : Option ℕ) → s.type_at p ≡ o → is_some o ≡ true → within p s.places ≡ true
      filled p (Some t) is e = (types p t is).0
      filled p None is e = absurd (false≢true e)

  fits : stands s.type_at g ≡ true → 0 ≡ cell_judged s.places (s.type_at g.row) (s.type_at g.column) g
  fits h = passes (in_range s.places g) _ (stands_in_range h) (and_parts (within g.right 32) _ h).1
    where
      passes : (a b : Bool) → a ≡ true → b ≡ true → ◌≡◌ {A = ℕ} 0 (cond a (cond b 0 6) 5)
      passes a b e f = grind (arith, e, f)

  -- so a right that is refused stands nowhere
  pub refused-stands : (r : Result (Unit {0}) MatrixFault) → refusal r ≡ cell_judged s.places (s.type_at g.row) (s.type_at g.column) g
      → is_ok r ≡ false → stands s.type_at g ≡ false
  refused-stands r is e = ⊎_elim (λ (h : stands s.type_at g ≡ true). absurd (numbered r e (fits h ∙ sym is))) (λ h. h) (cases_Bool (stands s.type_at g))
    where
      numbered : (r : Result (Unit {0}) MatrixFault) → is_ok r ≡ false → 0 ≡ refusal r → ⊥
      numbered (Ok x) e z = false≢true (sym e)
      numbered (Err OutOfRange) e z = omega arith
      numbered (Err WrongFilling) e z = omega arith
      numbered (Err NoRoom) e z = omega arith

-- and is not stored
pub refused_unheld : (t : PlaceTable) (f : Grant → Bool) (g : Grant) (r : Result (Unit {0}) MatrixFault) → Sound t f
    → refusal r ≡ cell_judged (table_places t) (table_type t g.row) (table_type t g.column) g → is_ok r ≡ false → f g ≡ false
refused_unheld t f g r sound is e =
    ⊎_elim (λ (h : f g ≡ true). absurd (false≢true (sym (refused-stands (shows t f) (typed_within t) g r is e) ∙ sound g h))) (λ h. h) (cases_Bool (f g))

-- an answer without a refusal has no number
pub ok_number : (r : Result (Unit {0}) MatrixFault) → is_ok r ≡ true → 0 ≡ refusal r
ok_number (Ok x) e = refl
ok_number (Err f) e = absurd (false≢true e)

-- a right that is held is entered without a change
pub entered_again : (m : Meaning) (g : Grant) → m.standing.held g ≡ true → Entered m g m
entered_again m g held = record {
  standing = λ i. record { places = m.standing.places; type_at = m.standing.type_at; held = fun_ext (λ h. held_again m.standing.held g h held) i };
  room = ap (λ (b : Bool). m.room + cond b 0 1) held ∙ add-zero m.room;
}
