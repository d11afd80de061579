-- What each call makes of a grant list's meaning, and that its records stay at filled places.
use Rattle.std.proofs.Common.{◌≡◌, ℕ, ◌<◌, ◌≤◌, Bool, true, false, cond, not, ◌&&◌, ltb, List, [], ◌∷◌, ◌++◌, length, is_some, Some, None, sym, ap, ◌∙◌, arith}
use Rattle.std.proofs.lemmas.List.Edits.{length-remove}
use Rattle.std.proofs.lemmas.List.{length_push}
use Rattle.std.specs.Prelude.{filter, position, Ok, Err, Result}
use Rattle.records.specs.Bounded.{addition, with_added, with_out}
use Rattle.records.specs.declared.Full.{Full}
use Rattle.records.proofs.Founds.{found_any}
use Rattle.matrix.specs.Calls.{Entered, Deleted, Destroyed}
use Rattle.matrix.specs.Grants.{same_grant, names}
use Rattle.matrix.specs.Listed.{listed}
use Rattle.matrix.specs.Refusals.{destroy_judged}
use Rattle.matrix.specs.Standing.{stands}
use Rattle.matrix.specs.Stored.{Sound, shows, typed_within}
use Rattle.matrix.specs.Tables.{table_places, table_type, put_type}
use Rattle.matrix.specs.declared.grants.Grant.{Grant}
use Rattle.matrix.specs.declared.tables.PlaceTable.{PlaceTable}
use Rattle.matrix.proofs.Alikes.{same_is}
use Rattle.matrix.proofs.Listing.{listed_push, held_again, when_added, when_there}
use Rattle.matrix.proofs.Shown.{sound-entered, sound_less, entered-shows, deleted-shows, destroyed-shows, sound-destroyed, stands_in_range}
use Rattle.grant_list.specs.Grants.{apart, away}
use Rattle.grant_list.specs.Means.{meaning_of}
use Rattle.grant_list.proofs.Members.{listed_out, listed_found, out_is, out_lt}
use Rattle.grant_list.proofs.Filters.{listed_kept, count_gone}

-- the table t, with the records xs before a call and ys after it
module _ (t : PlaceTable) (xs ys : List Grant) where
  pub sound-added : (g : Grant) (r : Result Bool Full) → ys ≡ with_added r g xs → Sound t (listed xs) → stands (table_type t) g ≡ true → Sound t (listed ys)
  sound-added g (Ok true) is sound here = sound-entered t (listed xs) (listed ys) g sound here (λ h. ap (λ (l : List Grant). listed l h) is ∙ listed_push xs g h)
  sound-added g (Ok false) is sound here = sound_less t (listed xs) (listed ys) sound (λ h e. sym (ap (λ (l : List Grant). listed l h) is) ∙ e)
  sound-added g (Err f) is sound here = sound_less t (listed xs) (listed ys) sound (λ h e. sym (ap (λ (l : List Grant). listed l h) is) ∙ e)

  pub sound_out : (r : Bool) (i : ℕ) → ys ≡ with_out r i xs → Sound t (listed xs) → Sound t (listed ys)
  sound_out r i is sound = sound_less t (listed xs) (listed ys) sound (listed_out xs ys r i is)

  -- in memory for m records, and after the call for m'
  module _ (m m' : ℕ) (size : m' ≡ m) (g : Grant) where
    pub added-enters : ys ≡ xs ++ (g ∷ []) → listed xs g ≡ false → length xs < m → Entered (meaning_of t xs m) g (meaning_of t ys m')
    added-enters is new lt = record {
      standing = entered-shows t (listed xs) (listed ys) g (λ h. ap (λ (l : List Grant). listed l h) is ∙ listed_push xs g h);
      room =
          let one : ◌≡◌ {A = ℕ} (cond (listed xs g) 0 1) 1 = ap (λ (b : Bool). cond b 0 1) new in
          omega (arith, one, ap length is ∙ length_push xs g);
    }

    -- a right that is entered joins the records, or is there
    pub add_enters : (b : Bool) → Ok b ≡ addition (same_grant g) m xs → ys ≡ with_added (Ok b) g xs → Entered (meaning_of t xs m) g (meaning_of t ys m')
    add_enters true told is = let new = when_added (same_grant g) m xs told in added-enters is new.0 new.1
    add_enters false told is = record {
      standing = entered-shows t (listed xs) (listed ys) g (λ h. ap (λ (l : List Grant). listed l h) is ∙ held_again (listed xs) g h there);
      room = let none : ◌≡◌ {A = ℕ} (cond (listed xs g) 0 1) 0 = ap (λ (b : Bool). cond b 0 1) there in omega (arith, none, ap length is);
    }
      where
        there : listed xs g ≡ true
        there = when_there (same_grant g) m xs told

    -- a right that is not there is deleted without a change
    pub none_deletes : None ≡ position (same_grant g) xs → Deleted (meaning_of t xs m) g (meaning_of t xs m)
    none_deletes none = record {
      standing = deleted-shows t (listed xs) (listed xs) g (λ h. lacks (same_grant h g) (λ e. ap (listed xs) (same_is h g e) ∙ absent));
      room = let zero : ◌≡◌ {A = ℕ} (cond (listed xs g) 1 0) 0 = ap (λ (b : Bool). cond b 1 0) absent in omega (arith, zero);
    }
      where
        absent : listed xs g ≡ false
        absent = sym (ap is_some none ∙ found_any (same_grant g) xs)

        lacks : {b : Bool} (s : Bool) → (s ≡ true → b ≡ false) → b ≡ (b && not s)
        lacks {b} s k = grind (arith, k)

    pub out_deletes : (i : ℕ) (r : Bool) → Some i ≡ position (same_grant g) xs → r ≡ ltb i (length xs) → ys ≡ with_out r i xs → apart xs ≡ true → length xs ≤ m
        → Deleted (meaning_of t xs m) g (meaning_of t ys m')
    out_deletes i r found told is a le = record {
      standing = deleted-shows t (listed xs) (listed ys) g (λ h. ap (λ (l : List Grant). listed l h) is ∙ listed_found g xs i found r told a h);
      room =
          let one : ◌≡◌ {A = ℕ} (cond (listed xs g) 1 0) 1 = ap (λ (b : Bool). cond b 1 0) (sym (ap is_some found ∙ found_any (same_grant g) xs)) in
          omega (arith, one, ap length (is ∙ out_is g xs i found r told), length-remove xs i (out_lt g xs i found r told));
    }

-- the place p of u, which is t, is emptied, which leaves t', and every record that names it is gone
module _ (t u t' : PlaceTable) (same : u ≡ t) (p : ℕ) (size : table_places t' ≡ table_places u) (put : table_type t' ≡ put_type u p None)
    (ok : 0 ≡ destroy_judged (table_places t) (table_type t p) p) (xs ys : List Grant) (is : ys ≡ filter (away p) xs) (sound : Sound t (listed xs)) where
  size_is : table_places t' ≡ table_places t
  size_is = size ∙ ap table_places same

  put_is : table_type t' ≡ put_type t p None
  put_is = put ∙ ap (λ (v : PlaceTable). put_type v p None) same

  listed-away : (h : Grant) → listed ys h ≡ (listed xs h && not (names p h))
  listed-away h = ap (λ (l : List Grant). listed l h) is ∙ listed_kept (away p) h xs

  pub sound-away : Sound t' (listed ys)
  sound-away = sound-destroyed t t' p size_is put_is ok (listed xs) (listed ys) listed-away sound

  pub away-destroys : (m m' : ℕ) → m' ≡ m → length xs ≤ m → Destroyed (meaning_of t xs m) p (meaning_of t' ys m')
  away-destroys m m' kept le = record {
    standing = destroyed-shows t t' p size_is put_is ok (listed xs) (listed ys) listed-away;
    room = omega (arith, count_gone (table_places t) p xs (λ h e. stands_in_range (shows t (listed xs)) (typed_within t) h (sound h e)), ap length is);
  }
