-- A right entered into a trial: which list of own rights follows, and what it means.
use Rattle.std.proofs.Common.{◌≡◌, ℕ, ◌<◌, Bool, true, false, cond, ◌&&◌, ◌||◌, List, [], ◌∷◌, ◌++◌, length, Ok, sym, ap, ◌∙◌, subst, arith}
use mathlib.Core.Path.{fun_ext}
use Rattle.std.proofs.lemmas.List.{length_push}
use Rattle.std.proofs.lemmas.Bool.{or_right, and_from}
use Rattle.records.specs.Bounded.{addition, with_added}
use Rattle.matrix.specs.Grants.{same_grant}
use Rattle.matrix.specs.Standing.{Meaning, stands}
use Rattle.matrix.specs.Listed.{listed}
use Rattle.matrix.specs.Calls.{Entered}
use Rattle.matrix.specs.Refusals.{delete_refusal}
use Rattle.matrix.specs.declared.grants.Grant.{Grant}
use Rattle.matrix.proofs.Alikes.{same_is}
use Rattle.matrix.proofs.Listing.{listed_push, when_added, when_there}
use Rattle.matrix.proofs.Shown.{cell-stands, entered_again}
use Rattle.trial.specs.Means.{over}

-- over m, with the own rights xs; g passes range and filling, and does not stand below
module _ (m : Meaning) (xs : List Grant) (g : Grant) (ok : 0 ≡ delete_refusal m g) (below : m.standing.held g ≡ false) where
  here : stands m.standing.type_at g ≡ true
  here = cell-stands m.standing.type_at m.standing.places g ok

  joined-enters : listed xs g ≡ false → length xs < 512 → Entered (over m xs) g (over m (xs ++ (g ∷ [])))
  joined-enters new space = record {
    standing = λ i. record { places = m.standing.places; type_at = m.standing.type_at; held = fun_ext joins i };
    room =
        let one : ◌≡◌ {A = ℕ} (cond ((over m xs).standing.held g) 0 1) 1 =
        ap (λ (b : Bool). cond b 0 1) (none (m.standing.held g) (stands m.standing.type_at g) (listed xs g) below new) in
        omega (arith, one, length_push xs g);
  }
    where
      none : (a b d : Bool) → a ≡ false → d ≡ false → (a || (b && d)) ≡ false
      none a b d e f = grind (arith, e, f)

      spread : (a b d t : Bool) → (t ≡ true → b ≡ true) → (a || (b && (d || t))) ≡ ((a || (b && d)) || t)
      spread a b d t f = grind (arith, f)

      joins : (h : Grant) → (over m (xs ++ (g ∷ []))).standing.held h ≡ ((over m xs).standing.held h || same_grant h g)
      joins h =
          ap (λ (b : Bool). m.standing.held h || (stands m.standing.type_at h && b)) (listed_push xs g h)
          ∙ spread (m.standing.held h) (stands m.standing.type_at h) (listed xs h) (same_grant h g)
          (λ e. ap (stands m.standing.type_at) (same_is h g e) ∙ here)

  -- it joins the own rights, or is one of them
  pub add-enters : (b : Bool) (ys : List Grant) → Ok b ≡ addition (same_grant g) 512 xs → ys ≡ with_added (Ok b) g xs → Entered (over m xs) g (over m ys)
  add-enters true ys told is =
      let new = when_added (same_grant g) 512 xs told in
      subst (λ (zs : List Grant). Entered (over m xs) g (over m zs)) (sym is) (joined-enters new.0 new.1)
  add-enters false ys told is =
      let own : (over m xs).standing.held g ≡ true = or_right (m.standing.held g) _ (and_from _ _ here (when_there (same_grant g) 512 xs told)) in
      subst (λ (zs : List Grant). Entered (over m xs) g (over m zs)) (sym is) (entered_again (over m xs) g own)
