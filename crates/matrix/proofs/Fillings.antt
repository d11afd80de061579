-- What a place-type table says when it is made, read and written.
use Rattle.std.proofs.Common.{◌≡◌, ℕ, zero, suc, ◌-◌, ◌<◌, ◌≤◌, Bool, true, false, cond, ◌&&◌, ◌≢◌, ◌⊎◌, List, length, get_or, set, replicate, Some, None, Option, unwrap_or, sym, refl, ap, ◌∙◌, inl, inr, ⊎_elim, arith}
use mathlib.Core.Path.{fun_ext}
use Rattle.std.proofs.lemmas.List.{get_or-set_same, get_or-set_other}
use Rattle.std.proofs.lemmas.Bool.{cases_eq, cases_Bool, eq-eqb, ne_eqb, and_from, and_left, and_right}
use Rattle.std.proofs.lemmas.Bool.Decides.{nat_tests}
use Rattle.matrix.specs.Grants.{in_range}
use Rattle.matrix.specs.Ranges.{within}
use Rattle.matrix.specs.Tables.{table_places, table_type, put_type, as_type, only_types}
use Rattle.matrix.specs.declared.grants.Grant.{Grant}
use Rattle.matrix.specs.declared.tables.PlaceTable.{PlaceTable}

zeros : (n p : ℕ) → ◌≡◌ {A = ℕ} (get_or (replicate n 0) p 0) 0
zeros zero p = refl
zeros (suc n) zero = refl
zeros (suc n) (suc p) = zeros n p

pub within_in : (p n : ℕ) → within p n ≡ true → (1 ≤ p) × (p ≤ n)
within_in p n h = (grind (arith, nat_tests), grind (arith, nat_tests))

pub in_within : (p n : ℕ) → 1 ≤ p → p ≤ n → within p n ≡ true
in_within p n h l = grind (arith, nat_tests)

pub range_in : (n : ℕ) (g : Grant) → in_range n g ≡ true → (1 ≤ g.right) × (g.right ≤ 32) × (1 ≤ g.row) × (g.row ≤ n) × (1 ≤ g.column) × (g.column ≤ n)
range_in n g h = (grind (arith, nat_tests), grind (arith, nat_tests), grind (arith, nat_tests), grind (arith, nat_tests), grind (arith, nat_tests), grind (arith, nat_tests))

-- the type of a place, read off the numbers
pub read_type : (t : PlaceTable) (p : ℕ) → within p (table_places t) ≡ true → table_type t p ≡ as_type (get_or t.types (p - 1) 0)
unfolding table_type
read_type t p h = ap (λ (b : Bool). cond b (as_type (get_or t.types (p - 1) 0)) None) h

pub read_some : (t : PlaceTable) (p : ℕ) → within p (table_places t) ≡ true → within (get_or t.types (p - 1) 0) 16 ≡ true
    → table_type t p ≡ Some (get_or t.types (p - 1) 0)
read_some t p h k = read_type t p h ∙ ap (λ (b : Bool). cond b (Some (get_or t.types (p - 1) 0)) None) k

pub read_none : (t : PlaceTable) (p : ℕ) → within p (table_places t) ≡ true → within (get_or t.types (p - 1) 0) 16 ≡ false → table_type t p ≡ None
read_none t p h k = read_type t p h ∙ ap (λ (b : Bool). cond b (Some (get_or t.types (p - 1) 0)) None) k

pub no_place : (t : PlaceTable) (p : ℕ) → within p (table_places t) ≡ false → table_type t p ≡ None
unfolding table_type
no_place t p h = ap (λ (b : Bool). cond b (as_type (get_or t.types (p - 1) 0)) None) h

pub no_types : (t : PlaceTable) → ((i : ℕ) → get_or t.types i 0 ≡ 0) → table_type t ≡ (λ _. None)
no_types t zero-at = fun_ext (λ p. ⊎_elim
    (λ (h : within p (table_places t) ≡ true). read_type t p h ∙ ap as_type (zero-at (p - 1)))
    (no_place t p) (cases_Bool (within p (table_places t))))

pub fresh : (types : List ℕ) (n : ℕ) → types ≡ replicate 128 0 → table_type (record { types = types; n = n }) ≡ (λ _. None)
fresh types n is = no_types (record { types = types; n = n }) (λ i. ap (λ (xs : List ℕ). get_or xs i 0) is ∙ zeros 128 i)

-- the table with the number v at place p
abbrev pub written : PlaceTable → ℕ → ℕ → PlaceTable
written t p v = record { types = set t.types (p - 1) v; n = t.n }

-- a place of the table is given a type, or emptied
pub put_at : (t : PlaceTable) (p v : ℕ) (o : Option ℕ) → within p (table_places t) ≡ true → p - 1 < length t.types → v ≡ unwrap_or o 0
    → table_type (written t p v) ≡ put_type t p o
unfolding table_places
put_at t p v o h lt is = fun_ext (λ q. ⊎_elim
    (λ (e : q ≡ p).
    ap (table_type (written t p v)) e ∙ read_type (written t p v) p h ∙ ap as_type (get_or-set_same t.types (p - 1) v 0 lt) ∙ typed o is
    ∙ sym (ap (λ (b : Bool). cond b (only_types o) (table_type t q)) (both (eq-eqb q p e))))
    (λ (d : q ≢ p).
    others q d (cases_Bool (within q (table_places t)))
    ∙ sym (ap (λ (b : Bool). cond b (only_types o) (table_type t q)) (one (ne_eqb q p d))))
    (cases_eq q p))
  where
    typed : (o : Option ℕ) → v ≡ unwrap_or o 0 → as_type v ≡ only_types o
    typed (Some k) e = ap as_type e
    typed None e = ap as_type e

    both : {b : Bool} → b ≡ true → (within p (table_places t) && b) ≡ true
    both e = and_from _ _ h e

    one : {b : Bool} → b ≡ false → (within p (table_places t) && b) ≡ false
    one e = and_right _ _ e

    others : (q : ℕ) → q ≢ p → (within q (table_places t) ≡ true) ⊎ (within q (table_places t) ≡ false) → table_type (written t p v) q ≡ table_type t q
    others q d (inl i) =
        let iq = within_in q (table_places t) i in
        let ip = within_in p (table_places t) h in
        read_type (written t p v) q i ∙ ap as_type (get_or-set_other t.types (p - 1) (q - 1) v 0 (λ (e : q - 1 ≡ p - 1). d (omega (arith, iq.0, ip.0)))) ∙ sym (read_type t q i)
    others q d (inr i) = no_place (written t p v) q i ∙ sym (no_place t q i)

-- what is no place of the table is not written
pub put_out : (t : PlaceTable) (p : ℕ) (o : Option ℕ) → within p (table_places t) ≡ false → table_type t ≡ put_type t p o
put_out t p o h = fun_ext (λ q. sym (ap (λ (b : Bool). cond b (only_types o) (table_type t q)) (and_left _ _ h)))
