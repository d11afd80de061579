-- A register as a place-type table and a store of rights: what it shows, and why that is lawful.
use Rattle.std.specs.Prelude.{◌≡◌, ℕ, ◌-◌, ◌≤◌, Bool, true, false, cond, Some, None, slice_index, refl}
use Rattle.std.proofs.Common.{sym, ap, ◌∙◌, arith}
use Rattle.matrix.specs.Ranges.{within}
use Rattle.matrix.specs.Standing.{Standing, Meaning, Lawful, stands}
use Rattle.matrix.specs.Tables.{table_places, table_type, as_type}
use Rattle.matrix.specs.declared.grants.Grant.{Grant}
use Rattle.matrix.specs.declared.tables.PlaceTable.{PlaceTable}

abbrev pub shows : PlaceTable → (Grant → Bool) → Standing
shows t stored = record { places = table_places t; type_at = table_type t; held = stored }

-- every stored right is one of 1 to 32 at filled places
abbrev pub Sound : PlaceTable → (Grant → Bool) → Type 0
Sound t stored = (g : Grant) → stored g ≡ true → stands (table_type t) g ≡ true

-- n places, all empty, and nothing held
abbrev pub blank : ℕ → ℕ → Meaning
blank n room = record { standing = record { places = n; type_at = λ _. None; held = λ _. false }; room = room }

pub few_places : (t : PlaceTable) → table_places t ≤ 128
unfolding table_places
few_places t = omega arith

pub typed_within : (t : PlaceTable) (p k : ℕ) → table_type t p ≡ Some k → (within p (table_places t) ≡ true) × (within k 16 ≡ true)
unfolding table_type
typed_within t p k h = place (within p (table_places t)) h
  where
    kind : (x : ℕ) (b : Bool) → within x 16 ≡ b → cond b (Some x) None ≡ Some k → within k 16 ≡ true
    kind x true e f = let x-is : x ≡ k = cc in sym (ap (λ (z : ℕ). within z 16) x-is) ∙ e
    kind x false e f = absurd (let z : ◌≡◌ {A = ℕ} 0 1 = cc in omega arith)

    place : (b : Bool) → cond b (as_type (slice_index t.types (p - 1))) None ≡ Some k → (b ≡ true) × (within k 16 ≡ true)
    place true f = (refl, kind (slice_index t.types (p - 1)) (within (slice_index t.types (p - 1)) 16) refl f)
    place false f = absurd (let z : ◌≡◌ {A = ℕ} 0 1 = cc in omega arith)

pub lawful_store : (t : PlaceTable) (stored : Grant → Bool) (room : ℕ) → Sound t stored → room ≤ 524288
    → Lawful (record { standing = shows t stored; room = room })
lawful_store t stored room sound le = record { few = few_places t; types = typed_within t; rights = sound; rooms = le }
