-- What a trial means: what stands below together with its own rights; its room is 512 less those.
use Rattle.std.specs.Prelude.{◌≡◌, ◌-◌, true, ◌&&◌, ◌||◌, List, length}
use Rattle.std.proofs.Common.{⊎_elim, arith}
use Rattle.std.proofs.lemmas.Bool.{and_parts, or_cases}
use Rattle.records.specs.Arrays.{elements}
use Rattle.matrix.specs.Listed.{listed}
use Rattle.matrix.specs.Standing.{Standing, Meaning, Lawful, stands}
use Rattle.matrix.specs.declared.grants.Grant.{Grant}
use Rattle.trial.specs.declared.overlay.Trial.{Trial}

abbrev pub own_rights : {M : Type 0} → Trial M → List Grant
own_rights t = elements t.own

-- an own right is held while both its places are filled
abbrev pub shown_with : Standing → List Grant → Standing
shown_with s own = record { places = s.places; type_at = s.type_at; held = λ g. s.held g || (stands s.type_at g && listed own g) }

abbrev pub over : Meaning → List Grant → Meaning
over m own = record { standing = shown_with m.standing own; room = 512 - length own }

abbrev pub trial_means : {M : Type 0} → (M → Meaning) → Trial M → Meaning
trial_means means t = over (means t.below) (own_rights t)

lawful_over : (m : Meaning) (own : List Grant) → Lawful m → Lawful (over m own)
lawful_over m own l = record {
  few = l.few;
  types = l.types;
  rights = λ g h. ⊎_elim (l.rights g) (λ (o : (stands m.standing.type_at g && listed own g) ≡ true). (and_parts _ _ o).0) (or_cases _ _ h);
  rooms = omega arith;
}

pub trial_lawful : {M : Type 0} (means : M → Meaning) → ((x : M) → Lawful (means x)) → (t : Trial M) → Lawful (trial_means means t)
trial_lawful means l t = lawful_over (means t.below) (own_rights t) (l t.below)
