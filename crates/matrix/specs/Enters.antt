-- Grants entered one after the other, up to the first that is refused.
use Rattle.std.specs.Prelude.{◌≡◌, List, [], ◌∷◌, take, Some, Ok, Err, Result}
use Rattle.std.specs.List.{slice_get}
use Rattle.matrix.specs.Standing.{Meaning}
use Rattle.matrix.specs.Refusals.{enter_refusal, number_of}
use Rattle.matrix.specs.Calls.{Entered}
use Rattle.matrix.specs.declared.grants.Grant.{Grant}
use Rattle.matrix.specs.declared.faults.MatrixFault.{MatrixFault}
use Rattle.refusals.specs.declared.FirstRefusal.{FirstRefusal}

-- each is accepted on what the one before it left
pub data AllEntered : Meaning → List Grant → Meaning → Type 0 where
  none : {m n : Meaning} → n ≡ m → AllEntered m [] n
  more : {m n l : Meaning} {g : Grant} {gs : List Grant} → enter_refusal m g ≡ 0 → Entered m g l → AllEntered l gs n → AllEntered m (g ∷ gs) n

-- those before the position are entered, and the grant there is refused on what they left, which stays
pub record Stopped (m : Meaning) (gs : List Grant) (at : FirstRefusal MatrixFault) (n : Meaning) : Type 0 where
  pub grant : Grant
  pub there : slice_get gs at.position ≡ Some grant
  pub before : AllEntered m (take at.position gs) n
  pub refusal : number_of at.fault ≡ enter_refusal n grant

abbrev pub EntersAll : {X : Type 0} → Meaning → List Grant → Result X (FirstRefusal MatrixFault) → Meaning → Type 0
EntersAll m gs (Ok x) n = AllEntered m gs n
EntersAll m gs (Err at) n = Stopped m gs at n
