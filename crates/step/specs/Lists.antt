-- Lists of steps that a register runs one after the other, up to the first that is refused.
use Rattle.std.specs.Prelude.{◌≡◌, List, [], ◌∷◌, take, Some, Ok, Err, Result}
use Rattle.std.specs.List.{slice_get}
use Rattle.records.specs.Arrays.{elements}
use Rattle.matrix.specs.Standing.{Meaning}
use Rattle.scheme.specs.Rules.{Rules}
use Rattle.step.specs.Judged.{number_of, judged_step}
use Rattle.step.specs.Runs.{RanStep}
use Rattle.step.specs.Permitted.{StepRules, Permitted, after_all}
use Rattle.step.specs.declared.steps.Step.{Step}
use Rattle.step.specs.declared.faults.StepFault.{StepFault}
use Rattle.refusals.specs.declared.FirstRefusal.{FirstRefusal}

-- what a step's struct stands for
abbrev pub step_of : Step → StepRules
step_of t = record { command = t.command; places = elements t.places }

-- each step is accepted on what the one before it left
pub data AllRan (σ : Rules) : Meaning → List StepRules → Meaning → Type 0 where
  none : {m n : Meaning} → n ≡ m → AllRan σ m [] n
  more : {m n l : Meaning} {t : StepRules} {ts : List StepRules} → judged_step σ m t.command t.places ≡ 0 → RanStep σ t.command t.places m l
      → AllRan σ l ts n → AllRan σ m (t ∷ ts) n

-- so it was permitted, and what stands is what the list makes
pub record RanAll (σ : Rules) (m : Meaning) (ts : List StepRules) (n : Meaning) : Type 0 where
  pub ran : AllRan σ m ts n
  pub permitted : Permitted σ m.standing ts
  pub standing : n.standing ≡ after_all σ m.standing ts

-- those before the position ran, and the step there is refused on what they left, which stays
pub record StoppedAt (σ : Rules) (m : Meaning) (ts : List StepRules) (at : FirstRefusal StepFault) (n : Meaning) : Type 0 where
  pub step : StepRules
  pub there : slice_get ts at.position ≡ Some step
  pub before : RanAll σ m (take at.position ts) n
  pub refusal : number_of at.fault ≡ judged_step σ n step.command step.places

abbrev pub RunsAll : {X : Type 0} → Rules → Meaning → List StepRules → Result X (FirstRefusal StepFault) → Meaning → Type 0
RunsAll σ m ts (Ok x) n = RanAll σ m ts n
RunsAll σ m ts (Err at) n = StoppedAt σ m ts at n
