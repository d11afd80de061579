-- When a step is refused, and with which number.
use Rattle.std.specs.Prelude.{ℕ, cond, List, length, Some, None, Option, Result, ◌==◌, nat_le}
use Rattle.refusals.specs.Refusals.{refusal_by}
use Rattle.matrix.specs.Standing.{Meaning}
use Rattle.scheme.specs.Each.{numbered}
use Rattle.scheme.specs.Rules.{Rules, CommandRules, only_enters}
use Rattle.step.specs.Steps.{places_fit, condition}
use Rattle.step.specs.Bodies.{need}
use Rattle.step.specs.declared.faults.StepFault.{StepFault}
use Rattle.step.specs.declared.faults.StepFault.TheVariants.{NoSuchStep, WrongPlace, ConditionFalse, NoRoom}

abbrev pub number_of : StepFault → ℕ
number_of NoSuchStep = 9
number_of WrongPlace = 10
number_of ConditionFalse = 11
number_of NoRoom = 12

-- the number of a step's refusal, 0 where it was accepted
abbrev pub step_refusal : {X : Type 0} → Result X StepFault → ℕ
step_refusal r = refusal_by number_of r

-- a command at places on a matrix: the number of places, then the places, the condition, and the room for the need
abbrev pub judged_command : CommandRules → Meaning → List ℕ → ℕ
judged_command c m places =
    cond (length places == length c.formals)
    (cond (places_fit c m.standing places) (cond (condition c m.standing places) (cond (nat_le (need c m.standing places) m.room) 0 12) 11) 10)
    9

-- a step names a command of the scheme by its number
abbrev pub judged_found : Option CommandRules → Meaning → List ℕ → ℕ
judged_found None m places = 9
judged_found (Some c) m places = judged_command c m places

-- on a register
abbrev pub judged_step : Rules → Meaning → ℕ → List ℕ → ℕ
judged_step s m number places = judged_found (numbered s.commands number) m places

-- on any matrix only a command that only enters runs
abbrev pub judged_entering : Option CommandRules → Meaning → List ℕ → ℕ
judged_entering None m places = 9
judged_entering (Some c) m places = cond (only_enters c) (judged_command c m places) 9

abbrev pub judged_enter_step : Rules → Meaning → ℕ → List ℕ → ℕ
judged_enter_step s m number places = judged_entering (numbered s.commands number) m places
