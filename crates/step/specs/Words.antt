-- The words that a refused step is printed in.
use Rattle.std.specs.Prelude.{ℕ, List, codes}
use Rattle.step.specs.declared.faults.StepFault.{StepFault}
use Rattle.step.specs.declared.faults.StepFault.TheVariants.{NoSuchStep, WrongPlace, ConditionFalse, NoRoom}

abbrev pub fault_words : StepFault → List ℕ
fault_words NoSuchStep = codes "no such command, a wrong number of places, or more than enters on a trial"
fault_words WrongPlace = codes "a place out of range, repeated, or of the wrong type or filling"
fault_words ConditionFalse = codes "a test does not find its right"
fault_words NoRoom = codes "the new rights exceed the room"
