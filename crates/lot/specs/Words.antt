-- The words that a refused question and a refused call are printed in.
use Rattle.std.specs.Prelude.{ℕ, List, codes}
use Rattle.step.specs.Words.{fault_words}
use Rattle.lot.specs.declared.faults.AskFault.{AskFault}
use Rattle.lot.specs.declared.faults.AskFault.TheVariants.{WrongCell, MoreThanGrants, TooManyRights}
use Rattle.lot.specs.declared.calls.CallFault.{CallFault}
use Rattle.lot.specs.declared.calls.CallFault.TheVariants as fault

abbrev pub ask_words : AskFault → List ℕ
ask_words WrongCell = codes "a number out of range, an empty place, or a row that is no subject"
ask_words MoreThanGrants = codes "the scheme does more than grant"
ask_words TooManyRights = codes "more rights can be added than the trial has room for"

-- those of the step's fault or of the question's
abbrev pub call_words : CallFault → List ℕ
call_words (fault.Step f) = fault_words f
call_words (fault.Ask f) = ask_words f
