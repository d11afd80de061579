-- Runs of a lot: its states, what is defined for each call in each state, and the history of a list of calls.
use Rattle.std.specs.Prelude.{◌≡◌, ℕ, Bool, true, false, List, [], ◌∷◌, Ok, Err, Result, None, Some, Option}
use Rattle.refusals.specs.Refusals.{refusal_by}
use Rattle.matrix.specs.Standing.{Standing, Meaning}
use Rattle.matrix.specs.declared.grants.Grant.{Grant}
use Rattle.scheme.specs.Rules.{Rules}
use Rattle.step.specs.Judged.{judged_step, number_of}
use Rattle.step.specs.Runs.{RanStep}
use Rattle.step.specs.Permitted.{StepRules}
use Rattle.step.specs.Lists.{step_of}
use Rattle.closing.specs.Closes.{Closing}
use Rattle.lot.specs.Questions.{ask_number, Asked, Ends}
use Rattle.lot.specs.declared.calls.Verdict.{Verdict}
use Rattle.lot.specs.declared.calls.CallFault.{CallFault}
use Rattle.lot.specs.declared.calls.CallFault.TheVariants as fault
use Rattle.lot.specs.declared.calls.Call.{Call}
use Rattle.lot.specs.declared.calls.Call.TheVariants.{Step, Close, Ask, Reopen}

-- what a call is answered: a question's verdict, none for a call that is done; or why it is refused
abbrev pub Answer : Type 0
Answer = Result (Option Verdict) CallFault

abbrev pub call_number : CallFault → ℕ
call_number (fault.Step f) = number_of f
call_number (fault.Ask f) = ask_number f

-- the number of an answer's refusal, 0 where there is none
abbrev pub refusal_of : Answer → ℕ
refusal_of a = refusal_by call_number a

-- open, or closed: with the standing that was closed, and its closing
pub data Phase : Type 0 where
  opened : Phase
  closed : Standing → Closing → Phase

pub record State : Type 0 where
  pub register : Meaning
  pub phase : Phase

-- a step on an open lot's register
abbrev pub Stepped : Rules → Meaning → StepRules → Answer → Meaning → Type 0
Stepped σ m t (Ok None) n = (judged_step σ m t.command t.places ≡ 0) × RanStep σ t.command t.places m n
Stepped σ m t (Ok (Some v)) n = ⊥
Stepped σ m t (Err (fault.Step f)) n = (number_of f ≡ judged_step σ m t.command t.places) × (n ≡ m)
Stepped σ m t (Err (fault.Ask f)) n = ⊥

-- a question's answer
abbrev pub Answered : Rules → Standing → Closing → Grant → Answer → Type 0
Answered σ s c g (Ok None) = ⊥
Answered σ s c g (Ok (Some v)) = Asked σ s c g (Ok v)
Answered σ s c g (Err (fault.Step f)) = ⊥
Answered σ s c g (Err (fault.Ask f)) = Asked σ s c g (Err f)

-- a closing leaves the register, and ends with what it should
pub record ClosedAs (σ : Rules) (m : Meaning) (a : Answer) (end : State) : Type 0 where
  pub closing : Closing
  pub answer : a ≡ Ok None
  pub after : end ≡ record { register = m; phase = closed m.standing closing }
  pub ends : Ends σ m.standing closing

-- what a call is answered and leaves, in a state that takes it
abbrev pub OpenedCall : Rules → Meaning → Call → Answer → State → Type 0
OpenedCall σ m (Step t) a after = Stepped σ m (step_of t) a after.register × (after.phase ≡ opened)
OpenedCall σ m Close a after = ClosedAs σ m a after
OpenedCall σ m (Ask g) a after = ⊥
OpenedCall σ m Reopen a after = ⊥

abbrev pub ClosedCall : Rules → Meaning → Standing → Closing → Call → Answer → State → Type 0
ClosedCall σ m s c (Step t) a after = ⊥
ClosedCall σ m s c Close a after = ⊥
ClosedCall σ m s c (Ask g) a after = Answered σ m.standing c g a × (after ≡ record { register = m; phase = closed s c })
ClosedCall σ m s c Reopen a after = (a ≡ Ok None) × (after ≡ record { register = m; phase = opened })

abbrev pub Called : Rules → Meaning → Phase → Call → Answer → State → Type 0
Called σ m opened call a after = OpenedCall σ m call a after
Called σ m (closed s c) call a after = ClosedCall σ m s c call a after

pub record Entry : Type 0 where
  pub before : State
  pub call : Call
  pub answer : Answer
  pub after : State

-- one entry for each call, in order, each from the state that the one before it left
abbrev pub History : Rules → State → List Call → List Entry → State → Type 0
History σ start [] [] end = end ≡ start
History σ start [] (e ∷ es) end = ⊥
History σ start (call ∷ calls) [] end = ⊥
History σ start (call ∷ calls) (e ∷ es) end =
    (e.before ≡ start) × (e.call ≡ call) × Called σ e.before.register e.before.phase e.call e.answer e.after × History σ e.after calls es end

-- each call of a list comes in a state that takes it, from an open lot (false) or a closed one (true)
abbrev pub all_taken : Bool → List Call → Bool
all_taken closed? [] = true
all_taken false (Step t ∷ calls) = all_taken false calls
all_taken false (Close ∷ calls) = all_taken true calls
all_taken false (Ask g ∷ calls) = false
all_taken false (Reopen ∷ calls) = false
all_taken true (Step t ∷ calls) = false
all_taken true (Close ∷ calls) = false
all_taken true (Ask g ∷ calls) = all_taken true calls
all_taken true (Reopen ∷ calls) = all_taken false calls
