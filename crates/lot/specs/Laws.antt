-- The law of runs: what holds of every question in a history, for schemes that only grant.
use Rattle.std.specs.Prelude.{◌≡◌, ℕ, ◌≤◌, true, false, ◌⊎◌, ◌↔◌, List, [], ◌∷◌, length, take, Ok, Some}
use Rattle.matrix.specs.Standing.{Standing, Meaning}
use Rattle.matrix.specs.declared.grants.Grant.{Grant}
use Rattle.scheme.specs.Rules.{Rules, only_grants}
use Rattle.step.specs.Permitted.{Reaches, Addable, MoreThan}
use Rattle.trial.specs.Means.{shown_with}
use Rattle.closing.specs.Plans.{steps_of, added, planned}
use Rattle.closing.specs.Closes.{Closing}
use Rattle.closing.specs.Replays.{AcceptsAll}
use Rattle.lot.specs.Questions.{valid}
use Rattle.lot.specs.Histories.{Answer, refusal_of, Phase, State, Entry}
use Rattle.lot.specs.Histories.Phase.{opened, closed}
use Rattle.lot.specs.declared.calls.Call.{Call}
use Rattle.lot.specs.declared.calls.Call.TheVariants.{Step, Close, Ask, Reopen}
use Rattle.lot.specs.declared.calls.Verdict.TheVariants.{Held, Leaks, Safe}

-- the own rights of a lot's trial, which is empty while the lot is open
abbrev pub own_of : Phase → List Grant
own_of opened = []
own_of (closed s c) = c.own

-- neither the register nor the trial holds the right
pub record Absent (g : Grant) (l : State) : Type 0 where
  pub register : l.register.standing.held g ≡ false
  pub trial : (shown_with l.register.standing (own_of l.phase)).held g ≡ false

abbrev pub AbsentAfter : Grant → List Entry → Type 0
AbsentAfter g [] = Unit {0}
AbsentAfter g (e ∷ es) = Absent g e.after × AbsentAfter g es

-- on every register that shows s and has room for all that the first m steps add, they are accepted one after the other, and bring the right
pub record Leads (σ : Rules) (s : Standing) (c : Closing) (g : Grant) (m : ℕ) : Type 0 where
  pub few : m ≤ length c.plan
  pub Accepted : (n : Meaning) → n.standing ≡ s → length (added σ s (steps_of (take m c.plan))) ≤ n.room → AcceptsAll σ n (steps_of (take m c.plan))
  pub brings : (planned σ s (take m c.plan)).held g ≡ true

-- a question on g to a lot that was closed when its register showed s, its answer, and what came later
pub record QuestionLaw (σ : Rules) (s : Standing) (c : Closing) (g : Grant) (a : Answer) (later : List Entry) : Type 0 where
  -- answered "safe" exactly when no permitted list from s ends with the right held, "held" exactly when s holds it
  pub safe : refusal_of a ≡ 0 → (a ≡ Ok (Some Safe)) ↔ (Reaches σ s g → ⊥)
  pub held : refusal_of a ≡ 0 → (a ≡ Ok (Some Held)) ↔ (s.held g ≡ true)
  -- after "safe" the right never comes
  pub never : a ≡ Ok (Some Safe) → AbsentAfter g later
  pub leaks : (m : ℕ) → a ≡ Ok (Some (Leaks m)) → Leads σ s c g m
  -- a valid question is refused with 15 exactly when more than 512 rights are addable, and for nothing else
  pub size : valid σ s g ≡ true → (refusal_of a ≡ 15) ↔ MoreThan 512 (Addable σ s)
  pub only : valid σ s g ≡ true → (refusal_of a ≡ 0) ⊎ (refusal_of a ≡ 15)

abbrev pub CallLaw : Rules → Phase → Call → Answer → List Entry → Type 0
CallLaw σ opened call a later = Unit {0}
CallLaw σ (closed s c) (Step t) a later = Unit {0}
CallLaw σ (closed s c) Close a later = Unit {0}
CallLaw σ (closed s c) (Ask g) a later = QuestionLaw σ s c g a later
CallLaw σ (closed s c) Reopen a later = Unit {0}

abbrev pub LawOf : Rules → List Entry → Type 0
LawOf σ [] = Unit {0}
LawOf σ (e ∷ es) = CallLaw σ e.before.phase e.call e.answer es × LawOf σ es

-- every question of the history keeps the law
abbrev pub Law : Rules → List Entry → Type 0
Law σ es = only_grants σ ≡ true → LawOf σ es
