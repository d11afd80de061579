-- What a question to a closed lot is answered, and what is reached from the standing that was closed.
use Rattle.std.proofs.Common.{◌≡◌, ℕ, Bool, true, false, cond, ◌⊎◌, ◌↔◌, [], sym, refl, ap, ◌∙◌, inl, inr, arith, Ok, Err, None, Some}
use Rattle.std.proofs.lemmas.Bool.{both_ways, cond-true}
use Rattle.std.proofs.lemmas.Bool.Decides.{nat_tests}
use Rattle.matrix.specs.Standing.{Standing}
use Rattle.matrix.specs.declared.grants.Grant.{Grant}
use Rattle.scheme.specs.Rules.{Rules, only_grants}
use Rattle.step.specs.Permitted.{Reaches, Addable, MoreThan}
use Rattle.trial.specs.Means.{shown_with}
use Rattle.closing.specs.Closes.{Closing, Closes}
use Rattle.closing.proofs.Verdicts.{plan_reaches, closed-reached, short-many, done_few}
use Rattle.closing.proofs.Replaying.{replays}
use Rattle.lot.specs.Questions.{ask_number, valid, judged_question, Says}
use Rattle.lot.specs.Histories.{Answer, refusal_of, Answered}
use Rattle.lot.specs.Laws.{Leads}
use Rattle.lot.specs.declared.calls.CallFault.TheVariants as fault
use Rattle.lot.specs.declared.calls.Verdict.{Verdict}
use Rattle.lot.specs.declared.calls.Verdict.TheVariants.{Held, Leaks, Safe}
use Rattle.lot.specs.declared.faults.AskFault.{AskFault}
use Rattle.lot.specs.declared.faults.AskFault.TheVariants.{WrongCell, MoreThanGrants, TooManyRights}

-- what is held is reached, by no step at all
pub held-reached : (σ : Rules) (s : Standing) (g : Grant) → s.held g ≡ true → Reaches σ s g
held-reached σ s g h = record { steps = []; permitted = tt; held = h }

-- a trial shows what the plan reaches, and all of it where the closing came to its end
pub shown-reached : (σ : Rules) (s : Standing) (c : Closing) (g : Grant) → Closes σ s c → (shown_with s c.own).held g ≡ true → Reaches σ s g
shown-reached σ s c g closes h = plan_reaches σ s c.plan g closes.plans (sym (ap (λ (u : Standing). u.held g) closes.shows) ∙ h)

pub reached-shown : (σ : Rules) (s : Standing) (c : Closing) (g : Grant) → only_grants σ ≡ true → Closes σ s c → c.short ≡ false → Reaches σ s g → (shown_with s c.own).held g ≡ true
reached-shown σ s c g e closes whole r = ap (λ (u : Standing). u.held g) closes.shows ∙ closed-reached σ s c g e closes whole r

-- a question that passes is valid, and the closing came to its end
pub passed_parts : (σ : Rules) (s : Standing) (short : Bool) (g : Grant) → judged_question σ s short g ≡ 0 → (valid σ s g ≡ true) × (only_grants σ ≡ true) × (short ≡ false)
passed_parts σ s short g h = by (valid σ s g) (only_grants σ) short h
  where
    by : (a b d : Bool) → ◌≡◌ {A = ℕ} (cond a (cond b (cond d 15 0) 14) 13) 0 → (a ≡ true) × (b ≡ true) × (d ≡ false)
    by a b d e = (grind (arith, nat_tests), grind (arith, nat_tests), grind (arith, nat_tests))

-- a valid question on a scheme that only grants fails by the closing alone
pub judged_valid : (σ : Rules) (s : Standing) (short : Bool) (g : Grant) → only_grants σ ≡ true → valid σ s g ≡ true → judged_question σ s short g ≡ cond short 15 0
judged_valid σ s short g e v = cond-true (valid σ s g) _ 13 v ∙ cond-true (only_grants σ) _ 14 e

-- an answer's refusal is the question's number
pub answer-number : (σ : Rules) (s : Standing) (c : Closing) (g : Grant) (a : Answer) → Answered σ s c g a → refusal_of a ≡ judged_question σ s c.short g
answer-number σ s c g (Ok None) h = absurd h
answer-number σ s c g (Ok (Some v)) h = sym h.passed
answer-number σ s c g (Err (fault.Step f)) h = absurd h
answer-number σ s c g (Err (fault.Ask f)) h = h

-- the verdicts tell apart
says-safe : (σ : Rules) (s : Standing) (c : Closing) (g : Grant) (v : Verdict) → only_grants σ ≡ true → Closes σ s c → c.short ≡ false → Says σ s c g v → (◌≡◌ {A = Answer} (Ok (Some v)) (Ok (Some Safe))) ↔ (Reaches σ s g → ⊥)
says-safe σ s c g Held e closes whole says =
    (λ (is : ◌≡◌ {A = Answer} (Ok (Some Held)) (Ok (Some Safe))). absurd (let z : ◌≡◌ {A = ℕ} 0 1 = cc in omega arith), λ (unmet : Reaches σ s g → ⊥). absurd (unmet (held-reached σ s g says)))
says-safe σ s c g (Leaks m) e closes whole says =
    (λ (is : ◌≡◌ {A = Answer} (Ok (Some (Leaks m))) (Ok (Some Safe))). absurd (let z : ◌≡◌ {A = ℕ} 0 1 = cc in omega arith), λ (unmet : Reaches σ s g → ⊥). absurd (unmet (shown-reached σ s c g closes says.shown)))
says-safe σ s c g Safe e closes whole says =
    (λ is r. both_ways ((shown_with s c.own).held g) says (reached-shown σ s c g e closes whole r), λ unmet. refl)

says-held : (σ : Rules) (s : Standing) (c : Closing) (g : Grant) (v : Verdict) → only_grants σ ≡ true → Closes σ s c → c.short ≡ false → Says σ s c g v → (◌≡◌ {A = Answer} (Ok (Some v)) (Ok (Some Held))) ↔ (s.held g ≡ true)
says-held σ s c g Held e closes whole says = (λ is. says, λ h. refl)
says-held σ s c g (Leaks m) e closes whole says =
    (λ (is : ◌≡◌ {A = Answer} (Ok (Some (Leaks m))) (Ok (Some Held))). absurd (let z : ◌≡◌ {A = ℕ} 0 1 = cc in omega arith), λ h. absurd (both_ways (s.held g) says.not_held h))
says-held σ s c g Safe e closes whole says = (
  λ (is : ◌≡◌ {A = Answer} (Ok (Some Safe)) (Ok (Some Held))). absurd (let z : ◌≡◌ {A = ℕ} 0 1 = cc in omega arith),
  λ h. absurd (both_ways ((shown_with s c.own).held g) says (reached-shown σ s c g e closes whole (held-reached σ s g h))),
)

some_fault : (f : AskFault) → ask_number f ≡ 0 → ⊥
some_fault WrongCell e = omega arith
some_fault MoreThanGrants e = omega arith
some_fault TooManyRights e = omega arith

pub safe_law : (σ : Rules) (s : Standing) (c : Closing) (g : Grant) (a : Answer) → only_grants σ ≡ true → Closes σ s c → Answered σ s c g a → refusal_of a ≡ 0
    → (a ≡ Ok (Some Safe)) ↔ (Reaches σ s g → ⊥)
safe_law σ s c g (Ok None) e closes h z = absurd h
safe_law σ s c g (Ok (Some v)) e closes h z = says-safe σ s c g v e closes (passed_parts σ s c.short g h.passed).2 h.says
safe_law σ s c g (Err (fault.Step f)) e closes h z = absurd h
safe_law σ s c g (Err (fault.Ask f)) e closes h z = absurd (some_fault f z)

pub held_law : (σ : Rules) (s : Standing) (c : Closing) (g : Grant) (a : Answer) → only_grants σ ≡ true → Closes σ s c → Answered σ s c g a → refusal_of a ≡ 0
    → (a ≡ Ok (Some Held)) ↔ (s.held g ≡ true)
held_law σ s c g (Ok None) e closes h z = absurd h
held_law σ s c g (Ok (Some v)) e closes h z = says-held σ s c g v e closes (passed_parts σ s c.short g h.passed).2 h.says
held_law σ s c g (Err (fault.Step f)) e closes h z = absurd h
held_law σ s c g (Err (fault.Ask f)) e closes h z = absurd (some_fault f z)

-- a leak's steps are accepted and bring the right
pub leaks_law : (σ : Rules) (s : Standing) (c : Closing) (g : Grant) (m : ℕ) → Closes σ s c → Answered σ s c g (Ok (Some (Leaks m))) → Leads σ s c g m
leaks_law σ s c g m closes h = record {
  few = h.says.few;
  Accepted = λ n is fits. replays σ s c.plan m n closes.plans is fits;
  brings = h.says.brought;
}

-- a valid question is refused only where the closing was short, which is where too much can be added
pub size_law : (σ : Rules) (s : Standing) (c : Closing) (n : ℕ) → only_grants σ ≡ true → Closes σ s c → n ≡ cond c.short 15 0 → (n ≡ 15) ↔ MoreThan 512 (Addable σ s)
size_law σ s c n e closes is = by c.short (short-many σ s c closes) (done_few σ s c e closes) is
  where
    by : (b : Bool) → (b ≡ true → MoreThan 512 (Addable σ s)) → (b ≡ false → MoreThan 512 (Addable σ s) → ⊥) → n ≡ cond b 15 0 → (n ≡ 15) ↔ MoreThan 512 (Addable σ s)
    by true many few is = (λ h. many refl, λ h. is)
    by false many few is = (λ h. absurd (omega arith), λ h. absurd (few refl h))

pub only_law : (b : Bool) (n : ℕ) → n ≡ cond b 15 0 → (n ≡ 0) ⊎ (n ≡ 15)
only_law true n is = inr is
only_law false n is = inl is
