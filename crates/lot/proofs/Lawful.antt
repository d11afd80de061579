-- The law of runs.
use Rattle.std.proofs.Common.{◌≡◌, Bool, true, false, List, [], ◌∷◌, sym, refl, ap, ◌∙◌, subst, Ok, Err, None, Some}
use Rattle.std.proofs.lemmas.Bool.{and_right, or_from}
use Rattle.matrix.specs.Standing.{Standing, Meaning, stands}
use Rattle.matrix.specs.declared.grants.Grant.{Grant}
use Rattle.scheme.specs.Rules.{Rules, only_grants}
use Rattle.step.specs.Judged.{judged_step}
use Rattle.step.specs.Runs.{RanStep}
use Rattle.step.specs.Permitted.{StepRules, Reaches}
use Rattle.step.specs.Lists.{step_of}
use Rattle.step.specs.Lists.AllRan.{none, more}
use Rattle.step.proofs.Sequences.{ran_all}
use Rattle.trial.specs.Means.{shown_with}
use Rattle.closing.specs.Closes.{Closing, Closes}
use Rattle.lot.specs.Questions.{EndsAs}
use Rattle.lot.specs.Histories.{Answer, refusal_of, Phase, State, Entry, Stepped, Answered, Called, History}
use Rattle.lot.specs.Histories.Phase.{opened, closed}
use Rattle.lot.specs.Laws.{own_of, Absent, AbsentAfter, QuestionLaw, CallLaw, LawOf, Law}
use Rattle.lot.proofs.Shown.{held-reached, shown-reached, judged_valid, answer-number, safe_law, held_law, leaks_law, size_law, only_law}
use Rattle.lot.specs.declared.calls.CallFault.TheVariants as fault
use Rattle.lot.specs.declared.calls.Call.{Call}
use Rattle.lot.specs.declared.calls.Call.TheVariants.{Step, Close, Ask, Reopen}

-- a closed lot has a closing of what its register shows
abbrev GoodPhase : Rules → Standing → Phase → Type 0
GoodPhase σ u opened = Unit {0}
GoodPhase σ u (closed s c) = (s ≡ u) × Closes σ s c

abbrev Good : Rules → State → Type 0
Good σ l = GoodPhase σ l.register.standing l.phase

open_good : (σ : Rules) (l : State) → l.phase ≡ opened → Good σ l
open_good σ l is = subst (GoodPhase σ l.register.standing) (sym is) tt

-- every call leaves a good state
called_good : (σ : Rules) (m : Meaning) (p : Phase) (call : Call) (a : Answer) (after : State) → only_grants σ ≡ true → GoodPhase σ m.standing p → Called σ m p call a after → Good σ after
called_good σ m opened (Step t) a after e good h = open_good σ after h.1
called_good σ m opened Close a after e good h =
    let closes : Closes σ m.standing h.closing = subst (λ (b : Bool). EndsAs b σ m.standing h.closing) e h.ends in
    subst (Good σ) (sym h.after) (refl, closes)
called_good σ m opened (Ask g) a after e good h = absurd h
called_good σ m opened Reopen a after e good h = absurd h
called_good σ m (closed s c) (Step t) a after e good h = absurd h
called_good σ m (closed s c) Close a after e good h = absurd h
called_good σ m (closed s c) (Ask g) a after e good h = subst (Good σ) (sym h.1) good
called_good σ m (closed s c) Reopen a after e good h = subst (Good σ) (sym h.1) tt

-- what is reached after an accepted step is reached before it
ran_back : (σ : Rules) (m n : Meaning) (t : StepRules) (g : Grant) → judged_step σ m t.command t.places ≡ 0 → RanStep σ t.command t.places m n
    → Reaches σ n.standing g → Reaches σ m.standing g
ran_back σ m n t g ok made r =
    let ran = ran_all {σ = σ} {m = m} {n = n} {ts = t ∷ []} (more {t = t} ok made (none refl)) in
    let next = subst (λ (u : Standing). Reaches σ u g) ran.standing r in
    record { steps = t ∷ next.steps; permitted = (ran.permitted.0, next.permitted); held = next.held }

stepped_back : (σ : Rules) (m n : Meaning) (t : StepRules) (a : Answer) (g : Grant) → Stepped σ m t a n → Reaches σ n.standing g → Reaches σ m.standing g
stepped_back σ m n t (Ok None) g h r = ran_back σ m n t g h.0 h.1 r
stepped_back σ m n t (Ok (Some v)) g h r = absurd h
stepped_back σ m n t (Err (fault.Step f)) g h r = subst (λ (x : Meaning). Reaches σ x.standing g) h.1 r
stepped_back σ m n t (Err (fault.Ask f)) g h r = absurd h

-- so it is with every call
same_back : (σ : Rules) (l n : State) (g : Grant) → n ≡ l → Reaches σ n.register.standing g → Reaches σ l.register.standing g
same_back σ l n g is r = subst (λ (x : State). Reaches σ x.register.standing g) is r

called_back : (σ : Rules) (m : Meaning) (p : Phase) (call : Call) (a : Answer) (after : State) (g : Grant) → Called σ m p call a after → Reaches σ after.register.standing g → Reaches σ m.standing g
called_back σ m opened (Step t) a after g h r = stepped_back σ m after.register (step_of t) a g h.0 r
called_back σ m opened Close a after g h r = same_back σ (record { register = m; phase = closed m.standing h.closing }) after g h.after r
called_back σ m opened (Ask x) a after g h r = absurd h
called_back σ m opened Reopen a after g h r = absurd h
called_back σ m (closed s c) (Step t) a after g h r = absurd h
called_back σ m (closed s c) Close a after g h r = absurd h
called_back σ m (closed s c) (Ask x) a after g h r = same_back σ (record { register = m; phase = closed s c }) after g h.1 r
called_back σ m (closed s c) Reopen a after g h r = same_back σ (record { register = m; phase = opened }) after g h.1 r

-- a right that is not reached is absent
fails : (b : Bool) → (b ≡ true → ⊥) → b ≡ false
fails true f = absurd (f refl)
fails false f = refl

unreached_absent : (σ : Rules) (u : Standing) (p : Phase) (g : Grant) → GoodPhase σ u p → (Reaches σ u g → ⊥) → (shown_with u (own_of p)).held g ≡ false
unreached_absent σ u opened g good unmet = or_from (u.held g) _ (fails (u.held g) (λ h. unmet (held-reached σ u g h))) (and_right (stands u.type_at g) false refl)
unreached_absent σ u (closed s c) g good unmet =
    fails ((shown_with u c.own).held g) (λ h. unmet (shown-reached σ u c g (subst (λ (x : Standing). Closes σ x c) good.0 good.1) h))

absent : (σ : Rules) (l : State) (g : Grant) → Good σ l → (Reaches σ l.register.standing g → ⊥) → Absent g l
absent σ l g good unmet = record {
  register = fails (l.register.standing.held g) (λ h. unmet (held-reached σ l.register.standing g h));
  trial = unreached_absent σ l.register.standing l.phase g good unmet;
}

-- and stays so for the rest of the history
stays_absent : (σ : Rules) (start end : State) (calls : List Call) (es : List Entry) (g : Grant) → only_grants σ ≡ true → Good σ start → (Reaches σ start.register.standing g → ⊥)
    → History σ start calls es end → AbsentAfter g es
stays_absent σ start end calls [] g e good unmet h = tt
stays_absent σ start end [] (x ∷ es) g e good unmet h = absurd h
stays_absent σ start end (call ∷ calls) (x ∷ es) g e good unmet h =
    let before = x.before in
    let here : Good σ before = subst (Good σ) (sym h.0) good in
    let next = called_good σ before.register before.phase x.call x.answer x.after e here h.2 in
    let never = λ (r : Reaches σ x.after.register.standing g).
    unmet (same_back σ start before g h.0 (called_back σ before.register before.phase x.call x.answer x.after g h.2 r)) in
    (absent σ x.after g next never, stays_absent σ x.after end calls es g e next never h.3)

-- the law of one question, where the right stays away once it is not reached
question_law : (σ : Rules) (s : Standing) (c : Closing) (g : Grant) (a : Answer) (later : List Entry) → only_grants σ ≡ true → Closes σ s c → Answered σ s c g a
    → ((Reaches σ s g → ⊥) → AbsentAfter g later) → QuestionLaw σ s c g a later
question_law σ s c g a later e closes h away =
    let number = answer-number σ s c g a h in
    record {
      safe = safe_law σ s c g a e closes h;
      held = held_law σ s c g a e closes h;
      never = λ is. away ((safe_law σ s c g a e closes h (ap refusal_of is)).0 is);
      leaks = λ m is. leaks_law σ s c g m closes (subst (Answered σ s c g) is h);
      size = λ v. size_law σ s c (refusal_of a) e closes (number ∙ judged_valid σ s c.short g e v);
      only = λ v. only_law c.short (refusal_of a) (number ∙ judged_valid σ s c.short g e v);
    }

call_law : (σ : Rules) (m : Meaning) (p : Phase) (call : Call) (a : Answer) (after end : State) (calls : List Call) (later : List Entry) → only_grants σ ≡ true → GoodPhase σ m.standing p
    → Called σ m p call a after → History σ after calls later end → CallLaw σ p call a later
call_law σ m opened call a after end calls later e good h rest = tt
call_law σ m (closed s c) (Step t) a after end calls later e good h rest = tt
call_law σ m (closed s c) Close a after end calls later e good h rest = tt
call_law σ m (closed s c) (Ask g) a after end calls later e good h rest =
    question_law σ s c g a later e good.1 (subst (λ (u : Standing). Answered σ u c g a) (sym good.0) h.0)
    (λ unmet. stays_absent σ after end calls later g e (subst (Good σ) (sym h.1) good)
    (λ r. unmet (subst (λ (u : Standing). Reaches σ u g) (sym good.0) (same_back σ (record { register = m; phase = closed s c }) after g h.1 r))) rest)
call_law σ m (closed s c) Reopen a after end calls later e good h rest = tt

law_from : (σ : Rules) (start end : State) (calls : List Call) (es : List Entry) → only_grants σ ≡ true → Good σ start → History σ start calls es end → LawOf σ es
law_from σ start end calls [] e good h = tt
law_from σ start end [] (x ∷ es) e good h = absurd h
law_from σ start end (call ∷ calls) (x ∷ es) e good h =
    let before = x.before in
    let here : Good σ before = subst (Good σ) (sym h.0) good in
    let next = called_good σ before.register before.phase x.call x.answer x.after e here h.2 in
    (call_law σ before.register before.phase x.call x.answer x.after end calls es e here h.2 h.3, law_from σ x.after end calls es e next h.3)

-- of any history that begins with an open lot
pub history_law : (σ : Rules) (start end : State) (calls : List Call) (entries : List Entry) → start.phase ≡ opened → History σ start calls entries end → Law σ entries
history_law σ start end calls entries is h e = law_from σ start end calls entries e (open_good σ start is) h
