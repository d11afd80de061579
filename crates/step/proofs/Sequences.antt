-- Lists of steps that ran: one more at the end, and that they were permitted.
use Rattle.std.proofs.Common.{◌≡◌, ℕ, zero, suc, ◌+◌, ◌<◌, Bool, true, cond, eqb, leb, List, [], ◌∷◌, ◌++◌, map, length, get_or, take, Some, None, Option, sym, refl, ap, ◌∙◌, subst, ap₂, arith}
use Rattle.std.specs.List.{slice_get}
use Rattle.std.proofs.lemmas.List.{map_more, take-map}
use Rattle.std.proofs.lemmas.Bool.{eqb-true}
use Rattle.std.proofs.lemmas.Bool.Decides.{nat_tests}
use Rattle.matrix.specs.Standing.{Standing, Meaning}
use Rattle.scheme.specs.Each.{numbered}
use Rattle.scheme.specs.Rules.{Rules, CommandRules}
use Rattle.step.specs.Steps.{places_fit, condition}
use Rattle.step.specs.Bodies.{need}
use Rattle.step.specs.Judged.{number_of, judged_found, judged_step}
use Rattle.step.specs.Runs.{RanFound, RanStep}
use Rattle.step.specs.Permitted.{StepRules, PermitsFound, after_found, Permitted, after_all}
use Rattle.step.specs.Lists.{step_of, AllRan, RanAll, StoppedAt}
use Rattle.step.specs.Lists.AllRan.{none, more}
use Rattle.step.specs.declared.faults.StepFault.{StepFault}
use Rattle.step.specs.declared.steps.Step.{Step}

ran_last : {σ : Rules} {m l n : Meaning} {ts : List StepRules} (t : StepRules) → AllRan σ m ts l → judged_step σ l t.command t.places ≡ 0
    → RanStep σ t.command t.places l n → AllRan σ m (ts ++ (t ∷ [])) n
ran_last {σ} {m} {l} {n} t (none e) ok made =
    more (subst (λ (x : Meaning). judged_step σ x t.command t.places ≡ 0) e ok) (subst (λ (x : Meaning). RanStep σ t.command t.places x n) e made) (none refl)
ran_last t (more ok' made' rest) ok made = more ok' made' (ran_last t rest ok made)

map_nth : {X Y : Type 0} (f : X → Y) (xs : List X) (i : ℕ) (d : X) → i < length xs → slice_get (map f xs) i ≡ Some (f (get_or xs i d))
map_nth f [] i d lt = absurd (omega arith)
map_nth f (x ∷ xs) zero d lt = refl
map_nth f (x ∷ xs) (suc i) d lt = map_nth f xs i d (omega arith)

-- one step more of a list, told by its number and its places
pub ran-more : {σ : Rules} {m l n : Meaning} (ts : List Step) (i : ℕ) (d : Step) (number : ℕ) (places : List ℕ) → i < length ts
    → number ≡ (step_of (get_or ts i d)).command → places ≡ (step_of (get_or ts i d)).places → AllRan σ m (map step_of (take i ts)) l
    → 0 ≡ judged_step σ l number places → RanStep σ number places l n → AllRan σ m (map step_of (take (i + 1) ts)) n
ran-more {σ} {m} {l} {n} ts i d number places lt a b so_far ok made =
    let same : record { command = number; places = places } ≡ step_of (get_or ts i d) = λ j. record { command = a j; places = b j } in
    subst (λ (xs : List StepRules). AllRan σ m xs n) (sym (map_more step_of ts i d lt))
    (ran_last (step_of (get_or ts i d)) so_far (subst (λ (t : StepRules). judged_step σ l t.command t.places ≡ 0) same (sym ok))
    (subst (λ (t : StepRules). RanStep σ t.command t.places l n) same made))

-- an accepted step is permitted
permitted_found : (o : Option CommandRules) (m : Meaning) (places : List ℕ) → judged_found o m places ≡ 0 → PermitsFound o m.standing places
permitted_found None m places h = absurd (omega arith)
permitted_found (Some c) m places h =
    let q = by (eqb (length places) (length c.formals)) (places_fit c m.standing places) (condition c m.standing places) (need c m.standing places) m.room h in
    record { count = eqb-true (length places) (length c.formals) q.0; fits = q.1; condition = q.2 }
  where
    by : (a b d : Bool) (n r : ℕ) → ◌≡◌ {A = ℕ} (cond a (cond b (cond d (cond (leb n r) 0 12) 11) 10) 9) 0 → (a ≡ true) × (b ≡ true) × (d ≡ true)
    by a b d n r e = (grind (arith, nat_tests), grind (arith, nat_tests), grind (arith, nat_tests))

stands_found : (o : Option CommandRules) (m n : Meaning) (places : List ℕ) → RanFound o places m n → n.standing ≡ after_found o places m.standing
stands_found None m n places h = absurd h
stands_found (Some c) m n places h = h.standing

pub ran_all : {σ : Rules} {m n : Meaning} {ts : List StepRules} → AllRan σ m ts n → RanAll σ m ts n
ran_all (none e) = record { ran = none e; permitted = tt; standing = ap (λ (x : Meaning). x.standing) e }
ran_all {σ} {m} {n} (more {l = l} {t = t} {ts = ts} ok made rest) =
    let later = ran_all rest in
    let is = stands_found (numbered σ.commands t.command) m l t.places made in
    record {
      ran = more ok made rest;
      permitted = (permitted_found (numbered σ.commands t.command) m t.places ok, subst (λ (s : Standing). Permitted σ s ts) is later.permitted);
      standing = later.standing ∙ ap (λ (s : Standing). after_all σ s ts) is;
    }

-- the step at which the list stopped
pub stopped : {σ : Rules} {m : Meaning} (l n : Meaning) (ts : List Step) (i : ℕ) (d : Step) (number : ℕ) (places : List ℕ) (f : StepFault) → i < length ts
    → number ≡ (step_of (get_or ts i d)).command → places ≡ (step_of (get_or ts i d)).places → n ≡ l → AllRan σ m (map step_of (take i ts)) l
    → number_of f ≡ judged_step σ l number places → StoppedAt σ m (map step_of ts) (record { position = i; fault = f }) n
stopped {σ} {m} l n ts i d number places f lt a b same so_far told = record {
  step = step_of (get_or ts i d);
  there = map_nth step_of ts i d lt;
  before = subst (λ (xs : List StepRules). RanAll σ m xs n) (sym (take-map step_of i ts)) (subst (λ (x : Meaning). RanAll σ m (map step_of (take i ts)) x) (sym same) (ran_all so_far));
  refusal = told ∙ ap₂ (judged_step σ l) a b ∙ ap (λ (x : Meaning). judged_step σ x (step_of (get_or ts i d)).command (step_of (get_or ts i d)).places) (sym same);
}
