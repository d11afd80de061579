-- The closing of the lot of four places: a plan of three steps, after which no step adds anything.
use Rattle.std.proofs.Common.{◌≡◌, ℕ, zero, suc, ◌-◌, ◌<◌, ◌≤◌, Bool, true, false, cond, not, ◌&&◌, ◌||◌, leb, List, [], ◌∷◌, length, Some, None, Option, refl, ap, ◌∙◌, arith, lit<, lit≤}
use Rattle.std.specs.List.{slice_get}
use Rattle.std.proofs.lemmas.Bool.{false≢true, leb-true}
use Rattle.std.proofs.lemmas.Bool.Decides.{nat_tests}
use Rattle.matrix.specs.Count.{grant}
use Rattle.matrix.specs.Grants.{same_grant}
use Rattle.matrix.specs.Standing.{Standing, stands}
use Rattle.matrix.specs.declared.grants.Grant.{Grant}
use Rattle.matrix.proofs.Alikes.{same_is}
use Rattle.scheme.specs.Each.{numbered}
use Rattle.scheme.specs.Rules.{CommandRules}
use Rattle.step.specs.Steps.{all_to, has_type, apart_at, places_fit, condition}
use Rattle.step.specs.Bodies.{enters_of, fresh}
use Rattle.step.specs.Permitted.{Permits}
use Rattle.step.proofs.Upto.{all_to_at}
use Rattle.trial.specs.Means.{shown_with}
use Rattle.closing.specs.Plans.{new_found, GrantsFound, Plans, planned}
use Rattle.closing.specs.Closes.{Closing, Done, Closes}
use Rattle.closing.specs.declared.plans.PlanStep.{PlanStep}
use Rattle.closing.proofs.Verdicts.{closes_from}
use Rattle.lot.specs.Marked.{first_command, second_command, four_rules, four_places}

-- command 1 at 1 2 4 and at 1 3 4, then command 2 at 2 3 4
abbrev plan-step : ℕ → ℕ → ℕ → ℕ → PlanStep
plan-step k a b c = record {
  step = record { command = k; places = record { records = a ∷ b ∷ c ∷ []; used = 3 } };
  marks = true ∷ false ∷ false ∷ false ∷ false ∷ false ∷ [];
}

abbrev pub four_plan : List PlanStep
four_plan = plan-step 1 1 2 4 ∷ plan-step 1 1 3 4 ∷ plan-step 2 2 3 4 ∷ []

abbrev four_own : List Grant
four_own = grant 2 2 4 ∷ grant 2 3 4 ∷ grant 3 3 4 ∷ []

abbrev pub four_closing : Closing
four_closing = record { plan = four_plan; own = four_own; short = false }

abbrev pub four_full : Standing
four_full = planned four_rules four_places four_plan

four_plans : Plans four_rules four_places four_plan
four_plans = (
  record { grants = (refl, record { count = refl; fits = refl; condition = refl }); new = lit< tt; marks = refl },
  (
    record { grants = (refl, record { count = refl; fits = refl; condition = refl }); new = lit< tt; marks = refl },
    (record { grants = (refl, record { count = refl; fits = refl; condition = refl }); new = lit< tt; marks = refl }, tt),
  ),
)

-- the trial shows the three rights, at places that are filled
four_shows : shown_with four_places four_own ≡ four_full
four_shows = λ j. record { places = 4; type_at = four_places.type_at; held = λ g. at g j }
  where
    joined : (h s a b c : Bool) → (a ≡ true → s ≡ true) → (b ≡ true → s ≡ true) → (c ≡ true → s ≡ true)
        → (h || (s && (a || (b || (c || false))))) ≡ (((h || a) || b) || c)
    joined true s a b c f k l = refl
    joined false true true b c f k l = refl
    joined false true false true c f k l = refl
    joined false true false false true f k l = refl
    joined false true false false false f k l = refl
    joined false false true b c f k l = absurd (false≢true (f refl))
    joined false false false true c f k l = absurd (false≢true (k refl))
    joined false false false false true f k l = absurd (false≢true (l refl))
    joined false false false false false f k l = refl

    stand : (g h : Grant) → stands four_places.type_at h ≡ true → same_grant g h ≡ true → stands four_places.type_at g ≡ true
    stand g h ok e = ap (stands four_places.type_at) (same_is g h e) ∙ ok

    at : (g : Grant) → (shown_with four_places four_own).held g ≡ four_full.held g
    at g =
        joined (four_places.held g) (stands four_places.type_at g) (same_grant g (grant 2 2 4)) (same_grant g (grant 2 3 4)) (same_grant g (grant 3 3 4))
        (stand g (grant 2 2 4) refl) (stand g (grant 2 3 4) refl) (stand g (grant 3 3 4) refl)

-- a place with a type is one of 1 to 4
nth_below : (xs : List ℕ) (i u : ℕ) → has_type (slice_get xs i) u ≡ true → i < length xs
nth_below [] i u h = absurd (false≢true h)
nth_below (x ∷ xs) zero u h = omega arith
nth_below (x ∷ xs) (suc i) u h = let k = nth_below xs i u h in omega arith

numbered_within : (xs : List ℕ) (p u : ℕ) → has_type (numbered xs p) u ≡ true → (1 ≤ p) × (p ≤ length xs)
numbered_within xs p u h = by (leb 1 p) (leb-true 1 p) h
  where
    by : (b : Bool) → (b ≡ true → 1 ≤ p) → has_type (cond b (slice_get xs (p - 1)) None) u ≡ true → (1 ≤ p) × (p ≤ length xs)
    by true low h = let k = nth_below xs (p - 1) u h in (low refl, omega arith)
    by false low h = absurd (false≢true h)

-- at three places of 1 to 4 a step is not permitted, or adds nothing: all are tried
abbrev no_grant : List Grant → Bool
no_grant [] = true
no_grant (g ∷ gs) = false

abbrev idle : CommandRules → ℕ → ℕ → ℕ → Bool
idle c a b d =
    not (places_fit c four_full (a ∷ b ∷ d ∷ []) && condition c four_full (a ∷ b ∷ d ∷ [])) || no_grant (fresh four_full.held (enters_of (a ∷ b ∷ d ∷ []) c.operations))

abbrev all_idle : CommandRules → Bool
all_idle c = all_to 4 (λ a. all_to 4 (λ b. all_to 4 (λ d. idle c a b d)))

idle_at : (c : CommandRules) (a b d u v w : ℕ) → all_idle c ≡ true → has_type (four_places.type_at a) u ≡ true → has_type (four_places.type_at b) v ≡ true
    → has_type (four_places.type_at d) w ≡ true → Permits c four_full (a ∷ b ∷ d ∷ []) → fresh four_full.held (enters_of (a ∷ b ∷ d ∷ []) c.operations) ≡ []
idle_at c a b d u v w all at_a at_b at-d ok =
    let xs = 1 ∷ 2 ∷ 2 ∷ 3 ∷ [] in
    let in-a = numbered_within xs a u at_a in
    let in_b = numbered_within xs b v at_b in
    let in-d = numbered_within xs d w at-d in
    by (places_fit c four_full (a ∷ b ∷ d ∷ [])) (condition c four_full (a ∷ b ∷ d ∷ [])) (fresh four_full.held (enters_of (a ∷ b ∷ d ∷ []) c.operations))
    (all_to_at 4 d (λ z. idle c a b z) (all_to_at 4 b (λ y. all_to 4 (λ z. idle c a y z)) (all_to_at 4 a (λ x. all_to 4 (λ y. all_to 4 (λ z. idle c x y z))) all in-a.0 in-a.1) in_b.0 in_b.1) in-d.0 in-d.1)
    ok.fits ok.condition
  where
    by : (x y : Bool) (gs : List Grant) → (not (x && y) || no_grant gs) ≡ true → x ≡ true → y ≡ true → gs ≡ []
    by true true [] e f k = refl
    by true true (g ∷ gs) e f k = absurd (false≢true e)
    by true false gs e f k = absurd (false≢true k)
    by false y gs e f k = absurd (false≢true f)

-- places that fit have the formal types
three_fit : (a b c d e f : Bool) → ((a && d) && ((b && e) && ((c && f) && true))) ≡ true → (a ≡ true) × (b ≡ true) × (c ≡ true)
three_fit a b c d e f h = (grind (arith, nat_tests), grind (arith, nat_tests), grind (arith, nat_tests))

first_idle : (places : List ℕ) → Permits first_command four_full places → fresh four_full.held (enters_of places first_command.operations) ≡ []
first_idle [] ok = absurd (let z = ok.count in omega arith)
first_idle (a ∷ []) ok = absurd (let z = ok.count in omega arith)
first_idle (a ∷ b ∷ []) ok = absurd (let z = ok.count in omega arith)
first_idle (a ∷ b ∷ d ∷ []) ok =
    let xs = a ∷ b ∷ d ∷ [] in
    let q = three_fit (has_type (four_places.type_at a) 1) (has_type (four_places.type_at b) 2) (has_type (four_places.type_at d) 3) (apart_at xs 1) (apart_at xs 2) (apart_at xs 3) ok.fits in
    idle_at first_command a b d 1 2 3 refl q.0 q.1 q.2 ok
first_idle (a ∷ b ∷ d ∷ x ∷ xs) ok = absurd (let z = ok.count in omega arith)

second_idle : (places : List ℕ) → Permits second_command four_full places → fresh four_full.held (enters_of places second_command.operations) ≡ []
second_idle [] ok = absurd (let z = ok.count in omega arith)
second_idle (a ∷ []) ok = absurd (let z = ok.count in omega arith)
second_idle (a ∷ b ∷ []) ok = absurd (let z = ok.count in omega arith)
second_idle (a ∷ b ∷ d ∷ []) ok =
    let xs = a ∷ b ∷ d ∷ [] in
    let q = three_fit (has_type (four_places.type_at a) 2) (has_type (four_places.type_at b) 2) (has_type (four_places.type_at d) 3) (apart_at xs 1) (apart_at xs 2) (apart_at xs 3) ok.fits in
    idle_at second_command a b d 2 2 3 refl q.0 q.1 q.2 ok
second_idle (a ∷ b ∷ d ∷ x ∷ xs) ok = absurd (let z = ok.count in omega arith)

-- by the number of the command
two_numbered : {X : Type 0} (x y : X) (P : Option X → Type 0) → P None → P (Some x) → P (Some y) → (n : ℕ) → P (numbered (x ∷ y ∷ []) n)
two_numbered x y P none first second n = by (leb 1 n) (n - 1)
  where
    by : (b : Bool) (i : ℕ) → P (cond b (slice_get (x ∷ y ∷ []) i) None)
    by true zero = first
    by true (suc zero) = second
    by true (suc (suc i)) = none
    by false i = none

four_done : Done four_rules four_full
four_done t =
    two_numbered first_command second_command (λ o. GrantsFound o four_full t.places → new_found o four_full t.places ≡ []) (λ ok. refl) (λ ok. first_idle t.places ok.1)
    (λ ok. second_idle t.places ok.1) t.command

pub four_closes : Closes four_rules four_places four_closing
four_closes = closes_from four_rules four_places four_plan four_own false four_plans four_shows refl (lit≤ tt) four_done
