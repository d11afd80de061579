-- The marked cases hold.
use Rattle.std.proofs.Common.{◌≡◌, ℕ, Bool, true, false, cond, leb, List, [], ◌∷◌, refl, ap, ◌∙◌, arith, Ok, Err, None, Some}
use Rattle.std.proofs.lemmas.Bool.{both_ways, cond-true, le-leb}
use Rattle.matrix.specs.Count.{grant}
use Rattle.matrix.specs.Standing.{Standing, Meaning}
use Rattle.matrix.specs.declared.grants.Grant.{Grant}
use Rattle.step.specs.Judged.{judged_step}
use Rattle.step.specs.Permitted.{Reaches, Addable, MoreThan}
use Rattle.closing.specs.Closes.{Closing, Closes}
use Rattle.closing.proofs.Verdicts.{closed-reached, short-many, done_few}
use Rattle.lot.specs.Questions.{valid}
use Rattle.lot.specs.Histories.{Answer, refusal_of, Answered}
use Rattle.lot.specs.Marked.{four_rules, four_places, Tells, MarkedCases}
use Rattle.lot.proofs.Shown.{shown-reached, judged_valid, answer-number, safe_law, held_law}
use Rattle.lot.proofs.FourPlaces.{four_closing, four_closes}
use Rattle.lot.specs.declared.calls.CallFault.TheVariants as fault
use Rattle.lot.specs.declared.calls.Verdict.TheVariants.{Held, Leaks, Safe}
use Rattle.lot.specs.declared.faults.AskFault.TheVariants.{WrongCell, MoreThanGrants, TooManyRights}

-- no closing of the four places is short
never-short : (c : Closing) → Closes four_rules four_places c → c.short ≡ false
never-short c closes = by c.short (short-many four_rules four_places c closes)
  where
    by : (b : Bool) → (b ≡ true → MoreThan 512 (Addable four_rules four_places)) → b ≡ false
    by true many = absurd (done_few four_rules four_places four_closing refl four_closes refl (many refl))
    by false many = refl

-- so a valid question is not refused
not_refused : (g : Grant) → valid four_rules four_places g ≡ true → Tells g (λ a. refusal_of a ≡ 0)
not_refused g v c a closes h =
    answer-number four_rules four_places c g a h ∙ judged_valid four_rules four_places c.short g refl v ∙ ap (λ (b : Bool). cond b 15 0) (never-short c closes)

-- an answer that is neither "held" nor "safe"
third : (a : Answer) (c : Closing) (g : Grant) → Answered four_rules four_places c g a → refusal_of a ≡ 0 → (a ≡ Ok (Some Held) → ⊥) → (a ≡ Ok (Some Safe) → ⊥) → (m : ℕ) × (a ≡ Ok (Some (Leaks m)))
third (Ok None) c g h z x y = absurd h
third (Ok (Some Held)) c g h z x y = absurd (x refl)
third (Ok (Some (Leaks m))) c g h z x y = (m, refl)
third (Ok (Some Safe)) c g h z x y = absurd (y refl)
third (Err (fault.Step f)) c g h z x y = absurd h
third (Err (fault.Ask WrongCell)) c g h z x y = absurd (omega arith)
third (Err (fault.Ask MoreThanGrants)) c g h z x y = absurd (omega arith)
third (Err (fault.Ask TooManyRights)) c g h z x y = absurd (omega arith)

unreached : Reaches four_rules four_places (grant 3 2 4) → ⊥
unreached r = both_ways false refl (closed-reached four_rules four_places four_closing (grant 3 2 4) refl four_closes refl r)

leaking : Tells (grant 3 3 4) (λ a. (m : ℕ) × (a ≡ Ok (Some (Leaks m))))
leaking c a closes h =
    let g = grant 3 3 4 in
    let z = not_refused g refl c a closes h in
    third a c g h z (λ is. both_ways false refl ((held_law four_rules four_places c g a refl closes h z).0 is))
    (λ is. (safe_law four_rules four_places c g a refl closes h z).0 is (shown-reached four_rules four_places four_closing g four_closes refl))

-- a step is judged by what the register shows and its room
judged_alike : (m : Meaning) (k : ℕ) (places : List ℕ) → m.standing ≡ four_places → judged_step four_rules m k places ≡ judged_step four_rules (record { standing = four_places; room = m.room }) k places
judged_alike m k places is = ap (λ (s : Standing). judged_step four_rules (record { standing = s; room = m.room }) k places) is

pub marked_cases : MarkedCases
marked_cases = record {
  some = (four_closing, four_closes);
  leaks = leaking;
  safe = λ c a closes h. (safe_law four_rules four_places c (grant 3 2 4) a refl closes h (not_refused (grant 3 2 4) refl c a closes h)).1 unreached;
  held = λ c a closes h. (held_law four_rules four_places c (grant 1 1 4) a refl closes h (not_refused (grant 1 1 4) refl c a closes h)).1 refl;
  no_right = λ c a closes h. answer-number four_rules four_places c (grant 33 1 4) a h;
  no_subject = λ c a closes h. answer-number four_rules four_places c (grant 1 4 1) a h;
  false_condition = λ m is. judged_alike m 2 (2 ∷ 3 ∷ 4 ∷ []) is;
  Accepted = λ m is room. judged_alike m 1 (1 ∷ 2 ∷ 4 ∷ []) is ∙ cond-true (leb 1 m.room) 0 12 (le-leb 1 m.room room);
  wrong_place = λ m is. judged_alike m 1 (1 ∷ 1 ∷ 4 ∷ []) is;
  few_places = λ m is. judged_alike m 1 (1 ∷ 2 ∷ []) is;
  no_command = λ m is. judged_alike m 3 (1 ∷ 2 ∷ 4 ∷ []) is;
}
