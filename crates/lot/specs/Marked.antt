-- The marked cases: one lot of four places, and what is defined for some questions to it and some steps on it.
use Rattle.std.specs.Prelude.{◌≡◌, ℕ, ◌≤◌, List, [], ◌∷◌, Ok, Some}
use Rattle.matrix.specs.Count.{grant}
use Rattle.matrix.specs.Listed.{listed}
use Rattle.matrix.specs.Standing.{Standing, Meaning}
use Rattle.matrix.specs.declared.grants.Grant.{Grant}
use Rattle.scheme.specs.Each.{numbered}
use Rattle.scheme.specs.Rules.{Rules, CommandRules}
use Rattle.scheme.specs.declared.lines.Cell.{Cell}
use Rattle.scheme.specs.declared.lines.Operation.TheVariants.{Enter}
use Rattle.scheme.specs.declared.lines.TypeKind.TheVariants.{Subject, Object}
use Rattle.step.specs.Judged.{judged_step}
use Rattle.closing.specs.Closes.{Closing}
use Rattle.lot.specs.Questions.{Ends}
use Rattle.lot.specs.Histories.{Answer, refusal_of, Answered}
use Rattle.lot.specs.declared.calls.Verdict.TheVariants.{Held, Leaks, Safe}

abbrev pub cell : ℕ → ℕ → ℕ → Cell
cell k r c = record { right = k; row = r; column = c }

-- who has right 1 in an object grants right 2 in it; of two that are tied by right 4, the one with right 2 in an object grants right 3 in it
abbrev pub first_command : CommandRules
first_command = record { formals = 1 ∷ 2 ∷ 3 ∷ []; tests = cell 1 1 3 ∷ []; operations = Enter (cell 2 2 3) ∷ [] }

abbrev pub second_command : CommandRules
second_command = record { formals = 2 ∷ 2 ∷ 3 ∷ []; tests = cell 2 1 3 ∷ cell 4 1 2 ∷ []; operations = Enter (cell 3 2 3) ∷ [] }

abbrev pub four_rules : Rules
four_rules = record { types = Subject ∷ Subject ∷ Object ∷ []; commands = first_command ∷ second_command ∷ [] }

-- the places 1 to 4 have the types 1, 2, 2 and 3; right 1 of 1 in 4 and right 4 of 2 in 3 are held
abbrev pub four_places : Standing
four_places = record { places = 4; type_at = numbered (1 ∷ 2 ∷ 2 ∷ 3 ∷ []); held = listed (grant 1 1 4 ∷ grant 4 2 3 ∷ []) }

-- what holds of every answer to a question, whatever the closing
abbrev pub Tells : Grant → (Answer → Type 0) → Type 0
Tells g P = (c : Closing) (a : Answer) → Ends four_rules four_places c → Answered four_rules four_places c g a → P a

-- the number of a step on every register that shows the four places
abbrev pub Judges : ℕ → List ℕ → ℕ → Type 0
Judges command places number = (m : Meaning) → m.standing ≡ four_places → judged_step four_rules m command places ≡ number

pub record MarkedCases : Type 0 where
  -- the lot can be closed
  pub some : (c : Closing) × Ends four_rules four_places c
  pub leaks : Tells (grant 3 3 4) (λ a. (m : ℕ) × (a ≡ Ok (Some (Leaks m))))
  pub safe : Tells (grant 3 2 4) (λ a. a ≡ Ok (Some Safe))
  pub held : Tells (grant 1 1 4) (λ a. a ≡ Ok (Some Held))
  pub no_right : Tells (grant 33 1 4) (λ a. refusal_of a ≡ 13)
  pub no_subject : Tells (grant 1 4 1) (λ a. refusal_of a ≡ 13)
  pub false_condition : Judges 2 (2 ∷ 3 ∷ 4 ∷ []) 11
  pub Accepted : (m : Meaning) → m.standing ≡ four_places → 1 ≤ m.room → judged_step four_rules m 1 (1 ∷ 2 ∷ 4 ∷ []) ≡ 0
  pub wrong_place : Judges 1 (1 ∷ 1 ∷ 4 ∷ []) 10
  pub few_places : Judges 1 (1 ∷ 2 ∷ []) 9
  pub no_command : Judges 3 (1 ∷ 2 ∷ 4 ∷ []) 9
