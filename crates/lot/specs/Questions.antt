-- Questions to a closed lot: when one is refused, and what it is answered.
use Rattle.std.specs.Prelude.{◌≡◌, ℕ, ◌≤◌, Bool, true, false, cond, ◌&&◌, List, [], length, take, is_some, Some, None, Ok, Err, Option, Result}
use Rattle.matrix.specs.Grants.{in_range}
use Rattle.matrix.specs.Standing.{Standing}
use Rattle.matrix.specs.declared.grants.Grant.{Grant}
use Rattle.scheme.specs.Each.{numbered}
use Rattle.scheme.specs.Lawful.{some_subject}
use Rattle.scheme.specs.Rules.{Rules, only_grants}
use Rattle.scheme.specs.declared.lines.TypeKind.{TypeKind}
use Rattle.trial.specs.Means.{shown_with}
use Rattle.closing.specs.Plans.{planned}
use Rattle.closing.specs.Closes.{Closing, Closes}
use Rattle.lot.specs.declared.calls.Verdict.{Verdict}
use Rattle.lot.specs.declared.calls.Verdict.TheVariants.{Held, Leaks, Safe}
use Rattle.lot.specs.declared.faults.AskFault.{AskFault}
use Rattle.lot.specs.declared.faults.AskFault.TheVariants.{WrongCell, MoreThanGrants, TooManyRights}

abbrev pub ask_number : AskFault → ℕ
ask_number WrongCell = 13
ask_number MoreThanGrants = 14
ask_number TooManyRights = 15

-- a place that is filled with a subject type of the scheme
abbrev pub subject_type : List TypeKind → Option ℕ → Bool
subject_type types None = false
subject_type types (Some t) = some_subject (numbered types t)

-- right and places are in range, both places filled, and the row a subject
abbrev pub valid : Rules → Standing → Grant → Bool
valid σ s g =
    in_range s.places g && ((is_some (s.type_at g.row) && is_some (s.type_at g.column)) && subject_type σ.types (s.type_at g.row))

-- a question that is not valid, a scheme that does more than grant, a closing that needed more than the trial's room
abbrev pub judged_question : Rules → Standing → Bool → Grant → ℕ
judged_question σ s short g = cond (valid σ s g) (cond (only_grants σ) (cond short 15 0) 14) 13

-- the register does not hold the right, the trial does, and the first m steps of the plan bring it
pub record Leak (σ : Rules) (s : Standing) (c : Closing) (g : Grant) (m : ℕ) : Type 0 where
  pub not_held : s.held g ≡ false
  pub shown : (shown_with s c.own).held g ≡ true
  pub few : m ≤ length c.plan
  pub brought : (planned σ s (take m c.plan)).held g ≡ true

-- the verdict on a right where the register shows s and the closing is c
abbrev pub Says : Rules → Standing → Closing → Grant → Verdict → Type 0
Says σ s c g Held = s.held g ≡ true
Says σ s c g (Leaks m) = Leak σ s c g m
Says σ s c g Safe = (shown_with s c.own).held g ≡ false

pub record ToldIs (σ : Rules) (s : Standing) (c : Closing) (g : Grant) (v : Verdict) : Type 0 where
  pub passed : judged_question σ s c.short g ≡ 0
  pub says : Says σ s c g v

abbrev pub Asked : Rules → Standing → Closing → Grant → Result Verdict AskFault → Type 0
Asked σ s c g (Ok v) = ToldIs σ s c g v
Asked σ s c g (Err f) = ask_number f ≡ judged_question σ s c.short g

-- a scheme that does more than grant is closed with nothing
abbrev pub no_closing : Closing
no_closing = record { plan = []; own = []; short = false }

abbrev pub EndsAs : Bool → Rules → Standing → Closing → Type 0
EndsAs true σ s c = Closes σ s c
EndsAs false σ s c = c ≡ no_closing

-- what closing a lot ends with
abbrev pub Ends : Rules → Standing → Closing → Type 0
Ends σ s c = EndsAs (only_grants σ) σ s c
