-- The promise of reading a line: it answers the line ℓ exactly when the bytes spell ℓ and are at most 40.
use Rattle.std.specs.Prelude.{◌≡◌, ℕ, ◌≤◌, List, length, Some, None, Ok, Err, Option, Result}
use Rattle.lines.specs.declared.values.Line.{Line}
use Rattle.lines.specs.declared.faults.LineFault.{LineFault}
use Rattle.lines.specs.Lines.{AbstractLine, said}
use Rattle.lines.specs.Spelling.{Spells}

-- the line that is answered
abbrev pub answered : Result Line LineFault → Option AbstractLine
answered (Ok line) = Some (said line)
answered (Err fault) = None

-- every other answer is the refusal 17: the bytes spell no line, or are more than 40
pub record Reads (bytes : List ℕ) (r : Result Line LineFault) : Type 0 where
  pub only : (ℓ : AbstractLine) → answered r ≡ Some ℓ → Spells bytes ℓ × (length bytes ≤ 40)
  pub every : (ℓ : AbstractLine) → Spells bytes ℓ → length bytes ≤ 40 → answered r ≡ Some ℓ
