-- The number of each refusal of a line.
use Rattle.std.specs.Prelude.{ℕ}
use Rattle.lines.specs.declared.faults.LineFault.{LineFault}
use Rattle.lines.specs.declared.faults.LineFault.TheVariants.{Malformed}

abbrev pub number_of : LineFault → ℕ
number_of Malformed = 17
