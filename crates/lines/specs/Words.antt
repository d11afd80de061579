-- The words that a refused line and a kind of line are printed in.
use Rattle.std.specs.Prelude.{ℕ, List, codes}
use Rattle.lines.specs.declared.faults.LineFault.{LineFault}
use Rattle.lines.specs.declared.faults.LineFault.TheVariants.{Malformed}
use Rattle.lines.specs.declared.kinds.Kind.{Kind}
use Rattle.lines.specs.declared.kinds.Kind.TheVariants as kind

abbrev pub fault_words : LineFault → List ℕ
fault_words Malformed = codes "it is no line"

abbrev pub kind_words : Kind → List ℕ
kind_words kind.Declare = codes "declares a type"
kind_words kind.Command = codes "opens a command"
kind_words kind.Test = codes "adds a test"
kind_words kind.Enter = codes "adds an enter"
kind_words kind.Delete = codes "adds a delete"
kind_words kind.Create = codes "adds a create"
kind_words kind.Destroy = codes "adds a destroy"
kind_words kind.Grid = codes "opens a grid"
kind_words kind.Grants = codes "opens a grant list"
kind_words kind.Place = codes "fills a place"
kind_words kind.Hold = codes "enters a first right"
kind_words kind.Step = codes "runs a step"
kind_words kind.Close = codes "closes the lot"
kind_words kind.Ask = codes "asks a question"
kind_words kind.Reopen = codes "reopens the lot"
