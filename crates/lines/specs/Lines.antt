-- What a line says, and what kind of line it is.
use Rattle.std.specs.Prelude.{ℕ, List}
use Rattle.records.specs.Arrays.{elements}
use Rattle.lines.specs.declared.kinds.Kind.{Kind}
use Rattle.lines.specs.declared.kinds.Kind.TheVariants as kind
use Rattle.scheme.specs.declared.lines.TypeKind.{TypeKind}
use Rattle.lines.specs.declared.values.Numbers.{Numbers}
use Rattle.lines.specs.declared.values.Line.{Line}
use Rattle.lines.specs.declared.values.Line.TheVariants as line

-- a line: the scheme's, then a register's, then the trace's
pub data AbstractLine : Type 0 where
  declares : TypeKind → AbstractLine
  opens : (types : List ℕ) → AbstractLine
  tests : (right row column : ℕ) → AbstractLine
  enters : (right row column : ℕ) → AbstractLine
  deletes : (right row column : ℕ) → AbstractLine
  creates : (parameter : ℕ) → AbstractLine
  destroys : (parameter : ℕ) → AbstractLine
  grid : (places : ℕ) → AbstractLine
  grants : (places records : ℕ) → AbstractLine
  fills : (place type-number : ℕ) → AbstractLine
  holds : (right row column : ℕ) → AbstractLine
  steps : (command : ℕ) (places : List ℕ) → AbstractLine
  closes : AbstractLine
  asks : (right row column : ℕ) → AbstractLine
  reopens : AbstractLine

-- the numbers in use
abbrev pub numbers_of : Numbers → List ℕ
numbers_of n = elements n.numbers

-- what a line that was read says
abbrev pub said : Line → AbstractLine
said (line.Declare k) = declares k
said (line.Command types) = opens (numbers_of types)
said (line.Test a) = tests a.right a.row a.column
said (line.Enter a) = enters a.right a.row a.column
said (line.Delete a) = deletes a.right a.row a.column
said (line.Create parameter) = creates parameter
said (line.Destroy parameter) = destroys parameter
said (line.Grid places) = grid places
said (line.Grants places records) = grants places records
said (line.Place place type-number) = fills place type-number
said (line.Hold a) = holds a.right a.row a.column
said (line.Step command places) = steps command (numbers_of places)
said line.Close = closes
said (line.Ask a) = asks a.right a.row a.column
said line.Reopen = reopens

-- its kind
abbrev pub kind_of : AbstractLine → Kind
kind_of (declares k) = kind.Declare
kind_of (opens types) = kind.Command
kind_of (tests right row column) = kind.Test
kind_of (enters right row column) = kind.Enter
kind_of (deletes right row column) = kind.Delete
kind_of (creates parameter) = kind.Create
kind_of (destroys parameter) = kind.Destroy
kind_of (grid places) = kind.Grid
kind_of (grants places records) = kind.Grants
kind_of (fills place type-number) = kind.Place
kind_of (holds right row column) = kind.Hold
kind_of (steps command places) = kind.Step
kind_of closes = kind.Close
kind_of (asks right row column) = kind.Ask
kind_of reopens = kind.Reopen
