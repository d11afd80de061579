-- The rules of a scheme, as lists: its types, and its commands with their formal types, tests and operations.
use Rattle.std.specs.Prelude.{ℕ, Bool, List, map}
use Rattle.std.specs.List.{list_all}
use Rattle.records.specs.Arrays.{elements}
use Rattle.scheme.specs.Lines.{enters}
use Rattle.scheme.specs.declared.lines.Cell.{Cell}
use Rattle.scheme.specs.declared.lines.Operation.{Operation}
use Rattle.scheme.specs.declared.lines.TypeKind.{TypeKind}
use Rattle.scheme.specs.declared.commands.Command.{Command}
use Rattle.scheme.specs.declared.tables.Table.{Table}

pub record CommandRules : Type 0 where
  pub formals : List ℕ
  pub tests : List Cell
  pub operations : List Operation

-- types and commands are numbered from 1, in their order
pub record Rules : Type 0 where
  pub types : List TypeKind
  pub commands : List CommandRules

-- what a command's struct stands for
abbrev pub command_of : Command → CommandRules
command_of c = record { formals = elements c.formals; tests = elements c.tests; operations = elements c.operations }

abbrev pub rules_of : Table → Rules
rules_of t = record { types = elements t.types; commands = map command_of (elements t.commands) }

-- every operation is an enter
abbrev pub only_enters : CommandRules → Bool
only_enters c = list_all enters c.operations

abbrev pub only_grants : Rules → Bool
only_grants s = list_all only_enters s.commands
