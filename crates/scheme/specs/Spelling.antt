-- A scheme spelled out to the writer line by line, and what the writer makes of lines.
use Rattle.std.specs.Prelude.{ℕ, cond, List, [], ◌∷◌, ◌++◌, map, Some, None, Ok, Err, Option, Result, ◌==◌}
use Rattle.scheme.specs.Rules.{Rules, CommandRules}
use Rattle.scheme.specs.Written.{opened_with, with_type, with_command, with_test, with_operation, on_last}
use Rattle.scheme.specs.Refusals.{judged_type, judged_command, judged_test, judged_operation}
use Rattle.scheme.specs.declared.lines.Cell.{Cell}
use Rattle.scheme.specs.declared.lines.Operation.{Operation}
use Rattle.scheme.specs.declared.lines.TypeKind.{TypeKind}

-- a call of the writer: it declares a type, opens a command, adds a test or adds an operation
pub data Line : Type 0 where
  declares : TypeKind → Line
  opens : List ℕ → Line
  tests_for : Cell → Line
  operates : Operation → Line

abbrev pub judged_line : Rules → Line → ℕ
judged_line s (declares k) = judged_type s
judged_line s (opens formals) = judged_command s formals
judged_line s (tests_for t) = judged_test s t
judged_line s (operates o) = judged_operation s o

abbrev pub with_line : Line → Rules → Rules
with_line (declares k) s = with_type k s
with_line (opens formals) s = with_command (opened_with formals) s
with_line (tests_for t) s = on_last (with_test t) s
with_line (operates o) s = on_last (with_operation o) s

-- what is written after these lines, if each of them is accepted in its turn
abbrev pub written_by : Rules → List Line → Option Rules
written_by s [] = Some s
written_by s (l ∷ ls) = cond (judged_line s l == 0) (written_by (with_line l s) ls) None

-- the rules after lines that were all accepted, none where one was refused
abbrev pub written_if : {X E : Type 0} → Result X E → Rules → Option Rules
written_if (Ok x) s = Some s
written_if (Err f) s = None

-- the lines of a scheme in their natural order: all types, then each command with its tests and its operations
abbrev pub command_lines : CommandRules → List Line
command_lines c = opens c.formals ∷ (map tests_for c.tests ++ map operates c.operations)

abbrev pub commands_lines : List CommandRules → List Line
commands_lines [] = []
commands_lines (c ∷ cs) = command_lines c ++ commands_lines cs

abbrev pub spelled : Rules → List Line
spelled s = map declares s.types ++ commands_lines s.commands
