-- The numbers of the refusals, and when each call of the writer is refused with which: the smaller number goes first.
use Rattle.std.specs.Prelude.{ℕ, Bool, true, cond, not, ◌&&◌, ◌||◌, List, length, Result, nat_le}
use Rattle.std.specs.List.{list_all}
use Rattle.refusals.specs.Refusals.{refusal_by}
use Rattle.scheme.specs.Each.{from_to}
use Rattle.scheme.specs.Rules.{Rules, CommandRules}
use Rattle.scheme.specs.Lawful.{is_right, is_declared, lawful_cell, in_range, creates_fresh, destroys_older, names_standing, has_operations}
use Rattle.scheme.specs.Written.{last_of, no_commands, last_operates}
use Rattle.scheme.specs.declared.faults.SchemeFault.{SchemeFault}
use Rattle.scheme.specs.declared.faults.SchemeFault.TheVariants.{WrongCount, OutOfRange, OutOfOrder, Unfinished}
use Rattle.scheme.specs.declared.lines.Cell.{Cell}
use Rattle.scheme.specs.declared.lines.Operation.{Operation}
use Rattle.scheme.specs.declared.lines.Operation.TheVariants.{Enter, Delete, Create, Destroy}
use Rattle.scheme.specs.declared.lines.TypeKind.{TypeKind}

abbrev pub number_of : SchemeFault → ℕ
number_of WrongCount = 1
number_of OutOfRange = 2
number_of OutOfOrder = 3
number_of Unfinished = 4

-- the number of a call's refusal, 0 where it was accepted
abbrev pub refusal : {X : Type 0} → Result X SchemeFault → ℕ
refusal r = refusal_by number_of r

-- a 17th type
abbrev pub judged_type : Rules → ℕ
judged_type s = cond (nat_le 16 (length s.types)) 1 0

-- a 33rd command, or not 1 to 4 parameters; an undeclared formal type; a command before it without operations
abbrev pub judged_command : Rules → List ℕ → ℕ
judged_command s formals =
    cond (nat_le 32 (length s.commands) || not (from_to 1 4 (length formals))) 1
    (cond (not (list_all (is_declared s.types) formals)) 2 (cond (not (last_operates s)) 4 0))

-- a 7th test; a number out of range or a row of a pure object type; an operation before it
abbrev pub judged_test_in : List TypeKind → CommandRules → Cell → ℕ
judged_test_in types c t =
    cond (nat_le 6 (length c.tests)) 1 (cond (not (lawful_cell types c.formals t)) 2 (cond (has_operations c) 3 0))

-- an operation that comes next keeps the rules of creating and destroying
abbrev pub keeps_order : List Cell → List Operation → Operation → Bool
keeps_order tests before o = creates_fresh tests before o && (destroys_older before o && names_standing before o)

-- a 7th operation; a number out of range or a row of a pure object type; a create or a destroy against the rules
abbrev pub judged_operation_in : List TypeKind → CommandRules → Operation → ℕ
judged_operation_in types c o =
    cond (nat_le 6 (length c.operations)) 1 (cond (not (in_range types c.formals o)) 2 (cond (not (keeps_order c.tests c.operations o)) 3 0))

-- before any command a right is judged, and no parameter
abbrev pub judged_early : Bool → ℕ
judged_early right = cond (not right) 2 3

abbrev pub judged_test : Rules → Cell → ℕ
judged_test s t = cond (no_commands s) (judged_early (is_right t.right)) (judged_test_in s.types (last_of s.commands) t)

abbrev pub right_lawful : Operation → Bool
right_lawful (Enter c) = is_right c.right
right_lawful (Delete c) = is_right c.right
right_lawful (Create p) = true
right_lawful (Destroy p) = true

abbrev pub judged_operation : Rules → Operation → ℕ
judged_operation s o = cond (no_commands s) (judged_early (right_lawful o)) (judged_operation_in s.types (last_of s.commands) o)

-- no command, or the command opened last has no operations
abbrev pub judged_finish : Rules → ℕ
judged_finish s = cond (no_commands s || not (last_operates s)) 4 0
