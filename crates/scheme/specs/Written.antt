-- What is written of a scheme so far: what each accepted call adds to it, and what always holds of it.
use Rattle.std.specs.Prelude.{ℕ, ◌-◌, Bool, ◌&&◌, ◌||◌, List, [], ◌∷◌, ◌++◌, length, take, ◌==◌, nat_le, slice_index_or, slice_set}
use Rattle.std.specs.List.{list_all}
use Rattle.scheme.specs.Rules.{Rules, CommandRules}
use Rattle.scheme.specs.Lawful.{lawful_lines, has_operations}
use Rattle.scheme.specs.declared.lines.Cell.{Cell}
use Rattle.scheme.specs.declared.lines.Operation.{Operation}
use Rattle.scheme.specs.declared.lines.Operation.TheVariants.{Enter}
use Rattle.scheme.specs.declared.lines.TypeKind.{TypeKind}
use Rattle.scheme.specs.declared.lines.TypeKind.TheVariants.{Subject}

-- a command as it is opened
abbrev pub opened_with : List ℕ → CommandRules
opened_with formals = record { formals = formals; tests = []; operations = [] }

abbrev pub no_rules : Rules
no_rules = record { types = []; commands = [] }

abbrev pub with_type : TypeKind → Rules → Rules
with_type k s = record { types = s.types ++ (k ∷ []); commands = s.commands }

abbrev pub with_command : CommandRules → Rules → Rules
with_command c s = record { types = s.types; commands = s.commands ++ (c ∷ []) }

abbrev pub with_test : Cell → CommandRules → CommandRules
with_test t c = record { formals = c.formals; tests = c.tests ++ (t ∷ []); operations = c.operations }

abbrev pub with_operation : Operation → CommandRules → CommandRules
with_operation o c = record { formals = c.formals; tests = c.tests; operations = c.operations ++ (o ∷ []) }

-- the command opened last
abbrev pub last_of : List CommandRules → CommandRules
last_of cs = slice_index_or cs (length cs - 1) (opened_with [])

-- a line is added to the command opened last
abbrev pub on_last : (CommandRules → CommandRules) → Rules → Rules
on_last f s = record { types = s.types; commands = slice_set s.commands (length s.commands - 1) (f (last_of s.commands)) }

abbrev pub no_commands : Rules → Bool
no_commands s = length s.commands == 0

-- the command opened last, if there is one, has an operation
abbrev pub last_operates : Rules → Bool
last_operates s = no_commands s || has_operations (last_of s.commands)

-- each line is lawful where it stands, and only the command opened last may lack operations
abbrev pub sound : Rules → Bool
sound s =
    nat_le (length s.types) 16 && (nat_le (length s.commands) 32 && (list_all (lawful_lines s.types) s.commands
    && list_all has_operations (take (length s.commands - 1) s.commands)))

-- one subject type, and one command of one parameter that enters right 1 into its own cell
abbrev pub smallest : Rules
smallest = record { types = Subject ∷ []; commands = record { formals = 1 ∷ []; tests = []; operations = Enter (record { right = 1; row = 1; column = 1 }) ∷ [] } ∷ [] }
