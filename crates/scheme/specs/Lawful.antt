-- What a lawful scheme is.
use Rattle.std.specs.Prelude.{◌≡◌, ℕ, Bool, true, false, not, ◌&&◌, ◌||◌, List, [], length, Some, None, Option, nat_le}
use Rattle.std.specs.List.{list_all}
use Rattle.std.specs.Option.{option_and_then}
use Rattle.scheme.specs.Each.{from_to, each_after, numbered}
use Rattle.scheme.specs.Lines.{test_named, named, created, destroyed}
use Rattle.scheme.specs.Rules.{Rules, CommandRules}
use Rattle.scheme.specs.declared.lines.Cell.{Cell}
use Rattle.scheme.specs.declared.lines.Operation.{Operation}
use Rattle.scheme.specs.declared.lines.Operation.TheVariants.{Enter, Delete, Create, Destroy}
use Rattle.scheme.specs.declared.lines.TypeKind.{TypeKind}
use Rattle.scheme.specs.declared.lines.TypeKind.TheVariants.{Subject, Object}

abbrev pub is_right : ℕ → Bool
is_right r = from_to 1 32 r

abbrev pub is_declared : List TypeKind → ℕ → Bool
is_declared types t = from_to 1 (length types) t

abbrev pub has_parameter : List ℕ → ℕ → Bool
has_parameter formals p = from_to 1 (length formals) p

abbrev pub subject_kind : TypeKind → Bool
subject_kind Subject = true
subject_kind Object = false

abbrev pub some_subject : Option TypeKind → Bool
some_subject None = false
some_subject (Some k) = subject_kind k

-- there is a parameter with this number, and its formal type is a subject type
abbrev pub is_subject : List TypeKind → List ℕ → ℕ → Bool
is_subject types formals p = some_subject (option_and_then (numbered types) (numbered formals p))

-- a right of 1 to 32, parameters of the command, and a row of a subject type
abbrev pub lawful_cell : List TypeKind → List ℕ → Cell → Bool
lawful_cell types formals c = is_right c.right && (has_parameter formals c.column && is_subject types formals c.row)

abbrev pub in_range : List TypeKind → List ℕ → Operation → Bool
in_range types formals (Enter c) = lawful_cell types formals c
in_range types formals (Delete c) = lawful_cell types formals c
in_range types formals (Create p) = has_parameter formals p
in_range types formals (Destroy p) = has_parameter formals p

-- a parameter is created only if no earlier line of its command, test or operation, names it
abbrev pub creates_fresh : List Cell → List Operation → Operation → Bool
creates_fresh tests before (Enter c) = true
creates_fresh tests before (Delete c) = true
creates_fresh tests before (Create p) = not (test_named tests p || named before p)
creates_fresh tests before (Destroy p) = true

-- no line names a parameter after its destroy
abbrev pub names_standing : List Operation → Operation → Bool
names_standing before (Enter c) = not (destroyed before c.row || destroyed before c.column)
names_standing before (Delete c) = not (destroyed before c.row || destroyed before c.column)
names_standing before (Create p) = not (destroyed before p)
names_standing before (Destroy p) = not (destroyed before p)

-- a created parameter is not destroyed in the same command: o destroys none that these operations create
abbrev pub destroys_older : List Operation → Operation → Bool
destroys_older operations (Enter c) = true
destroys_older operations (Delete c) = true
destroys_older operations (Create p) = true
destroys_older operations (Destroy p) = not (created operations p)

-- an operation is in range, and lawful after these tests and the operations before it
abbrev pub lawful_operation : List TypeKind → List ℕ → List Cell → List Operation → Operation → Bool
lawful_operation types formals tests before o = in_range types formals o && (creates_fresh tests before o && names_standing before o)

-- each line of a command is lawful where it stands, and there are not too many
abbrev pub lawful_lines : List TypeKind → CommandRules → Bool
lawful_lines types c =
    from_to 1 4 (length c.formals) && (list_all (is_declared types) c.formals
    && (nat_le (length c.tests) 6 && (list_all (lawful_cell types c.formals) c.tests
    && (nat_le (length c.operations) 6 && (each_after (lawful_operation types c.formals c.tests) [] c.operations
    && list_all (destroys_older c.operations) c.operations)))))

abbrev pub has_operations : CommandRules → Bool
has_operations c = nat_le 1 (length c.operations)

abbrev pub lawful_command : List TypeKind → CommandRules → Bool
lawful_command types c = lawful_lines types c && has_operations c

abbrev pub lawful : Rules → Bool
lawful s = from_to 1 16 (length s.types) && (from_to 1 32 (length s.commands) && list_all (lawful_command s.types) s.commands)

abbrev pub LawfulScheme : Rules → Type 0
LawfulScheme s = lawful s ≡ true
