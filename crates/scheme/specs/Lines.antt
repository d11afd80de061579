-- The lines of a command, tests and operations: which parameters a line names, creates and destroys.
use Rattle.std.specs.Prelude.{ℕ, Bool, false, ◌||◌, List, is_some, Some, None, Option, ◌==◌}
use Rattle.std.specs.List.{list_any}
use Rattle.scheme.specs.declared.lines.Cell.{Cell}
use Rattle.scheme.specs.declared.lines.Operation.{Operation}
use Rattle.scheme.specs.declared.lines.Operation.TheVariants.{Enter, Delete, Create, Destroy}

-- as row or as column
abbrev pub cell_names : Cell → ℕ → Bool
cell_names c p = c.row == p || c.column == p

abbrev pub names : Operation → ℕ → Bool
names (Enter c) p = cell_names c p
names (Delete c) p = cell_names c p
names (Create q) p = q == p
names (Destroy q) p = q == p

abbrev pub creates : Operation → ℕ → Bool
creates (Enter c) p = false
creates (Delete c) p = false
creates (Create q) p = q == p
creates (Destroy q) p = false

abbrev pub destroys : Operation → ℕ → Bool
destroys (Enter c) p = false
destroys (Delete c) p = false
destroys (Create q) p = false
destroys (Destroy q) p = q == p

-- the cell that an enter enters, none for another operation
abbrev pub entered_cell : Operation → Option Cell
entered_cell (Enter c) = Some c
entered_cell (Delete c) = None
entered_cell (Create p) = None
entered_cell (Destroy p) = None

abbrev pub enters : Operation → Bool
enters o = is_some (entered_cell o)

-- some test names a parameter; some operation names, creates or destroys it
abbrev pub test_named : List Cell → ℕ → Bool
test_named tests p = list_any (λ t. cell_names t p) tests

abbrev pub named : List Operation → ℕ → Bool
named operations p = list_any (λ o. names o p) operations

abbrev pub created : List Operation → ℕ → Bool
created operations p = list_any (λ o. creates o p) operations

abbrev pub destroyed : List Operation → ℕ → Bool
destroyed operations p = list_any (λ o. destroys o p) operations
