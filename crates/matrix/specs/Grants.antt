-- A right in a cell: when two are the same, and which places one names.
use Rattle.std.specs.Prelude.{ℕ, Bool, ◌&&◌, ◌||◌, ◌==◌}
use Rattle.matrix.specs.Ranges.{within}
use Rattle.matrix.specs.declared.grants.Grant.{Grant}

abbrev pub same_grant : Grant → Grant → Bool
same_grant x y = x.right == y.right && (x.row == y.row && x.column == y.column)

-- as row or as column
abbrev pub names : ℕ → Grant → Bool
names p g = g.row == p || g.column == p

-- the right is one of 1 to 32, and both places are of 1 to n
abbrev pub in_range : ℕ → Grant → Bool
in_range n g = within g.right 32 && (within g.row n && within g.column n)
