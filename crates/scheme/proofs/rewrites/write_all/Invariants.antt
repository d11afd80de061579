use Rattle.std.proofs.Common.{◌≡◌, drop}
use Rattle.std.specs.List.{flat_map}
use Rattle.scheme.specs.Rules.{rules_of}
use Rattle.scheme.specs.Spelling.{written_by}
use Rattle.scheme.proofs.rewrites.write_all.Given as goal

-- what is left to write gives the rest
abbrev pub invariant-loop-item : goal.invariant-loop-item
invariant-loop-item g l = written_by (rules_of l.initial.writer.table) (flat_map g.T.Spelled.lines l.items) ≡ written_by (rules_of l.writer.table) (flat_map g.T.Spelled.lines (drop l.item-index l.items))
