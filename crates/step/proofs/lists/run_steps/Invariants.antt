use Rattle.std.proofs.Common.{map, take}
use Rattle.scheme.specs.Rules.{rules_of}
use Rattle.step.specs.Lists.{step_of, AllRan}
use Rattle.step.proofs.lists.run_steps.Given as goal

-- the steps so far ran, and what they leave alone is left alone
abbrev pub invariant-loop-position : goal.invariant-loop-position
invariant-loop-position g l =
    AllRan (rules_of l.scheme.table) (g.R.Matrix.means l.initial.register) (map step_of (take l.position l.steps)) (g.R.Matrix.means l.register)
    × g.R.Matrix.frame.keeps l.initial.register l.register
