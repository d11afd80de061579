use Rattle.std.proofs.Common.{take}
use Rattle.matrix.specs.Enters.{AllEntered}
use Rattle.matrix.proofs.enters.enter_all.Given as goal

-- the grants so far are entered
abbrev pub invariant-loop-position : goal.invariant-loop-position
invariant-loop-position g l = AllEntered (g.M.Matrix.means l.initial.matrix) (take l.position l.grants) (g.M.Matrix.means l.matrix)
