use Rattle.std.proofs.Common.{sym}
use Rattle.trial.specs.Means.{own_rights}
use Rattle.trial.proofs.Overlays.{add-enters}
use Rattle.trial.proofs.overlay.calls.TrialMatrix.enter.Goals as goal

pub returns-clause-after : goal.returns-clause-after
returns-clause-after g c =
    let s = c.args.self.now in
    add-enters (g.M.Matrix.means s.below) (own_rights s) c.args.grant c.in_ok-judge.ensures (sym c.if-is_held.ensures) _ _
    c.in_ok-add.ensures.told c.in_ok-add.ensures.after
