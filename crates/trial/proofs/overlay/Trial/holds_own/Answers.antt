use Rattle.std.proofs.Common.{sym, ◌∙◌}
use Rattle.std.proofs.lemmas.Bool.{and_left}
use Rattle.matrix.proofs.Shown.{refused-stands}
use Rattle.trial.proofs.overlay.Trial.holds_own.Goals as goal

pub returns-else-is_ok : goal.returns-else-is_ok
returns-else-is_ok g c =
    let s = c.args.self.now in
    let off = refused-stands (g.M.Matrix.means s.below).standing (g.M.Matrix.lawful s.below).types c.args.grant c.judge.result c.judge.ensures
    (sym c.if-is_ok.ensures.value) in
    c.if-is_ok.false ∙ sym (and_left _ _ off)
