use Rattle.std.proofs.Common.{◌-◌, ap, ◌∙◌, arith}
use Rattle.std.proofs.Common.{take}
use Rattle.records.proofs.Gaps.{closed_gap}
use Rattle.records.proofs.take_out.Goals as goal

pub returns-clause-after : goal.returns-clause-after
returns-clause-after g c =
    ap (take (c.len-n.result - 1)) c.copy_within.ensures.after ∙ closed_gap c.args.used.now c.args.records.now c.args.position c.len-n.result c.len-n.ensures.value (omega arith)
