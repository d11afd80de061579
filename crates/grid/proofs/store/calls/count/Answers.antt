use Rattle.std.proofs.Common.{◌≡◌, sum_by, ◌∙◌, rules, arith}
use Rattle.std.proofs.iter.runs.Sources.{sums}
use lib.Count.{ones}
use Rattle.grid.proofs.Bits.{ones_cells}
use Rattle.grid.proofs.store.calls.count.Goals as goal

pub returns : goal.returns
returns c =
    let counted : c.sum.result ≡ sum_by ones c.args.cells.now = search (rules, sums) in
    counted ∙ ones_cells c.args.cells.now (λ k. omega (arith, c.type_inv.cells k))
