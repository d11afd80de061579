use Rattle.std.proofs.Common.{arith}
use Rattle.std.proofs.Math.Seq.{take-set-lt}
use Rattle.std.proofs.lemmas.List.{length-take}
use Rattle.records.proofs.arrays.ArrayList.put.Goals as goal

pub returns-clause-after : goal.returns-clause-after
returns-clause-after g c =
    let list = c.args.self.now in
    let l = length-take list.used list.records in
    take-set-lt list.used list.records c.args.position c.args.item (grind (arith, l))
