use Rattle.std.proofs.Common.{arith}
use Rattle.std.proofs.lemmas.Bool.Decides.{nat_tests}
use Rattle.std.proofs.lemmas.List.{length-take}
use Rattle.records.proofs.add.Goals as goal

pub returns-then-used-records-clause-told : goal.returns-then-used-records-clause-told
returns-then-used-records-clause-told g c = grind (arith, nat_tests, length-take c.args.used.now c.args.records.now)

pub returns-clause-told : goal.returns-clause-told
returns-clause-told g c = grind (arith, nat_tests, length-take c.args.used.now c.args.records.now)
