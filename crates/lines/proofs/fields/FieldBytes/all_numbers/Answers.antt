use Rattle.std.proofs.Common.{length, ap, arith}
use Rattle.std.proofs.lemmas.Bool.Decides.{nat_tests}
use Rattle.lines.proofs.Leads.{none_leads, go_on_reading, room_left}
use Rattle.lines.proofs.fields.FieldBytes.all_numbers.Goals as goal

pub returns-in_err-n : goal.returns-in_err-n
returns-in_err-n c =
    rw c.from_residual.ensures
    (λ ms is. let k = c.loop-rest.invariant.left ms is in let e = ap length (none_leads c.loop-rest.rest.now c.in_err-n.ensures k.0 k.1) in grind (arith, nat_tests))

pub push-requires : goal.push-requires
push-requires c = let l = room_left c.loop-rest.invariant (grind (arith, nat_tests)) in omega arith

pub loop-rest-preserved : goal.loop-rest-preserved
loop-rest-preserved c = rw c.push.ensures (go_on_reading c.loop-rest.invariant c.in_ok-n.n c.in_ok-n.more.now c.in_ok-n.ensures)
