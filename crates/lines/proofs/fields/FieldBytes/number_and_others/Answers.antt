use Rattle.std.proofs.Common.{◌∷◌}
use Rattle.lines.proofs.Leads.{none_leads, others_follow}
use Rattle.lines.proofs.fields.FieldBytes.number_and_others.Goals as goal

pub returns-in_err-first : goal.returns-in_err-first
returns-in_err-first c = rw c.from_residual.ensures (λ n ns q. let e = none_leads c.args.self.now.bytes.now c.in_err-first.ensures (n ∷ ns) q in cc)

pub returns-in_err-others : goal.returns-in_err-others
returns-in_err-others c = rw c.from_residual-in_err-others.ensures (λ n ns q. c.in_err-others.ensures ns (others_follow c.args.self.now.bytes.now c.in_ok-first.first c.in_ok-first.rest.now c.in_ok-first.ensures n ns q))
