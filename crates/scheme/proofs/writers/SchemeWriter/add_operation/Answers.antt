use Rattle.scheme.specs.Rules.{rules_of}
use Rattle.scheme.proofs.Sound.{sound_operation}
use Rattle.scheme.proofs.writers.SchemeWriter.add_operation.Goals as goal

pub invariant_of-self : goal.invariant_of-self
invariant_of-self c = record { kept = sound_operation (rules_of c.args.self.now.table) c.args.self.now.kept c.args.operation _ c.push_operation.ensures c.in_ok-judge_operation.ensures }
