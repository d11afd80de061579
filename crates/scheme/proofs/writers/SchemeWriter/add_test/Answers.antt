use Rattle.scheme.specs.Rules.{rules_of}
use Rattle.scheme.proofs.Sound.{sound_test}
use Rattle.scheme.proofs.writers.SchemeWriter.add_test.Goals as goal

pub invariant_of-self : goal.invariant_of-self
invariant_of-self c = record { kept = sound_test (rules_of c.args.self.now.table) c.args.self.now.kept c.args.test _ c.push_test.ensures c.in_ok-judge_test.ensures }
