use Rattle.scheme.specs.Rules.{rules_of}
use Rattle.scheme.proofs.Sound.{sound_type}
use Rattle.scheme.proofs.writers.SchemeWriter.declare_type.Goals as goal

pub invariant_of-self : goal.invariant_of-self
invariant_of-self c = record { kept = sound_type (rules_of c.args.self.now.table) c.args.self.now.kept _ _ c.push_type.ensures c.in_ok-judge_type.ensures }
