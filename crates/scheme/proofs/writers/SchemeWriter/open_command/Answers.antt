use Rattle.scheme.specs.Rules.{rules_of}
use Rattle.scheme.proofs.Sound.{sound_command}
use Rattle.scheme.proofs.writers.SchemeWriter.open_command.Goals as goal

pub invariant_of-self : goal.invariant_of-self
invariant_of-self c = record { kept = sound_command (rules_of c.args.self.now.table) c.args.self.now.kept c.args.formals.now _ c.push_command.ensures c.in_ok-judge_command.ensures }
