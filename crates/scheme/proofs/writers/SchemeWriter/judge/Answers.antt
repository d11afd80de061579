use Rattle.scheme.specs.Rules.{rules_of}
use Rattle.scheme.proofs.Sound.{finish_exact}
use Rattle.scheme.proofs.writers.SchemeWriter.judge.Goals as goal

pub returns-clause-exact : goal.returns-clause-exact
returns-clause-exact c = finish_exact (rules_of c.args.self.now.table) c.args.self.now.kept _ c.judge_finish.ensures
