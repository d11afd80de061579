use Rattle.std.proofs.Common.{List, map, refl, ap, subst}
use Rattle.std.proofs.lemmas.List.{take_all}
use Rattle.scheme.specs.Rules.{rules_of}
use Rattle.step.specs.Lists.{step_of, AllRan}
use Rattle.step.specs.Lists.AllRan.{none}
use Rattle.step.specs.declared.steps.Step.{Step}
use Rattle.step.proofs.Growth.{granting_laws}
use Rattle.step.proofs.Sequences.{ran-more, ran_all, stopped}
use Rattle.step.proofs.lists.run_steps.Goals as goal

pub loop-position-init : goal.loop-position-init
loop-position-init g c = (none refl, g.R.Matrix.frame.begins c.args.register.now)

pub loop-position-preserved : goal.loop-position-preserved
loop-position-preserved g c =
    let e = c.in_default.ensures in
    let all = ran-more c.args.steps.now c.loop-position.position _ _ _ c.loop-position-test.true c.command.ensures c.places.ensures c.loop-position.invariant.0 e.told e.after in
    (all, g.R.Matrix.frame.chains c.args.register.now c.loop-position.register c.run_step.new.register c.loop-position.invariant.1 e.kept)

pub returns-in-Err : goal.returns-in-Err
returns-in-Err g c =
    let e = c.in-Err.ensures in
    let means = g.R.Matrix.means in
    record {
      runs = stopped (means c.loop-position.register) (means c.run_step.new.register) c.args.steps.now c.loop-position.position _ _ _ c.in-Err.fault
          c.loop-position-test.true c.command.ensures c.places.ensures (ap means e.same) c.loop-position.invariant.0 e.told;
      kept = g.R.Matrix.frame.chains c.args.register.now c.loop-position.register c.run_step.new.register c.loop-position.invariant.1 e.kept;
      laws = granting_laws;
    }

pub returns : goal.returns
returns g c =
    let means = g.R.Matrix.means in
    let σ = rules_of c.args.scheme.now.table in
    record {
      runs = ran_all (subst (λ (xs : List Step). AllRan σ (means c.args.register.now) (map step_of xs) (means c.loop-position.register))
          (take_all c.loop-position.position c.args.steps.now c.loop-position-test.false) c.loop-position.invariant.0);
      kept = c.loop-position.invariant.1;
      laws = granting_laws;
    }
