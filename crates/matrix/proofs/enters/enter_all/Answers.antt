use Rattle.std.proofs.Common.{◌≡◌, List, get_or, take, sym, refl, ap, ◌∙◌, subst}
use Rattle.std.proofs.lemmas.List.{take_all}
use Rattle.std.proofs.lemmas.Option.{slice_get-get_or}
use Rattle.matrix.specs.Count.{grant}
use Rattle.matrix.specs.Enters.{AllEntered}
use Rattle.matrix.specs.Enters.AllEntered.{none}
use Rattle.matrix.specs.Refusals.{enter_refusal}
use Rattle.matrix.specs.Standing.{Meaning}
use Rattle.matrix.specs.declared.grants.Grant.{Grant}
use Rattle.matrix.proofs.Entering.{entered-more}
use Rattle.matrix.proofs.enters.enter_all.Goals as goal

pub loop-position-init : goal.loop-position-init
loop-position-init g c = none refl

pub loop-position-preserved : goal.loop-position-preserved
loop-position-preserved g c =
    let e = c.in_default.ensures in
    entered-more c.args.grants.now c.loop-position.position (grant 0 0 0) c.loop-position-test.true c.loop-position.invariant (sym e.told) e.after

pub returns-in-Err : goal.returns-in-Err
returns-in-Err g c =
    let e = c.in-Err.ensures in
    let means = g.M.Matrix.means in
    let kept : means c.enter.new.self ≡ means c.loop-position.matrix = ap means e.same in
    let gs = c.args.grants.now in
    let i = c.loop-position.position in
    record {
      grant = get_or gs i (grant 0 0 0);
      there = slice_get-get_or gs i (grant 0 0 0) c.loop-position-test.true;
      before = subst (λ (x : Meaning). AllEntered (means c.args.matrix.now) (take i gs) x) (sym kept) c.loop-position.invariant;
      refusal = e.told ∙ sym (ap (λ (x : Meaning). enter_refusal x (get_or gs i (grant 0 0 0))) kept);
    }

pub returns : goal.returns
returns g c =
    let means = g.M.Matrix.means in
    subst (λ (xs : List Grant). AllEntered (means c.args.matrix.now) xs (means c.loop-position.matrix))
    (take_all c.loop-position.position c.args.grants.now c.loop-position-test.false) c.loop-position.invariant
