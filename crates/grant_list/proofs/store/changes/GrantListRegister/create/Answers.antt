use Rattle.records.specs.Lent.{items}
use Rattle.matrix.specs.Listed.{listed}
use Rattle.matrix.proofs.Shown.{sound-created}
use Rattle.grant_list.proofs.store.changes.GrantListRegister.create.Goals as goal

pub invariant_of-self : goal.invariant_of-self
invariant_of-self c =
    let s = c.args.self.now in record {
      fits = s.fits;
      sound = sound-created s.table c.put.new.self c.args.place c.put.ensures.size c.args.kind c.put.ensures.after c.in_ok-judge_create.ensures
          (listed (items s.grants)) s.sound;
      distinct = s.distinct;
    }
