use Rattle.std.proofs.Common.{arith}
use Rattle.std.proofs.lemmas.List.{length-take}
use Rattle.records.specs.Lent.{items, capacity}
use Rattle.grant_list.proofs.Outcomes.{sound-away, away-destroys}
use Rattle.grant_list.proofs.store.changes.GrantListRegister.destroy.Goals as goal

pub invariant_of-self : goal.invariant_of-self
invariant_of-self c =
    let s = c.args.self.now in
    let d = c.drop_naming.new.self in record {
      fits = d.fits;
      sound = sound-away s.table d.table c.put.new.self c.drop_naming.ensures.table c.args.place c.put.ensures.size c.put.ensures.after
          c.in_ok-judge_destroy.ensures (items s.grants) (items d.grants) c.drop_naming.ensures.after s.sound;
      distinct = d.distinct;
    }

pub returns : goal.returns
returns c =
    let s = c.args.self.now in
    let d = c.drop_naming.new.self in
    record {
      told = c.in_ok-judge_destroy.ensures;
      after = away-destroys s.table d.table c.put.new.self c.drop_naming.ensures.table c.args.place c.put.ensures.size c.put.ensures.after
          c.in_ok-judge_destroy.ensures (items s.grants) (items d.grants) c.drop_naming.ensures.after s.sound
          (capacity s.grants) (capacity d.grants) c.drop_naming.ensures.size (omega (arith, length-take s.grants.used s.grants.records.now));
      same = tt;
      kept = tt;
    }
