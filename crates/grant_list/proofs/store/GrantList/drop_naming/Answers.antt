use Rattle.std.proofs.Common.{◌-◌, ◌∙◌, arith}
use Rattle.records.specs.Lent.{items}
use Rattle.grant_list.proofs.Members.{apart_out}
use Rattle.grant_list.proofs.Filters.{turn_named, turn_unnamed}
use Rattle.grant_list.proofs.Outcomes.{sound_out}
use Rattle.grant_list.proofs.store.GrantList.drop_naming.Goals as goal

pub invariant_of-self : goal.invariant_of-self
invariant_of-self c =
    let s = c.loop-position.self in
    let e = c.take_out.ensures in record { fits = omega (arith, s.fits, e.size); sound = sound_out s.table (items s.grants) (items c.take_out.new.self) c.take_out.result (c.loop-position.position - 1) e.after s.sound; distinct = apart_out (items s.grants) (items c.take_out.new.self) c.take_out.result (c.loop-position.position - 1) e.after s.distinct }

pub loop-position-preserved-then-names_at : goal.loop-position-preserved-then-names_at
loop-position-preserved-then-names_at c =
    let v = c.loop-position.invariant in
    let e = c.take_out.ensures in
    record {
      table = v.table;
      inside = omega (arith, v.inside);
      out = e.after ∙ turn_named c.args.place (items c.args.self.now.grants) (items c.loop-position.self.grants) c.loop-position.position
          (omega arith) v.inside v.out (rw c.if-names_at.true at c.names_at.ensures) c.take_out.result e.told;
      size = e.size ∙ v.size;
    }

pub loop-position-preserved : goal.loop-position-preserved
loop-position-preserved c =
    let v = c.loop-position.invariant in
    record {
      table = v.table;
      inside = omega (arith, v.inside);
      out = turn_unnamed c.args.place (items c.args.self.now.grants) (items c.loop-position.self.grants) c.loop-position.position
          (omega arith) v.inside v.out (rw c.if-names_at.false at c.names_at.ensures);
      size = v.size;
    }
