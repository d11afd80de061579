use Rattle.std.proofs.Common.{sym, refl, ◌∙◌, arith}
use Rattle.std.proofs.lemmas.List.{length-take}
use Rattle.records.specs.Lent.{items, capacity}
use Rattle.grant_list.proofs.Members.{apart_out}
use Rattle.grant_list.proofs.Outcomes.{sound_out, out_deletes, none_deletes}
use Rattle.grant_list.proofs.store.changes.GrantListRegister.delete.Goals as goal

pub invariant_of-self : goal.invariant_of-self
invariant_of-self c =
    let s = c.args.self.now in
    let e = c.take_out.ensures in record { fits = omega (arith, s.fits, e.size); sound = sound_out s.table (items s.grants) (items c.take_out.new.self) c.take_out.result c.in-Some.found e.after s.sound; distinct = apart_out (items s.grants) (items c.take_out.new.self) c.take_out.result c.in-Some.found e.after s.distinct }

pub returns-in-Some : goal.returns-in-Some
returns-in-Some c =
    let s = c.args.self.now in
    let e = c.take_out.ensures in
    record {
      told = c.in_ok-judge_grant.ensures;
      after = out_deletes s.table (items s.grants) (items c.take_out.new.self) (capacity s.grants) (capacity c.take_out.new.self) e.size c.args.grant
          c.in-Some.found c.take_out.result c.in-Some.ensures e.told e.after s.distinct (omega (arith, length-take s.grants.used s.grants.records.now));
      same = tt;
      kept = tt;
    }

pub returns-in_default-clause-after : goal.returns-in_default-clause-after
returns-in_default-clause-after c =
    let s = c.args.self.now in
    none_deletes s.table (items s.grants) (items s.grants) (capacity s.grants) (capacity s.grants) refl c.args.grant (sym c.in_default.is ∙ c.find.ensures)
