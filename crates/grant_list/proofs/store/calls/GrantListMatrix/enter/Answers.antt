use Rattle.std.proofs.Common.{arith}
use Rattle.records.specs.Lent.{items, capacity}
use Rattle.matrix.specs.Tables.{table_places, table_type}
use Rattle.matrix.proofs.Shown.{cell-stands}
use Rattle.grant_list.proofs.Members.{apart-added}
use Rattle.refusals.proofs.Either.{refused_anyway}
use Rattle.grant_list.proofs.Outcomes.{sound-added, add_enters}
use Rattle.grant_list.proofs.Standings.{same_store}
use Rattle.grant_list.proofs.store.calls.GrantListMatrix.enter.Goals as goal

pub invariant_of-self : goal.invariant_of-self
invariant_of-self c =
    let s = c.args.self.now in
    let xs = items s.grants in
    let g = c.args.grant in
    let e = c.add.ensures in record {
      fits = omega (arith, s.fits, e.size);
      sound = sound-added s.table xs (items c.add.new.self) g c.add.result e.after s.sound
          (cell-stands (table_type s.table) (table_places s.table) g c.in_ok-judge_grant.ensures);
      distinct = apart-added (capacity s.grants) xs (items c.add.new.self) g c.add.result e.told e.after s.distinct;
    }

pub returns-in_err-add-clause-same : goal.returns-in_err-add-clause-same
returns-in_err-add-clause-same c = refused_anyway _ (same_store c.args.self.now c.add.new.self c.in_err-add.ensures.same _ _ _)

pub returns-clause-after : goal.returns-clause-after
returns-clause-after c =
    let s = c.args.self.now in
    add_enters s.table (items s.grants) (items c.add.new.self) (capacity s.grants) (capacity c.add.new.self) c.in_ok-add.ensures.size c.args.grant
    _ c.in_ok-add.ensures.told c.in_ok-add.ensures.after
