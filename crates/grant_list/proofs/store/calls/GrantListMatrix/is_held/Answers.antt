use Rattle.std.proofs.Common.{is_some, sym, ap, ◌∙◌}
use Rattle.records.specs.Lent.{items}
use Rattle.records.proofs.Founds.{found_any}
use Rattle.matrix.specs.Grants.{same_grant}
use Rattle.matrix.specs.Listed.{listed}
use Rattle.matrix.proofs.Shown.{refused_unheld}
use Rattle.grant_list.proofs.store.calls.GrantListMatrix.is_held.Goals as goal

pub returns-else-is_ok : goal.returns-else-is_ok
returns-else-is_ok c =
    let s = c.args.self.now in
    c.if-is_ok.false
    ∙ sym (refused_unheld s.table (listed (items s.grants)) c.args.grant c.judge_grant.result s.sound c.judge_grant.ensures (sym c.is_ok.ensures.value ∙ c.if-is_ok.false))

pub returns-then-is_ok : goal.returns-then-is_ok
returns-then-is_ok c = c.is_some.ensures ∙ ap is_some c.find.ensures ∙ found_any (same_grant c.args.grant) (items c.args.self.now.grants)
