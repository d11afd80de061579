use Rattle.std.proofs.Common.{ℕ, ◌+◌, ◌-◌, ◌*◌, ◌<◌, subst, sym, ap}
use Rattle.matrix.specs.Tables.{table_places}
use Rattle.grid.proofs.Places.{cell_lt}
use Rattle.grid.proofs.store.calls.cell_of.Goals as goal

pub returns-clause-at : goal.returns-clause-at
returns-clause-at c = ap (λ (n : ℕ). (c.args.grant.row - 1) * n + (c.args.grant.column - 1)) c.places.ensures

pub returns-clause-bound : goal.returns-clause-bound
returns-clause-bound c =
    let n = table_places c.args.table.now in
    subst (λ (m : ℕ). (c.args.grant.row - 1) * m + (c.args.grant.column - 1) < n * n) (sym c.places.ensures) (cell_lt n c.args.grant c.requires)
