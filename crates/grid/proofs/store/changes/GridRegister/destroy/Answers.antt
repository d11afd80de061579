use Rattle.std.proofs.Common.{◌≡◌, ℕ, ◌*◌, drop, None, ap, ◌∙◌}
use Rattle.matrix.specs.Tables.{table_places, table_type, put_type}
use Rattle.matrix.specs.declared.tables.PlaceTable.{PlaceTable}
use Rattle.grid.proofs.Emptied.{destroyed}
use Rattle.grid.proofs.store.changes.GridRegister.destroy.Goals as goal

pub returns : goal.returns
returns c =
    let s = c.args.self.now in
    let p = c.args.place in
    let w = c.wipe.new.self in
    let size : table_places c.put.new.self ≡ table_places s.table = c.put.ensures.size ∙ ap table_places c.wipe.ensures.table in
    let put : table_type c.put.new.self ≡ put_type s.table p None = c.put.ensures.after ∙ ap (λ (t : PlaceTable). put_type t p None) c.wipe.ensures.table in
    record {
      told = c.in_ok-judge_destroy.ensures;
      after = destroyed s.table c.put.new.self s.cells.now w.cells.now p size put c.in_ok-judge_destroy.ensures c.wipe.ensures.cells;
      same = tt;
      kept = ap (λ (n : ℕ). drop (n * n) w.cells.now) c.put.ensures.size ∙ c.wipe.ensures.rest;
    }
