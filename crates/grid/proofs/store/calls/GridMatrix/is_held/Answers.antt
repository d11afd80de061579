use Rattle.std.proofs.Common.{◌≡◌, ℕ, ◌-◌, ◌/◌, ◌^◌, eqb, get_or, sym, ap, ◌∙◌}
use Rattle.std.proofs.lemmas.Nat.{and_mask}
use Rattle.matrix.specs.Tables.{table_places, table_type}
use Rattle.matrix.proofs.Shown.{cell-fits, refused_unheld, ok_number}
use Rattle.grid.specs.Cells.{bit, cell_at, in_cells}
use Rattle.grid.proofs.Writes.{bit_decides}
use Rattle.grid.proofs.store.calls.GridMatrix.is_held.Goals as goal

pub returns-then-not-is_ok : goal.returns-then-not-is_ok
returns-then-not-is_ok c =
    let s = c.args.self.now in
    sym (refused_unheld s.table (in_cells (table_places s.table) s.cells.now) c.args.grant c.judge_grant.result s.sound c.judge_grant.ensures
    (sym c.if-not-is_ok.ensures.value))

pub cell_of-requires : goal.cell_of-requires
cell_of-requires c =
    let t = c.args.self.now.table in
    let g = c.args.grant in
    let fits = cell-fits (table_places t) (table_type t g.row) (table_type t g.column) g
    (ok_number c.judge_grant.result (sym c.if-not-is_ok.ensures.value) ∙ c.judge_grant.ensures) in
    fits.0

pub returns : goal.returns
returns c =
    let s = c.args.self.now in
    let n = table_places s.table in
    let g = c.args.grant in
    let fits = cell-fits n (table_type s.table g.row) (table_type s.table g.column) g
    (ok_number c.judge_grant.result (sym c.if-not-is_ok.ensures.value) ∙ c.judge_grant.ensures) in
    let at : c.cell_of.result ≡ cell_at n g = c.cell_of.ensures.at in
    ap (λ (x : ℕ). eqb x 1) (and_mask (get_or s.cells.now c.cell_of.result 0 / 2 ^ (g.right - 1)) 1
    ∙ ap (λ (i : ℕ). bit (g.right - 1) (get_or s.cells.now i 0)) at)
    ∙ sym (bit_decides n s.cells.now g fits.0)
