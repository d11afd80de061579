use Rattle.std.proofs.Common.{◌≡◌, ℕ, ◌-◌, ◌*◌, ◌%◌, ◌^◌, refl, arith}
use Rattle.std.proofs.lemmas.Nat.{one_shl}
use Rattle.matrix.specs.Tables.{table_places}
use Rattle.matrix.proofs.Fillings.{range_in}
use Rattle.grid.specs.Cells.{cell_at}
use Rattle.grid.proofs.Entries.{range, whole_set, beyond-set, sound_enter, entered, enter_told}
use Rattle.grid.proofs.store.calls.GridMatrix.enter.Goals as goal

pub cell_of-at-requires : goal.cell_of-at-requires
cell_of-at-requires c =
    let s = c.args.self.now in
    let g = c.args.grant in
    range s.table s.cells.now g s.whole c.in_ok-judge_grant.ensures (cell_at (table_places s.table) g) refl

pub invariant_of-self : goal.invariant_of-self
invariant_of-self c =
    let s = c.args.self.now in
    let g = c.args.grant in
    let ok = c.in_ok-judge_grant.ensures in
    let at : c.cell_of-at.result ≡ cell_at (table_places s.table) g = c.cell_of-at.ensures.at in
    let in' = range_in (table_places s.table) g (range s.table s.cells.now g s.whole ok c.cell_of-at.result at) in record { whole = whole_set s.table s.cells.now g s.whole ok c.cell_of-at.result at _; sound = sound_enter s.table s.cells.now g s.whole ok c.cell_of-at.result at s.sound _ (one_shl (g.right - 1) 32 (omega arith)) }

pub returns : goal.returns
returns c =
    let s = c.args.self.now in
    let g = c.args.grant in
    let ok = c.in_ok-judge_grant.ensures in
    let at : c.cell_of-at.result ≡ cell_at (table_places s.table) g = c.cell_of-at.ensures.at in
    let in' = range_in (table_places s.table) g (range s.table s.cells.now g s.whole ok c.cell_of-at.result at) in
    let mask : ◌≡◌ {A = ℕ} ((1 * 2 ^ (g.right - 1)) % 4294967296) (2 ^ (g.right - 1)) = one_shl (g.right - 1) 32 (omega arith) in
    record {
      told = enter_told s.table s.cells.now g s.whole ok c.cell_of-at.result at s.sound _ mask;
      after = entered s.table s.cells.now g s.whole ok c.cell_of-at.result at s.sound _ mask;
      same = tt;
      kept = beyond-set s.table s.cells.now g s.whole ok c.cell_of-at.result at _;
    }
