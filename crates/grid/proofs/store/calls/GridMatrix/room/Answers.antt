use Rattle.std.proofs.Common.{◌≡◌, ℕ, ◌-◌, ◌*◌, ◌≤◌, List, length, take, sum_by, sym, ap, ◌∙◌, subst, ap₂, arith}
use native.Mathlib.Nat.{sub-zero}
use Rattle.std.proofs.lemmas.Nat.{mul-le}
use Rattle.std.proofs.lemmas.List.{length-take}
use Rattle.matrix.specs.Count.{count}
use Rattle.matrix.specs.Stored.{few_places}
use Rattle.matrix.specs.Tables.{table_places}
use Rattle.matrix.proofs.Counts.{count_le}
use Rattle.grid.specs.Cells.{bits, in_cells}
use Rattle.grid.proofs.Totals.{total_held}
use Rattle.grid.proofs.store.calls.GridMatrix.room.Goals as goal

pub overflow_cast-result : goal.overflow_cast-result
overflow_cast-result c =
    let few : c.places-n.result ≤ 128 = omega (arith, few_places c.args.self.now.table, c.places-n.ensures) in
    omega (arith, mul-le c.places-n.result c.places-n.result 128 128 few few)

pub count-requires : goal.count-requires
count-requires c =
    let n = c.places-n.result in
    let few : n ≤ 128 = omega (arith, few_places c.args.self.now.table, c.places-n.ensures) in
    omega (arith, mul-le n n 128 128 few few, length-take (n * n - 0) c.args.self.now.cells.now)

-- the bits of the cells are the rights held
held : (n m : ℕ) (cells : List ℕ) (sum : ℕ) → n ≡ m → m * m ≤ length cells → sum ≡ sum_by bits (take (n * n - 0) cells) → sum ≡ count m (in_cells m cells)
held n m cells sum e whole is =
    is ∙ ap (λ (k : ℕ). sum_by bits (take k cells)) (sub-zero (n * n)) ∙ ap (λ (k : ℕ). sum_by bits (take (k * k) cells)) e ∙ total_held m cells whole

pub overflow_sub-result : goal.overflow_sub-result
overflow_sub-result c =
    let s = c.args.self.now in
    let m = table_places s.table in
    let is = held c.places-n.result m s.cells.now c.count.result c.places-n.ensures s.whole c.count.ensures in
    subst (λ (k : ℕ). c.count.result ≤ 32 * (k * k)) (sym c.places-n.ensures) (omega (arith, is, count_le m (in_cells m s.cells.now)))

pub returns : goal.returns
returns c =
    let s = c.args.self.now in
    let m = table_places s.table in
    let is = held c.places-n.result m s.cells.now c.count.result c.places-n.ensures s.whole c.count.ensures in
    ap₂ (λ (k sum : ℕ). 32 * (k * k) - sum) c.places-n.ensures is
