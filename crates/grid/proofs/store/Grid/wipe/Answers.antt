use Rattle.std.proofs.Common.{◌≡◌, ℕ, ◌-◌, ◌*◌, ◌<◌, ◌≤◌, true, List, length, drop, sym, ap, ◌∙◌, subst, arith}
use Rattle.std.proofs.lemmas.List.{length-set}
use Rattle.matrix.specs.Ranges.{within}
use Rattle.matrix.specs.Tables.{table_places}
use Rattle.matrix.specs.declared.tables.PlaceTable.{PlaceTable}
use Rattle.matrix.proofs.Fillings.{within_in}
use Rattle.grid.specs.Cells.{in_cells, in_cells_but}
use Rattle.grid.proofs.Wipes.{row_lt, column_lt, kept_more, row_more, column_more, beyond-more, sound_zero, wiped, whole_at}
use Rattle.grid.proofs.store.Grid.wipe.Goals as goal

pub bounds-self-p : goal.bounds-self-p
bounds-self-p c =
    let n = c.places-n.result in
    let l = c.loop-i.self in
    let in' = within_in c.args.place (table_places c.args.self.now.table) c.requires in
    let whole : n * n ≤ length l.cells.now = whole_at l.table c.args.self.now.table n _ c.loop-i.invariant.0 c.places-n.ensures l.whole in
    let at = row_lt l.cells.now n (c.args.place - 1) c.loop-i.i whole (omega (arith, in', c.places-n.ensures)) c.loop-i-test.true in
    omega (arith, at)

pub invariant_of-self : goal.invariant_of-self
invariant_of-self c =
    let l = c.loop-i.self in
    record { whole = subst (λ (k : ℕ). table_places l.table * table_places l.table ≤ k) (sym (length-set _ _ _)) l.whole; sound = sound_zero l.table l.cells.now _ l.sound }

pub bounds-self-i : goal.bounds-self-i
bounds-self-i c =
    let n = c.places-n.result in
    let l = c.loop-i.self in
    let in' = within_in c.args.place (table_places c.args.self.now.table) c.requires in
    let whole : n * n ≤ length l.cells.now = whole_at l.table c.args.self.now.table n _ c.loop-i.invariant.0 c.places-n.ensures l.whole in
    let at = column_lt l.cells.now n (c.args.place - 1) c.loop-i.i whole (omega (arith, in', c.places-n.ensures)) c.loop-i-test.true in
    simp length-set (omega (arith, at))

pub invariant_of-self-in-loop-i : goal.invariant_of-self-in-loop-i
invariant_of-self-in-loop-i c =
    let l = c.loop-i.self in record { whole = subst (λ (k : ℕ). table_places l.table * table_places l.table ≤ k) (sym (length-set _ _ _ ∙ length-set _ _ _)) l.whole; sound = sound_zero l.table _ _ (sound_zero l.table l.cells.now _ l.sound) }

pub loop-i-preserved : goal.loop-i-preserved
loop-i-preserved c =
    let n = c.places-n.result in
    let q = c.args.place - 1 in
    let l = c.loop-i.self in
    let v = c.loop-i.invariant in
    let cells = l.cells.now in
    let in' = within_in c.args.place (table_places c.args.self.now.table) c.requires in
    let whole : n * n ≤ length cells = whole_at l.table c.args.self.now.table n _ v.0 c.places-n.ensures l.whole in
    let hq : q < n = omega (arith, in', c.places-n.ensures) in
    let hi = c.loop-i-test.true in (
      v.0,
      (λ j dr dc. kept_more cells n q c.loop-i.i whole hq hi j dr dc ∙ v.1 j dr dc),
      row_more cells n q c.loop-i.i whole hq hi v.2,
      column_more cells n q c.loop-i.i whole hq hi v.3,
      beyond-more cells n q c.loop-i.i whole hq hi ∙ v.4,
    )

-- what the last turn left, for the n that the table says
ended : (t s : PlaceTable) (n : ℕ) (old new : List ℕ) → t ≡ s → n ≡ table_places s → drop (n * n) new ≡ drop (n * n) old
    → drop (table_places t * table_places t) new ≡ drop (table_places s * table_places s) old
ended t s n old new e is rest =
    ap (λ (x : PlaceTable). drop (table_places x * table_places x) new) e
    ∙ subst (λ (m : ℕ). drop (m * m) new ≡ drop (m * m) old) is rest

pub returns : goal.returns
returns c =
    let s = c.args.self.now in
    let v = c.loop-i.invariant in
    let n = c.places-n.result in
    let P : ℕ → Type 0 = λ m. within c.args.place m ≡ true → in_cells m c.loop-i.self.cells.now ≡ in_cells_but c.args.place m s.cells.now in
    record {
      cells = subst P c.places-n.ensures (λ at. wiped n c.args.place s.cells.now c.loop-i.self.cells.now at v.1
          (λ x h. v.2 x (omega (arith, c.loop-i-test.false))) (λ x h. v.3 x (omega (arith, c.loop-i-test.false)))) c.requires;
      table = v.0;
      rest = ended c.loop-i.self.table s.table n s.cells.now c.loop-i.self.cells.now v.0 c.places-n.ensures v.4;
    }
