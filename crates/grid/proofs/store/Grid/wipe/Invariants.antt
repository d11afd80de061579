use Rattle.std.proofs.Common.{◌≡◌, ℕ, ◌+◌, ◌*◌, ◌/◌, ◌%◌, ◌<◌, ◌≢◌, get_or, drop}
use Rattle.grid.proofs.store.Grid.wipe.Given as goal

-- the cells in other rows and columns are as they were; those in row p and in column p are clear, as far as i
abbrev pub invariant-loop-i : goal.invariant-loop-i
invariant-loop-i l =
    (l.self.table ≡ l.initial.self.table)
    × ((j : ℕ) → j / l.n ≢ l.p → j % l.n ≢ l.p → get_or l.self.cells.now j 0 ≡ get_or l.initial.self.cells.now j 0)
    × ((x : ℕ) → x < l.i → get_or l.self.cells.now (l.p * l.n + x) 0 ≡ 0)
    × ((x : ℕ) → x < l.i → get_or l.self.cells.now (x * l.n + l.p) 0 ≡ 0)
    × (drop (l.n * l.n) l.self.cells.now ≡ drop (l.n * l.n) l.initial.self.cells.now)
