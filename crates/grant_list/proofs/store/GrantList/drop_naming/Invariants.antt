use Rattle.std.proofs.Common.{◌≡◌, ◌≤◌, ◌++◌, length, take, drop}
use Rattle.std.specs.Prelude.{filter}
use Rattle.records.specs.Lent.{items, capacity}
use Rattle.grant_list.specs.Grants.{away}
use Rattle.grant_list.proofs.store.GrantList.drop_naming.Given as goal

-- from i on the records that name the place are out
abbrev pub invariant-loop-position : goal.invariant-loop-position
invariant-loop-position l =
    let xs = items l.initial.self.grants in
    record {
      table : l.self.table ≡ l.initial.self.table;
      inside : l.position ≤ length xs;
      out : items l.self.grants ≡ take l.position xs ++ filter (away l.place) (drop l.position xs);
      size : capacity l.self.grants ≡ capacity l.initial.self.grants;
    }
