use Rattle.std.proofs.Common.{◌≡◌, ◌-◌, ◌<◌, true, length, sym, refl, ap, ◌∙◌, arith}
use Rattle.matrix.specs.Ranges.{within}
use Rattle.matrix.specs.Stored.{few_places}
use Rattle.matrix.specs.Tables.{table_places}
use Rattle.matrix.proofs.Fillings.{within_in, put_at, put_out}
use Rattle.matrix.proofs.tables.PlaceTable.put.Goals as goal

pub bounds-self-place : goal.bounds-self-place
bounds-self-place c =
    let i = within_in c.args.place c.places.result (sym c.if-is_within.ensures) in
    omega (arith, i, few_places c.args.self.now, c.places.ensures)

pub returns-then-is_within : goal.returns-then-is_within
unfolding table_places
returns-then-is_within c =
    let t = c.args.self.now in
    let p = c.args.place in
    let at : within p (table_places t) ≡ true = sym (c.if-is_within.ensures ∙ ap (within p) c.places.ensures) in
    let lt : p - 1 < length t.types = omega (arith, within_in p (table_places t) at, few_places t) in
    record { after = put_at t p c.unwrap_or.result c.args.kind at lt c.unwrap_or.ensures; size = refl }

pub returns-else-is_within : goal.returns-else-is_within
returns-else-is_within c = record {
  after = put_out c.args.self.now c.args.place c.args.kind (sym (c.if-is_within.ensures ∙ ap (within c.args.place) c.places.ensures));
  size = refl;
}
