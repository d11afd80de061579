use Rattle.std.proofs.Common.{sym, ap, ◌∙◌, arith}
use Rattle.matrix.specs.Ranges.{within}
use Rattle.matrix.specs.Stored.{few_places}
use Rattle.matrix.proofs.Fillings.{within_in, no_place, read_some, read_none}
use Rattle.matrix.proofs.tables.PlaceTable.type_of.Goals as goal

pub returns-then-not-is_within : goal.returns-then-not-is_within
returns-then-not-is_within c =
    sym (no_place c.args.self.now c.args.place (sym (c.if-not-is_within.ensures ∙ ap (within c.args.place) c.places.ensures)))

pub bounds-self-place : goal.bounds-self-place
bounds-self-place c =
    let i = within_in c.args.place c.places.result (sym c.if-not-is_within.ensures) in
    omega (arith, i, few_places c.args.self.now, c.places.ensures)

pub returns-then-is_within : goal.returns-then-is_within
returns-then-is_within c =
    sym (read_some c.args.self.now c.args.place (sym (c.if-not-is_within.ensures ∙ ap (within c.args.place) c.places.ensures)) (sym c.if-is_within.ensures))

pub returns-else-is_within : goal.returns-else-is_within
returns-else-is_within c =
    sym (read_none c.args.self.now c.args.place (sym (c.if-not-is_within.ensures ∙ ap (within c.args.place) c.places.ensures)) (sym c.if-is_within.ensures))
