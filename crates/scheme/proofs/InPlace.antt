-- A list that is mapped, and changed at one place.
use Rattle.std.proofs.lemmas.List.{get_or-map, map-set}

pub ruleset in_place = (get_or-map, map-set)
