use Rattle.std.proofs.Common.{arith}
use Rattle.matrix.specs.Tables.{table_places}
use Rattle.matrix.proofs.tables.PlaceTable.places.Goals as goal

pub returns : goal.returns
unfolding table_places
returns c = omega (arith, c.min.ensures)
