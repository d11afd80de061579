use Rattle.std.proofs.Common.{refl}
use Rattle.matrix.specs.Tables.{table_places}
use Rattle.matrix.proofs.Fillings.{fresh}
use Rattle.matrix.proofs.tables.PlaceTable.new.Goals as goal

pub returns : goal.returns
unfolding table_places
returns c = record { size = refl; empty = fresh _ _ refl }
