-- The rights that a list of grants holds.
use Rattle.std.specs.Prelude.{Bool, List}
use Rattle.std.specs.List.{list_any}
use Rattle.matrix.specs.Grants.{same_grant}
use Rattle.matrix.specs.declared.grants.Grant.{Grant}

abbrev pub listed : List Grant → Grant → Bool
listed gs g = list_any (same_grant g) gs
