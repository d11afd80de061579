-- What holds anyway holds of an accepted call, and of a refused one.
use Rattle.std.specs.Prelude.{Ok, Err, Result}
use Rattle.refusals.specs.Refusals.{Accepted, Refused}

module _ {X E : Type 0} {P : Type 0} where
  pub accepted_anyway : (r : Result X E) → P → Accepted r P
  accepted_anyway (Ok x) p = p
  accepted_anyway (Err f) p = tt

  pub refused_anyway : (r : Result X E) → P → Refused r P
  refused_anyway (Ok x) p = tt
  refused_anyway (Err f) p = p
