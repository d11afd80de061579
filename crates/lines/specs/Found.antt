-- What a search for a value of which P holds answers: such a value, or that there is none.
use Rattle.std.specs.Prelude.{Option, MatchOption}

abbrev pub Found : {X : Type 0} → (X → Type 0) → Option X → Type 0
Found {X} P o = MatchOption o ((x : X) → P x → ⊥) P
