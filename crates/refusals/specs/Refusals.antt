-- What is said of a call that may be refused: with which number, and what holds if it is accepted or refused.
use Rattle.std.specs.Prelude.{ℕ, Ok, Err, Result}

-- the number of a call's refusal, 0 where it was accepted
abbrev pub refusal_by : {X E : Type 0} → (E → ℕ) → Result X E → ℕ
refusal_by number_of (Ok x) = 0
refusal_by number_of (Err f) = number_of f

-- what is said of an accepted call, and of a refused one
abbrev pub Accepted : {X E : Type 0} → Result X E → Type 0 → Type 0
Accepted (Ok x) P = P
Accepted (Err f) P = Unit {0}

abbrev pub Refused : {X E : Type 0} → Result X E → Type 0 → Type 0
Refused (Ok x) P = Unit {0}
Refused (Err f) P = P
