-- What the calls of a matrix leave alone though its meaning does not show it, as the matrix below a trial.

-- a relation between a matrix before and after, which many calls keep since one does
pub record Frame (X : Type 0) : Type 1 where
  pub keeps : X → X → Type 0
  pub begins : (x : X) → keeps x x
  pub chains : (x y z : X) → keeps x y → keeps y z → keeps x z

-- no more than the meaning shows
abbrev pub no_more : {X : Type 0} → Frame X
no_more = record { keeps = λ _ _. Unit {0}; begins = λ _. tt; chains = λ _ _ _ _ _. tt }
