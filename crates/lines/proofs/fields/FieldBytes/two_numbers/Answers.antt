use Rattle.std.proofs.Common.{[], ◌∷◌, length, ap, arith, ltb-true, ltb-false}
use Rattle.lines.proofs.Spellings.{same_count}
use Rattle.lines.proofs.fields.FieldBytes.two_numbers.Goals as goal

pub returns-in_err-all_numbers : goal.returns-in_err-all_numbers
returns-in_err-all_numbers c = rw c.from_residual.ensures (λ a b. c.in_err-all_numbers.ensures (a ∷ b ∷ []))

pub returns-in_default : goal.returns-in_default
returns-in_default c = λ a b q. omega (arith, ltb-true, ltb-false, same_count _ _ (a ∷ b ∷ []) c.in_ok-all_numbers.ensures q, ap length c.as_slice.ensures)

pub returns-in_default-2 : goal.returns-in_default-2
returns-in_default-2 c = λ a b q. omega (arith, ltb-true, ltb-false, same_count _ _ (a ∷ b ∷ []) c.in_ok-all_numbers.ensures q, ap length c.as_slice.ensures)
