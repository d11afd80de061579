use Rattle.std.proofs.Common.{arith, ltb-false}
use Rattle.std.proofs.lemmas.Bool.Decides.{nat_tests}
use Rattle.lines.proofs.Numerals.{numeral_length, numeral_lead, found_numeral}
use Rattle.lines.proofs.fields.field_number.Goals as goal

pub returns-then-is_empty : goal.returns-then-is_empty
returns-then-is_empty c = λ n is. let l = numeral_length c.args.field.now n is in grind (arith, nat_tests)

pub returns-in-48 : goal.returns-in-48
returns-in-48 c = λ n is. omega (arith, ltb-false, numeral_lead c.args.field.now n is (omega arith))

pub returns-in_default : goal.returns-in_default
returns-in_default c =
    found_numeral c.args.field.now c.digits_value.result c.digits_value.ensures (grind (arith, nat_tests)) (omega arith)
    (λ z. grind (arith, nat_tests))
