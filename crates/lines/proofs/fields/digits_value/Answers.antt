use Rattle.std.proofs.Common.{arith, ltb-false, ltb-true}
use Rattle.std.proofs.lemmas.Bool.Decides.{nat_tests}
use Rattle.std.proofs.lemmas.Int.Digits.{digits_more, digits_value_more}
use Rattle.std.proofs.lemmas.Str.Parse.{digit_at}
use Rattle.lines.proofs.fields.digits_value.Goals as goal

pub returns-in_default : goal.returns-in_default
returns-in_default c = λ d. let t = digit_at c.args.field.now c.loop-b.b-index d c.loop-b-test.true in omega (arith, ltb-true, ltb-false)

pub returns-in_default-2 : goal.returns-in_default-2
returns-in_default-2 c = λ d. let t = digit_at c.args.field.now c.loop-b.b-index d c.loop-b-test.true in omega (arith, ltb-true, ltb-false)

pub loop-b-preserved : goal.loop-b-preserved
loop-b-preserved c = (
  digits_more 10 c.args.field.now c.loop-b.b-index c.loop-b-test.true c.loop-b.invariant.0 (grind (arith, nat_tests)),
  grind (arith, nat_tests, digits_value_more),
)
