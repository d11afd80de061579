use Rattle.lines.proofs.Splits.{no_lead}
use Rattle.lines.proofs.fields.next_number.Goals as goal

pub returns-in_err-n : goal.returns-in_err-n
returns-in_err-n c =
    rw c.from_residual-in_err-n.ensures
    (no_lead c.args.bytes.now c.in_ok-bytes.bytes.now c.split_field.result.0.now c.split_field.result.1.now
    c.in_ok-bytes.ensures c.split_field.ensures.whole c.split_field.ensures.field c.split_field.ensures.rest c.in_err-n.ensures)
