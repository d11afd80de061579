use Rattle.std.proofs.Common.{arith, ltb-false}
use Rattle.std.proofs.lemmas.Slice.{first_rest}
use Rattle.lines.proofs.Whole.{reads}
use Rattle.lines.proofs.reading.read_line.Goals as goal

pub returns-in-len1-up : goal.returns-in-len1-up
returns-in-len1-up c =
    let e = first_rest c.args.bytes.now 0 (omega (arith, ltb-false)) in
    rw c.ok_or.ensures.value (reads c.args.bytes.now c.by_letter.result (omega arith) (rw (← e) at c.by_letter.ensures))
