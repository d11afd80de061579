use Rattle.lines.specs.Lines.{numbers_of}
use Rattle.lines.proofs.Leads.{Reading}
use Rattle.std.proofs.Common.{length}
use Rattle.lines.proofs.fields.FieldBytes.all_numbers.Given as goal

abbrev pub invariant-loop-rest : goal.invariant-loop-rest
invariant-loop-rest l = Reading l.self.bytes.now (numbers_of l.numbers) l.rest

abbrev pub decreases-loop-rest : goal.decreases-loop-rest
decreases-loop-rest l = length l.rest
