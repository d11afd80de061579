use Rattle.std.proofs.Common.{arith}
use Rattle.std.proofs.lemmas.List.Sums.{prefix_len-le-length}
use Rattle.lines.proofs.Splits.{spaceless_first, ended_first}
use Rattle.lines.proofs.fields.split_field.Goals as goal

pub split_at-requires : goal.split_at-requires
split_at-requires c = grind (arith, prefix_len-le-length)

pub returns-clause-field : goal.returns-clause-field
returns-clause-field c = rw (c.split_at.ensures.front, c.field_length.ensures) (spaceless_first c.args.bytes.now)

pub returns-clause-rest : goal.returns-clause-rest
returns-clause-rest c = rw (c.split_at.ensures.back, c.field_length.ensures) (ended_first c.args.bytes.now)
