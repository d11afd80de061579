use Rattle.std.proofs.Common.{◌≡◌, arith, ap, ◌∙◌}
use Rattle.scheme.specs.Rules.{rules_of}
use Rattle.scheme.specs.Lawful.{lawful}
use Rattle.scheme.proofs.Spelled.{lawful-spelled, types_first, commands_then}
use Rattle.scheme.proofs.Steps.{types_lines, each_lines}
use Rattle.scheme.proofs.rewrites.rewrite.Goals as goal

pub returns-in_err-write_all : goal.returns-in_err-write_all
returns-in_err-write_all c =
    let s = rules_of c.args.scheme.now.table in
    let first = types_first s c.args.scheme.now.kept in
    grind (arith, types_lines)

pub returns-in_err-write_all-2 : goal.returns-in_err-write_all-2
returns-in_err-write_all-2 c =
    let s = rules_of c.args.scheme.now.table in
    let first = types_first s c.args.scheme.now.kept in
    let then = commands_then s c.args.scheme.now.kept in
    grind (arith, types_lines, each_lines)

pub returns : goal.returns
returns c =
    let s = rules_of c.args.scheme.now.table in
    let kept = c.args.scheme.now.kept in
    let first = types_first s kept in
    let then = commands_then s kept in
    let is : rules_of c.write_all-2.new.writer.table ≡ s = grind (arith, types_lines, each_lines) in
    record { accepted = lawful-spelled s kept; ok = c.finish.ensures.exact ∙ ap lawful is ∙ kept; copied = grind arith; written = is }
