-- Every lawful scheme, spelled out in its natural order, is accepted at every line, and what is written is that scheme.
use Rattle.std.proofs.Common.{◌≡◌, ℕ, ◌+◌, ◌<◌, ◌≤◌, true, false, List, [], ◌∷◌, ◌++◌, map, length, Some, refl, ◌∙◌, arith}
use Rattle.std.proofs.lemmas.List.{append-nil, append_assoc, length_push, get_or_push, set_at}
use Rattle.std.proofs.lemmas.Bool.Decides.{nat_tests}
use Rattle.std.specs.List.{list_all}
use Rattle.scheme.specs.Each.{each_after}
use Rattle.scheme.specs.Rules.{Rules, CommandRules}
use Rattle.scheme.specs.Lawful.{lawful_cell, destroys_older, lawful_operation, lawful_command, lawful}
use Rattle.scheme.specs.Written.{no_rules, opened_with, with_command, with_test, with_operation, last_of, no_commands, last_operates, on_last}
use Rattle.scheme.specs.Spelling.{declares, opens, tests_for, operates, written_by, command_lines, commands_lines, spelled}
use Rattle.scheme.specs.declared.lines.Cell.{Cell}
use Rattle.scheme.specs.declared.lines.Operation.{Operation}
use Rattle.scheme.specs.declared.lines.TypeKind.{TypeKind}
use Rattle.scheme.proofs.Steps.{line_step, lines_step}
use Rattle.scheme.proofs.Apart.{older_append}

-- the lines of a command that was just opened
module _ (c : CommandRules) (s : Rules) where
  pub opened_some : no_commands (with_command c s) ≡ false
  opened_some = grind (arith, nat_tests, length_push s.commands c)

  pub opened_last : last_of (with_command c s).commands ≡ c
  opened_last = grind (arith, length_push s.commands c, get_or_push s.commands c (opened_with []))

  pub opened_changed : (f : CommandRules → CommandRules) → on_last f (with_command c s) ≡ with_command (f c) s
  opened_changed f = grind (arith, opened_last, length_push s.commands c, set_at s.commands c [] (f c))

types-spelled : (before ks : List TypeKind) → length before + length ks ≤ 16 → written_by (record { types = before; commands = [] }) (map declares ks) ≡ Some (record { types = before ++ ks; commands = [] })
types-spelled before [] few = rw append-nil refl
types-spelled before (k ∷ ks) few =
    let l = length_push before k in
    line_step (record { types = before; commands = [] }) (declares k) (map declares ks) (record { types = before ++ (k ∷ []); commands = [] }) (grind (arith, nat_tests)) refl
    ∙ types-spelled (before ++ (k ∷ [])) ks (omega arith) ∙ rw append_assoc refl

-- the tests, and then the operations, of a command that was opened after the rules s
module _ (s : Rules) (formals : List ℕ) where
  tests-spelled : (before ts : List Cell) → length before + length ts ≤ 6 → list_all (lawful_cell s.types formals) ts ≡ true
      → written_by (with_command (record { formals = formals; tests = before; operations = [] }) s) (map tests_for ts) ≡ Some (with_command (record { formals = formals; tests = before ++ ts; operations = [] }) s)
  tests-spelled before [] few kept = rw append-nil refl
  tests-spelled before (t ∷ ts) few kept =
      let l = length_push before t in
      let b : CommandRules = record { formals = formals; tests = before; operations = [] } in
      let is = opened_last b s in
      line_step (with_command b s) (tests_for t) (map tests_for ts) (with_command (with_test t b) s) (grind (arith, nat_tests, opened_some b s, is)) (opened_changed b s (with_test t))
      ∙ tests-spelled (before ++ (t ∷ [])) ts (omega arith) (grind arith) ∙ rw append_assoc refl

  operations-spelled : (tests : List Cell) (before os : List Operation) → length before + length os ≤ 6 → each_after (lawful_operation s.types formals tests) before os ≡ true → list_all (destroys_older (before ++ os)) os ≡ true
      → written_by (with_command (record { formals = formals; tests = tests; operations = before }) s) (map operates os) ≡ Some (with_command (record { formals = formals; tests = tests; operations = before ++ os }) s)
  operations-spelled tests before [] few kept apart = rw append-nil refl
  operations-spelled tests before (o ∷ os) few kept apart =
      let l = length_push before o in
      let b : CommandRules = record { formals = formals; tests = tests; operations = before } in
      let is = opened_last b s in
      line_step (with_command b s) (operates o) (map operates os) (with_command (with_operation o b) s) (grind (arith, nat_tests, opened_some b s, is, older_append before (o ∷ os) o)) (opened_changed b s (with_operation o))
      ∙ operations-spelled tests (before ++ (o ∷ [])) os (omega arith) (grind arith) (rw append_assoc (grind arith)) ∙ rw append_assoc refl

command-spelled : (s : Rules) (c : CommandRules) → length s.commands < 32 → last_operates s ≡ true → lawful_command s.types c ≡ true → written_by s (command_lines c) ≡ Some (with_command c s)
command-spelled s c room operate kept =
    let tests = tests-spelled s c.formals [] c.tests (grind (arith, nat_tests)) (grind arith) in
    let operations = operations-spelled s c.formals c.tests [] c.operations (grind (arith, nat_tests)) (grind arith) (grind arith) in
    line_step s (opens c.formals) (map tests_for c.tests ++ map operates c.operations) (with_command (opened_with c.formals) s) (grind (arith, nat_tests)) refl
    ∙ lines_step _ (map tests_for c.tests) (map operates c.operations) _ tests ∙ operations

commands-spelled : (types : List TypeKind) (before cs : List CommandRules) → length before + length cs ≤ 32 → last_operates (record { types = types; commands = before }) ≡ true → list_all (lawful_command types) cs ≡ true
    → written_by (record { types = types; commands = before }) (commands_lines cs) ≡ Some (record { types = types; commands = before ++ cs })
commands-spelled types before [] few operate kept = rw append-nil refl
commands-spelled types before (c ∷ cs) few operate kept =
    let s : Rules = record { types = types; commands = before } in
    let l = length_push before c in
    let last : last_operates (with_command c s) ≡ true = grind (arith, opened_last c s) in
    lines_step s (command_lines c) (commands_lines cs) (with_command c s) (command-spelled s c (omega arith) operate (grind arith))
    ∙ commands-spelled types (before ++ (c ∷ [])) cs (omega arith) last (grind arith) ∙ rw append_assoc refl

-- the types of a lawful scheme, and then its commands
module _ (s : Rules) (h : lawful s ≡ true) where
  pub types_first : written_by no_rules (map declares s.types) ≡ Some (record { types = s.types; commands = [] })
  types_first = types-spelled [] s.types (grind (arith, nat_tests))

  pub commands_then : written_by (record { types = s.types; commands = [] }) (commands_lines s.commands) ≡ Some s
  commands_then = commands-spelled s.types [] s.commands (grind (arith, nat_tests)) refl (grind arith)

  pub lawful-spelled : written_by no_rules (spelled s) ≡ Some s
  lawful-spelled = lines_step no_rules (map declares s.types) (commands_lines s.commands) _ types_first ∙ commands_then
