-- Each accepted call leaves what is written sound, and finishing accepts it exactly if it is a lawful scheme.
use Rattle.std.proofs.Common.{◌≡◌, ℕ, zero, suc, ◌-◌, ◌<◌, ◌≤◌, true, false, leb, List, [], ◌∷◌, ◌++◌, length, take, set, is_ok, Ok, Err, Result, arith}
use Rattle.std.proofs.lemmas.List.{length_push, length-set, take-set, take_at, nil_from_length}
use Rattle.std.proofs.lemmas.Bool.{false≢true}
use Rattle.std.proofs.lemmas.Bool.Decides.{nat_tests}
use Rattle.std.specs.List.{list_all, slice_get}
use Rattle.scheme.specs.Each.{from_to, each_after}
use Rattle.scheme.specs.Rules.{Rules, CommandRules}
use Rattle.scheme.specs.Lawful.{is_declared, is_subject, some_subject, lawful_cell, in_range, destroys_older, lawful_operation, lawful_lines, has_operations, lawful_command, lawful}
use Rattle.scheme.specs.Written.{opened_with, with_type, with_command, with_test, with_operation, last_of, on_last, no_commands, last_operates, sound}
use Rattle.scheme.specs.Refusals.{refusal, judged_type, judged_command, judged_test, judged_operation, judged_finish, keeps_order}
use Rattle.scheme.specs.declared.faults.SchemeFault.{SchemeFault}
use Rattle.scheme.specs.declared.lines.Cell.{Cell}
use Rattle.scheme.specs.declared.lines.Operation.{Operation}
use Rattle.scheme.specs.declared.lines.Operation.TheVariants.{Enter, Delete, Create, Destroy}
use Rattle.scheme.specs.declared.lines.TypeKind.{TypeKind}
use Rattle.scheme.proofs.Every.{every_set, every-getD, every_push, every_weaker, every_both, every_but_last, after_push, after_weaker}
use Rattle.scheme.proofs.Apart.{apart_push}
use Rattle.scheme.proofs.Steps.{number-some}

-- the rules of a command's lines, by name
pub record Lines (types : List TypeKind) (c : CommandRules) : Type 0 where
  pub arity : from_to 1 4 (length c.formals) ≡ true
  pub declared : list_all (is_declared types) c.formals ≡ true
  pub brief : leb (length c.tests) 6 ≡ true
  pub asked : list_all (lawful_cell types c.formals) c.tests ≡ true
  pub short : leb (length c.operations) 6 ≡ true
  pub ordered : each_after (lawful_operation types c.formals c.tests) [] c.operations ≡ true
  pub apart : list_all (destroys_older c.operations) c.operations ≡ true

pub lines_parts : (types : List TypeKind) (c : CommandRules) → lawful_lines types c ≡ true → Lines types c
lines_parts types c h = record { arity = grind arith; declared = grind arith; brief = grind arith; asked = grind arith; short = grind arith; ordered = grind arith; apart = grind arith }

-- an operation is added at the end
lines_operation : (types : List TypeKind) (c : CommandRules) (o : Operation) → lawful_lines types c ≡ true → length c.operations < 6 → in_range types c.formals o ≡ true → keeps_order c.tests c.operations o ≡ true → lawful_lines types (with_operation o c) ≡ true
lines_operation types c o h free range k =
    grind (arith, nat_tests, length_push, after_push (lawful_operation types c.formals c.tests) [] c.operations o, apart_push c.tests c.operations o)

-- a test is added while there is no operation
lines_test : (types : List TypeKind) (c : CommandRules) (t : Cell) → lawful_lines types c ≡ true → length c.tests < 6 → has_operations c ≡ false → lawful_cell types c.formals t ≡ true → lawful_lines types (with_test t c) ≡ true
lines_test types c t h free none k =
    let e : c.operations ≡ [] = nil_from_length c.operations (grind (arith, nat_tests)) in
    grind (arith, nat_tests, length_push, every_push (lawful_cell types c.formals) c.tests t, e)

-- one type more leaves each line lawful
module _ (types : List TypeKind) (k : TypeKind) where
  declared_more : (t : ℕ) → is_declared types t ≡ true → is_declared (types ++ (k ∷ [])) t ≡ true
  declared_more t h = grind (arith, nat_tests, length_push)

  subject_more : (ks : List TypeKind) (i : ℕ) → some_subject (slice_get ks i) ≡ true → some_subject (slice_get (ks ++ (k ∷ [])) i) ≡ true
  subject_more [] i h = absurd (false≢true h)
  subject_more (x ∷ ks) zero h = h
  subject_more (x ∷ ks) (suc i) h = subject_more ks i h

  is_subject_more : (formals : List ℕ) (p : ℕ) → is_subject types formals p ≡ true → is_subject (types ++ (k ∷ [])) formals p ≡ true
  is_subject_more formals p h = grind (arith, subject_more types)

  cell-more : (formals : List ℕ) (c : Cell) → lawful_cell types formals c ≡ true → lawful_cell (types ++ (k ∷ [])) formals c ≡ true
  cell-more formals c h = grind (arith, is_subject_more formals c.row)

  operation_more : (formals : List ℕ) (tests : List Cell) (before : List Operation) (o : Operation) → lawful_operation types formals tests before o ≡ true → lawful_operation (types ++ (k ∷ [])) formals tests before o ≡ true
  operation_more formals tests before (Enter c) h = grind (arith, cell-more formals c)
  operation_more formals tests before (Delete c) h = grind (arith, cell-more formals c)
  operation_more formals tests before (Create p) h = h
  operation_more formals tests before (Destroy p) h = h

  lines_more : (c : CommandRules) → lawful_lines types c ≡ true → lawful_lines (types ++ (k ∷ [])) c ≡ true
  lines_more c h =
      let more = types ++ (k ∷ []) in
      let declared = every_weaker (is_declared types) (is_declared more) declared_more c.formals in
      let asked = every_weaker (lawful_cell types c.formals) (lawful_cell more c.formals) (cell-more c.formals) c.tests in
      let ordered = after_weaker (lawful_operation types c.formals c.tests) (lawful_operation more c.formals c.tests) (operation_more c.formals c.tests) [] c.operations in
      grind (arith, declared, asked, ordered)

-- a lawful command declares a type, since it has a parameter
some_type : (types : List TypeKind) (formals : List ℕ) → 1 ≤ length formals → list_all (is_declared types) formals ≡ true → 1 ≤ length types
some_type types [] some h = absurd (omega arith)
some_type types (t ∷ ts) some h = grind (arith, nat_tests)

-- each accepted call leaves what is written sound
module _ (s : Rules) (h : sound s ≡ true) where
  -- a line more in the command opened last
  sound_last : (c : CommandRules) → no_commands s ≡ false → lawful_lines s.types c ≡ true → sound (record { types = s.types; commands = set s.commands (length s.commands - 1) c }) ≡ true
  sound_last c some k =
      let n = length s.commands - 1 in
      grind (arith, nat_tests, length-set s.commands n c, take-set s.commands n c, every_set (lawful_lines s.types) s.commands n c)

  last_lawful : no_commands s ≡ false → lawful_lines s.types (last_of s.commands) ≡ true
  last_lawful some = grind (arith, nat_tests, every-getD (lawful_lines s.types) s.commands (length s.commands - 1) (opened_with []))

  pub sound_operation : (o : Operation) (u : Rules) → u ≡ on_last (with_operation o) s → 0 ≡ judged_operation s o → sound u ≡ true
  sound_operation o u is z =
      let c = last_of s.commands in
      rw is (grind (arith, nat_tests, sound_last (with_operation o c), last_lawful, lines_operation s.types c o))

  pub sound_test : (t : Cell) (u : Rules) → u ≡ on_last (with_test t) s → 0 ≡ judged_test s t → sound u ≡ true
  sound_test t u is z =
      let c = last_of s.commands in
      rw is (grind (arith, nat_tests, sound_last (with_test t c), last_lawful, lines_test s.types c t))

  pub sound_type : (k : TypeKind) (u : Rules) → u ≡ with_type k s → 0 ≡ judged_type s → sound u ≡ true
  sound_type k u is z =
      let lines = every_weaker (lawful_lines s.types) (lawful_lines (s.types ++ (k ∷ []))) (lines_more s.types k) s.commands in
      rw is (grind (arith, nat_tests, length_push, lines))

  -- every command has operations where the last one has, or there is none
  all_operate : last_operates s ≡ true → list_all has_operations s.commands ≡ true
  all_operate k =
      let none = nil_from_length s.commands in
      let some = every_but_last has_operations s.commands (length s.commands - 1) (opened_with []) in
      grind (arith, nat_tests, none, some)

  pub sound_command : (formals : List ℕ) (u : Rules) → u ≡ with_command (opened_with formals) s → 0 ≡ judged_command s formals → sound u ≡ true
  sound_command formals u is z =
      let cs = s.commands ++ (opened_with formals ∷ []) in
      let front : take (length cs - 1) cs ≡ s.commands = take_at s.commands (opened_with formals ∷ []) _ (rw length_push (omega arith)) in
      rw is (grind (arith, nat_tests, length_push, front, all_operate, every_push (lawful_lines s.types) s.commands (opened_with formals)))

  pub sound_finish : judged_finish s ≡ 0 → lawful s ≡ true
  sound_finish z =
      let both = every_both (lawful_lines s.types) has_operations s.commands in
      grind (arith, nat_tests, all_operate, last_lawful, both, some_type s.types (last_of s.commands).formals)

-- a lawful scheme, by name
pub record Lawful (s : Rules) : Type 0 where
  pub types : from_to 1 16 (length s.types) ≡ true
  pub commands : from_to 1 32 (length s.commands) ≡ true
  pub each : list_all (lawful_command s.types) s.commands ≡ true

pub lawful_parts : (s : Rules) → lawful s ≡ true → Lawful s
lawful_parts s h = record { types = grind arith; commands = grind arith; each = grind arith }

pub range_bounds : (low high n : ℕ) → from_to low high n ≡ true → (low ≤ n) × (n ≤ high)
range_bounds low high n h = (grind (arith, nat_tests), grind (arith, nat_tests))

-- a scheme that is lawful may be finished
pub lawful_finish : (s : Rules) → lawful s ≡ true → judged_finish s ≡ 0
lawful_finish s h =
    let last = every-getD (lawful_command s.types) s.commands (length s.commands - 1) (opened_with []) in
    grind (arith, nat_tests, last)

-- finishing accepts exactly the lawful ones
pub finish_exact : {X : Type 0} (s : Rules) → sound s ≡ true → (r : Result X SchemeFault) → refusal r ≡ judged_finish s → is_ok r ≡ lawful s
finish_exact s h (Ok x) e = grind (arith, sound_finish s h)
finish_exact s h (Err f) e = grind (arith, number-some f, lawful_finish s)
