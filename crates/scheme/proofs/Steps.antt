-- What the writer makes of lines that it is given one by one.
use Rattle.std.proofs.Common.{◌≡◌, ℕ, ◌+◌, ◌<◌, eqb, List, [], ◌∷◌, ◌++◌, map, length, get_or, drop, Some, None, refl, ap, ◌∙◌, arith}
use Rattle.std.specs.Option.{option_and_then}
use Rattle.std.specs.List.{flat_map}
use Rattle.std.proofs.lemmas.List.{at_drop_more}
use Rattle.std.proofs.lemmas.List.Concat.{flat_map_single}
use Rattle.std.proofs.lemmas.Bool.{cond-true, cond-false, eq-eqb, ne_eqb}
use Rattle.scheme.specs.Rules.{Rules, command_of}
use Rattle.scheme.specs.Refusals.{number_of}
use Rattle.scheme.specs.Spelling.{Line, declares, tests_for, operates, judged_line, with_line, written_by, command_lines, commands_lines}
use Rattle.scheme.specs.declared.commands.Command.{Command}
use Rattle.scheme.specs.declared.lines.Cell.{Cell}
use Rattle.scheme.specs.declared.lines.Operation.{Operation}
use Rattle.scheme.specs.declared.lines.TypeKind.{TypeKind}
use Rattle.scheme.specs.declared.faults.SchemeFault.{SchemeFault}
use Rattle.scheme.specs.declared.faults.SchemeFault.TheVariants.{WrongCount, OutOfRange, OutOfOrder, Unfinished}

pub number-some : (f : SchemeFault) → 0 < number_of f
number-some WrongCount = omega arith
number-some OutOfRange = omega arith
number-some OutOfOrder = omega arith
number-some Unfinished = omega arith

-- a line that is accepted, and one that is refused
module _ (s : Rules) (l : Line) (ls : List Line) where
  pub line_step : (u : Rules) → judged_line s l ≡ 0 → with_line l s ≡ u → written_by s (l ∷ ls) ≡ written_by u ls
  line_step u z e = cond-true (eqb (judged_line s l) 0) (written_by (with_line l s) ls) None (eq-eqb (judged_line s l) 0 z) ∙ ap (λ w. written_by w ls) e

  pub line_stop : (f : SchemeFault) → number_of f ≡ judged_line s l → written_by s (l ∷ ls) ≡ None
  line_stop f is = cond-false (eqb (judged_line s l) 0) (written_by (with_line l s) ls) None (ne_eqb (judged_line s l) 0 (λ z. let some = number-some f in omega arith))

-- lines after lines
written_by-append : (s : Rules) (ls ms : List Line) → written_by s (ls ++ ms) ≡ option_and_then (λ u. written_by u ms) (written_by s ls)
written_by-append s [] ms = refl
written_by-append s (l ∷ ls) ms = grind (arith, written_by-append (with_line l s) ls ms)

module _ (s : Rules) (ls ms : List Line) where
  pub lines_step : (u : Rules) → written_by s ls ≡ Some u → written_by s (ls ++ ms) ≡ written_by u ms
  lines_step u is = written_by-append s ls ms ∙ ap (option_and_then (λ v. written_by v ms)) is

  pub lines_stop : written_by s ls ≡ None → written_by s (ls ++ ms) ≡ None
  lines_stop is = written_by-append s ls ms ∙ ap (option_and_then (λ v. written_by v ms)) is

-- a loop that writes the lines of each element of a list
module _ {X : Type 0} (f : X → List Line) (xs : List X) (i : ℕ) (x : X) (s w : Rules) (so_far : written_by s (flat_map f xs) ≡ written_by w (flat_map f (drop i xs))) (is : x ≡ get_or xs i x) (in' : i < length xs) where
  next : written_by s (flat_map f xs) ≡ written_by w (f x ++ flat_map f (drop (i + 1) xs))
  next = cc (so_far, at_drop_more (λ ys. written_by w (flat_map f ys)) xs i x in', is)

  pub loop_step : (u : Rules) → written_by w (f x) ≡ Some u → written_by s (flat_map f xs) ≡ written_by u (flat_map f (drop (i + 1) xs))
  loop_step u k = next ∙ lines_step w (f x) (flat_map f (drop (i + 1) xs)) u k

  pub loop_stop : written_by w (f x) ≡ None → written_by s (flat_map f xs) ≡ None
  loop_stop k = next ∙ lines_stop w (f x) (flat_map f (drop (i + 1) xs)) k

-- the lines of the parts of a scheme, one by one
pub types_lines : (ks : List TypeKind) → flat_map (λ k. declares k ∷ []) ks ≡ map declares ks
types_lines ks = flat_map_single declares ks

pub tests_lines : (ts : List Cell) → flat_map (λ t. tests_for t ∷ []) ts ≡ map tests_for ts
tests_lines ts = flat_map_single tests_for ts

pub operations_lines : (os : List Operation) → flat_map (λ o. operates o ∷ []) os ≡ map operates os
operations_lines os = flat_map_single operates os

pub each_lines : (cs : List Command) → flat_map (λ c. command_lines (command_of c)) cs ≡ commands_lines (map command_of cs)
each_lines [] = refl
each_lines (c ∷ cs) = ap (λ ls. command_lines (command_of c) ++ ls) (each_lines cs)

pub ruleset written = (line_step, line_stop, lines_step, lines_stop, loop_step, loop_stop, tests_lines, operations_lines)
