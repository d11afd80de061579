-- No two lines are spelled alike, so that the line that is read is the one that was spelled.
use Rattle.std.proofs.Common.{◌≡◌, ℕ, ◌≤◌, List, [], ◌∷◌, map, length, Some, None, Option, sym, refl, ap, ◌∙◌, arith, rules}
use Rattle.std.specs.Option.{option_map, ok_or}
use Rattle.lines.specs.declared.kinds.Kind.{Kind}
use Rattle.lines.specs.declared.values.Line.{Line}
use Rattle.lines.specs.declared.faults.LineFault.TheVariants.{Malformed}
use Rattle.lines.specs.Lines.{AbstractLine, kind_of, said}
use Rattle.lines.specs.Spelling.{Field, type_kind, number, fields_of, letter_of}
use Rattle.lines.specs.Found.{Found}
use Rattle.lines.specs.Spelling.{Spells}
use Rattle.lines.specs.Reads.{Reads}
use Rattle.lines.proofs.Spellings.{heads, tails, same_fields}

same_letter : (j k : Kind) → letter_of j ≡ letter_of k → j ≡ k
same_letter j k e = search rules

-- the number of a field, that the numbers of a line can be told from its fields
abbrev value_of : Field → ℕ
value_of (type_kind k) = 0
value_of (number n) = n

values_back : (ns : List ℕ) → map value_of (map number ns) ≡ ns
values_back [] = refl
values_back (n ∷ ns) = ap (λ ms. n ∷ ms) (values_back ns)

same_parts : (ℓ m : AbstractLine) → kind_of ℓ ≡ kind_of m → fields_of ℓ ≡ fields_of m → ℓ ≡ m
same_parts ℓ m k f = let v = ap (map value_of) f in grind (arith, values_back)

same_line : (bytes : List ℕ) (ℓ m : AbstractLine) → Spells bytes ℓ → Spells bytes m → ℓ ≡ m
same_line bytes ℓ m p q =
    let e = p.1 ∙ sym q.1 in
    same_parts ℓ m (same_letter (kind_of ℓ) (kind_of m) (heads e)) (same_fields (fields_of ℓ) (fields_of m) p.0 q.0 (tails e))

pub reads : (bytes : List ℕ) (o : Option Line) → length bytes ≤ 40 → Found (Spells bytes) (option_map said o) → Reads bytes (ok_or o Malformed)
reads bytes None short none = record { only = λ ℓ e. cc; every = λ ℓ s l. absurd (none ℓ s) }
reads bytes (Some line) short is =
    record {
      only = λ ℓ e. (let s : said line ≡ ℓ = cc in rw (← s) is, short);
      every = λ ℓ s l. ap Some (same_line bytes (said line) ℓ is s);
    }
