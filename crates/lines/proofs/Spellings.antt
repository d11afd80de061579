-- No two lists of fields are spelled alike.
use Rattle.std.proofs.Common.{rules, ◌≡◌, ℕ, List, [], ◌∷◌, ◌++◌, map, length, sym, refl, ap, ◌∙◌, arith}
use Rattle.std.specs.List.{AllByRecursion}
use Rattle.std.proofs.lemmas.List.{length-map}
use Rattle.lines.specs.Spelling.{Field, number, spell_field, spell_fields, WritableField}
use Rattle.lines.specs.Fields.{NumberFields, Ended, Spaceless}
use Rattle.lines.proofs.Numerals.{spaceless_decimal, same_number, no_letter}

pub heads : {a b : ℕ} {xs ys : List ℕ} → a ∷ xs ≡ b ∷ ys → a ≡ b
heads e = (cc)

pub tails : {a b : ℕ} {xs ys : List ℕ} → a ∷ xs ≡ b ∷ ys → xs ≡ ys
tails e = cc

-- what stands before the first space is one list, and what follows another
pub apart : (xs ys us vs : List ℕ) → Spaceless xs → Spaceless ys → Ended us → Ended vs → xs ++ us ≡ ys ++ vs → (xs ≡ ys) × (us ≡ vs)
apart [] [] us vs p q s t e = (refl, e)
apart [] (y ∷ ys) us vs p q s t e = absurd (grind arith)
apart (x ∷ xs) [] us vs p q s t e = absurd (grind arith)
apart (x ∷ xs) (y ∷ ys) us vs p q s t e = let r = apart xs ys us vs p.1 q.1 s t (tails e) in ((grind (arith, r.0)), r.1)

pub ended_fields : (fs : List Field) → Ended (spell_fields fs)
ended_fields [] = tt
ended_fields (f ∷ fs) = refl

spaceless_field : (f : Field) → WritableField f → Spaceless (spell_field f)
spaceless_field f w = search (rules, spaceless_decimal)

same_field : (f g : Field) → WritableField f → WritableField g → spell_field f ≡ spell_field g → f ≡ g
same_field f g v w e = search (rules, no_letter, same_number)

pub same_fields : (fs gs : List Field) → AllByRecursion WritableField fs → AllByRecursion WritableField gs → spell_fields fs ≡ spell_fields gs → fs ≡ gs
same_fields [] [] v w e = refl
same_fields [] (g ∷ gs) v w e = cc
same_fields (f ∷ fs) [] v w e = cc
same_fields (f ∷ fs) (g ∷ gs) v w e =
    let r = apart (spell_field f) (spell_field g) (spell_fields fs) (spell_fields gs) (spaceless_field f v.0) (spaceless_field g w.0) (ended_fields fs) (ended_fields gs) (tails e) in
    let h = same_field f g v.0 w.0 r.0 in
    let t = same_fields fs gs v.1 w.1 r.1 in
    cc

-- bytes are the fields of as many numbers, however they are read
pub same_count : (bytes ns ms : List ℕ) → NumberFields bytes ns → NumberFields bytes ms → length ns ≡ length ms
same_count bytes ns ms p q = simp length-map at (ap length (same_fields (map number ns) (map number ms) p.0 q.0 (p.1 ∙ sym q.1)))
