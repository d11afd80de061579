-- What the bytes of fields spell: the words of the private readers' contracts.
use Rattle.std.specs.Prelude.{◌≡◌, ℕ, ◌≤◌, List, [], ◌∷◌, ◌++◌, map, decimal, ◌≢◌}
use Rattle.std.specs.List.{AllByRecursion}
use Rattle.lines.specs.declared.kinds.Kind.{Kind}
use Rattle.lines.specs.Lines.{AbstractLine, kind_of}
use Rattle.lines.specs.Spelling.{Field, number, fields_of, spell_fields, byte, WritableField}

-- the bytes are the digits of n
abbrev pub Numeral : List ℕ → ℕ → Type 0
Numeral bytes n = (n ≤ 9999) × (decimal n ≡ bytes)

-- the bytes are these fields
abbrev pub Fields : List ℕ → List Field → Type 0
Fields bytes fs = AllByRecursion WritableField fs × (spell_fields fs ≡ bytes)

-- the bytes are fields that are these numbers
abbrev pub NumberFields : List ℕ → List ℕ → Type 0
NumberFields bytes ns = Fields bytes (map number ns)

-- a field ends before these bytes
abbrev pub Ended : List ℕ → Type 0
Ended [] = Unit {0}
Ended (b ∷ bs) = b ≡ byte " "

abbrev pub Spaceless : List ℕ → Type 0
Spaceless bytes = AllByRecursion (λ b. b ≢ byte " ") bytes

-- the bytes are a field that is the number n, and then others
abbrev pub Leads : List ℕ → ℕ × List ℕ → Type 0
Leads bytes p = (p.0 ≤ 9999) × Ended p.1 × (byte " " ∷ (decimal p.0 ++ p.1) ≡ bytes)

-- the bytes are the fields of the line ℓ, which is of kind k
abbrev pub FieldsOf : Kind → List ℕ → AbstractLine → Type 0
FieldsOf k bytes ℓ = (kind_of ℓ ≡ k) × Fields bytes (fields_of ℓ)
