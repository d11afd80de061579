-- How a line is spelled: the letter of its kind, and each field after one space.
use Rattle.std.specs.Prelude.{◌≡◌, ℕ, ◌≤◌, List, [], ◌∷◌, ◌++◌, map, codes, decimal, slice_index}
use Prim.Native.String.{String}
use Rattle.std.specs.List.{AllByRecursion}
use Rattle.lines.specs.declared.kinds.Kind.{Kind}
use Rattle.lines.specs.declared.kinds.Kind.TheVariants as kind
use Rattle.scheme.specs.declared.lines.TypeKind.{TypeKind}
use Rattle.scheme.specs.declared.lines.TypeKind.TheVariants.{Subject, Object}
use Rattle.lines.specs.Lines.{AbstractLine, declares, opens, tests, enters, deletes, creates, destroys, grid, grants, fills, holds, steps, closes, asks, reopens, kind_of}

-- the byte of a text of one letter
abbrev pub byte : String → ℕ
byte s = slice_index (codes s) 0

-- the letter of each kind
abbrev pub letter_of : Kind → ℕ
letter_of kind.Declare = byte "t"
letter_of kind.Command = byte "c"
letter_of kind.Test = byte "i"
letter_of kind.Enter = byte "e"
letter_of kind.Delete = byte "d"
letter_of kind.Create = byte "n"
letter_of kind.Destroy = byte "x"
letter_of kind.Grid = byte "g"
letter_of kind.Grants = byte "l"
letter_of kind.Place = byte "p"
letter_of kind.Hold = byte "h"
letter_of kind.Step = byte "r"
letter_of kind.Close = byte "z"
letter_of kind.Ask = byte "q"
letter_of kind.Reopen = byte "o"

-- a field: `s` for a subject's type or `o` for an object's, or a number
pub data Field : Type 0 where
  type_kind : TypeKind → Field
  number : ℕ → Field

-- the fields of a line, in their order
abbrev pub fields_of : AbstractLine → List Field
fields_of (declares k) = type_kind k ∷ []
fields_of (opens types) = map number types
fields_of (tests right row column) = number right ∷ number row ∷ number column ∷ []
fields_of (enters right row column) = number right ∷ number row ∷ number column ∷ []
fields_of (deletes right row column) = number right ∷ number row ∷ number column ∷ []
fields_of (creates parameter) = number parameter ∷ []
fields_of (destroys parameter) = number parameter ∷ []
fields_of (grid places) = number places ∷ []
fields_of (grants places records) = number places ∷ number records ∷ []
fields_of (fills place type-number) = number place ∷ number type-number ∷ []
fields_of (holds right row column) = number right ∷ number row ∷ number column ∷ []
fields_of (steps command places) = number command ∷ map number places
fields_of closes = []
fields_of (asks right row column) = number right ∷ number row ∷ number column ∷ []
fields_of reopens = []

-- a number is spelled in decimal digits, the first of which is 0 only in 0 itself
abbrev pub spell_field : Field → List ℕ
spell_field (type_kind Subject) = codes "s"
spell_field (type_kind Object) = codes "o"
spell_field (number n) = decimal n

-- each field after one space
abbrev pub spell_fields : List Field → List ℕ
spell_fields [] = []
spell_fields (f ∷ fs) = byte " " ∷ (spell_field f ++ spell_fields fs)

abbrev pub spell : AbstractLine → List ℕ
spell ℓ = letter_of (kind_of ℓ) ∷ spell_fields (fields_of ℓ)

-- a number of a line has at most 4 digits
abbrev pub WritableField : Field → Type 0
WritableField (type_kind k) = Unit {0}
WritableField (number n) = n ≤ 9999

abbrev pub Writable : AbstractLine → Type 0
Writable ℓ = AllByRecursion WritableField (fields_of ℓ)

-- the bytes spell the line ℓ
abbrev pub Spells : List ℕ → AbstractLine → Type 0
Spells bytes ℓ = Writable ℓ × (spell ℓ ≡ bytes)
