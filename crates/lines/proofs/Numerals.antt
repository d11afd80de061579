-- Numbers of at most 4 digits, and the bytes that spell them.
use Rattle.std.proofs.Common.{◌≡◌, ℕ, ◌≤◌, List, [], ◌∷◌, length, get_or, Some, None, decimal, Option, ap, subst, arith, MatchOption}
use Rattle.std.specs.Str.Parse.{AllDigits, digits_value}
use Rattle.std.proofs.ByRecursion.{All-from_get_or}
use Rattle.std.proofs.lemmas.Str.Parse.{IsNumeralModel, numerals_by_value, tells_digits, digit_at, digits_value_short}
use Rattle.std.proofs.lemmas.Fmt.{decimal-digits_value, decimal_nonempty, decimal_digit, digits_decimal, length-decimal-le, first_decimal, decimal_injective}
use Rattle.lines.specs.Found.{Found}
use Rattle.lines.specs.Fields.{Numeral, Spaceless}

own : IsNumeralModel (AllDigits 10) (digits_value 10)
own = numerals_by_value (AllDigits 10) tells_digits

module _ (bytes : List ℕ) (n : ℕ) (is : Numeral bytes n) where
  pub numeral_length : (1 ≤ length bytes) × (length bytes ≤ 4)
  numeral_length =
      let a = decimal_nonempty n (omega arith) in
      let b = length-decimal-le 4 n (omega arith) (omega arith) (omega arith) in
      (grind arith, grind arith)

  pub numeral_lead : get_or bytes 0 0 ≡ 48 → length bytes ≡ 1
  numeral_lead z = grind (arith, decimal_digit, first_decimal)

  numeral_digits : AllDigits 10 bytes
  numeral_digits = subst (AllDigits 10) is.1 (digits_decimal own n (omega arith))

pub found_numeral : (bytes : List ℕ) (o : Option ℕ) → MatchOption o (AllDigits 10 bytes → ⊥) (λ n. AllDigits 10 bytes × (n ≡ digits_value 10 bytes)) → 1 ≤ length bytes → length bytes ≤ 4 → (get_or bytes 0 0 ≡ 48 → length bytes ≡ 1) → Found (Numeral bytes) o
found_numeral bytes None h some few lead = λ n is. h (numeral_digits bytes n is)
found_numeral bytes (Some n) h some few lead =
    let small = digits_value_short own bytes 4 h.0 few in
    let back = decimal-digits_value own bytes h.0 some lead (omega arith) in
    (omega arith, cc)

pub spaceless_decimal : (n : ℕ) → n ≤ 9999 → Spaceless (decimal n)
spaceless_decimal n small =
    let d = digits_decimal own n (omega arith) in
    All-from_get_or (λ b. b ≡ 32 → ⊥) (decimal n) 0 (λ i l e. omega (arith, digit_at (decimal n) i d l))

pub same_number : (m n : ℕ) → m ≤ 9999 → n ≤ 9999 → decimal m ≡ decimal n → m ≡ n
same_number m n p q e = decimal_injective m n (omega arith) (omega arith) e

-- a number is not spelled by a byte that is no digit
pub no_letter : (n b : ℕ) → n ≤ 9999 → 58 ≤ b → decimal n ≡ b ∷ [] → ⊥
no_letter n b small big e =
    let d = digit_at (decimal n) 0 (digits_decimal own n (omega arith)) (decimal_nonempty n (omega arith)) in
    let at : get_or (decimal n) 0 0 ≡ b = ap (λ xs. get_or xs 0 0) e in
    omega (arith, d.1)
