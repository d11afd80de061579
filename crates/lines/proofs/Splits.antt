-- What a split at the first space says of a list of bytes.
use Rattle.std.proofs.Common.{◌≡◌, ℕ, not, zero, suc, ◌<◌, ◌≤◌, List, [], ◌∷◌, ◌++◌, length, get_or, take, drop, decimal, sym, ◌∙◌, arith}
use Rattle.std.specs.Bool.{◌==◌}
use Rattle.std.specs.List.{position_or_len}
use Rattle.std.proofs.lemmas.List.{get_or-take, length-take-le}
use Rattle.std.proofs.lemmas.List.Sums.{fails_before_first, passes_at_first, prefix_len-le-length}
use Rattle.std.proofs.lemmas.Bool.Decides.{nat_tests}
use Rattle.std.proofs.ByRecursion.{All-from_get_or}
use Rattle.lines.specs.Fields.{Ended, Spaceless, Leads, Numeral}
use Rattle.lines.proofs.Numerals.{spaceless_decimal}
use Rattle.lines.proofs.Spellings.{apart, tails}

pub spaceless_front : (xs : List ℕ) (n : ℕ) → n ≤ length xs → ((k : ℕ) → k < n → get_or xs k 0 ≡ 32 → ⊥) → Spaceless (take n xs)
spaceless_front xs n l h =
    All-from_get_or (λ b. b ≡ 32 → ⊥) (take n xs) 0
    (λ i k e. let m : i < n = omega (arith, length-take-le n xs l) in h i m (sym (get_or-take n xs i 0 m) ∙ e))

pub ended_back : (xs : List ℕ) (n : ℕ) → (n < length xs → get_or xs n 0 ≡ 32) → Ended (drop n xs)
ended_back xs zero h = grind arith
ended_back [] (suc n) h = tt
ended_back (x ∷ xs) (suc n) h = ended_back xs n (λ l. h (omega arith))

-- the place of the first space, or the end
abbrev first_space : List ℕ → ℕ
first_space xs = position_or_len (λ b. b == 32) xs

pub spaceless_first : (xs : List ℕ) → Spaceless (take (first_space xs) xs)
spaceless_first xs =
    spaceless_front xs (first_space xs) (prefix_len-le-length (λ b. not (b == 32)) xs)
    (λ k l e. let f = fails_before_first (λ b. b == 32) xs k 0 l in grind (arith, nat_tests))

pub ended_first : (xs : List ℕ) → Ended (drop (first_space xs) xs)
ended_first xs = ended_back xs (first_space xs) (λ l. let e = passes_at_first (λ b. b == 32) xs 0 l in grind (arith, nat_tests))

-- where the bytes up to the next space spell no number, no number leads
pub no_lead : (bytes inner field rest : List ℕ) → 32 ∷ inner ≡ bytes → field ++ rest ≡ inner → Spaceless field → Ended rest → ((n : ℕ) → Numeral field n → ⊥) → (p : ℕ × List ℕ) → Leads bytes p → ⊥
no_lead bytes inner field rest e f s t h p is =
    let g = apart (decimal p.0) field p.1 rest (spaceless_decimal p.0 is.0) s is.1 t (tails (is.2 ∙ sym e) ∙ sym f) in
    h p.0 (is.0, g.0)
