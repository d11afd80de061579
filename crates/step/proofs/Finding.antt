-- What a lawful scheme says of its types, and of its command with a number.
use Rattle.std.proofs.Common.{◌≡◌, ℕ, zero, suc, ◌-◌, ◌≤◌, Bool, true, false, cond, leb, List, [], ◌∷◌, length, Some, None, sym, ap, ◌∙◌, arith}
use Rattle.std.specs.List.{slice_get, list_all}
use Rattle.std.proofs.lemmas.Bool.{and_parts, leb-true}
use Rattle.scheme.specs.Each.{from_to, numbered}
use Rattle.scheme.specs.Lawful.{lawful, lawful_command}
use Rattle.scheme.specs.Rules.{Rules, CommandRules}

every_nth : {X : Type 0} (p : X → Bool) (xs : List X) (i : ℕ) (x : X) → list_all p xs ≡ true → slice_get xs i ≡ Some x → p x ≡ true
every_nth p [] i x all is = absurd (let z : ◌≡◌ {A = ℕ} 0 1 = cc in omega arith)
every_nth p (y ∷ ys) zero x all is = let e : y ≡ x = cc in sym (ap p e) ∙ (and_parts (p y) (list_all p ys) all).0
every_nth p (y ∷ ys) (suc i) x all is = every_nth p ys i x (and_parts (p y) (list_all p ys) all).1 is

pub every-numbered : {X : Type 0} (p : X → Bool) (xs : List X) (number : ℕ) (x : X) → list_all p xs ≡ true → numbered xs number ≡ Some x → p x ≡ true
every-numbered p xs number x all is = every_nth p xs (number - 1) x all (at (leb 1 number) is)
  where
    at : (b : Bool) → cond b (slice_get xs (number - 1)) None ≡ Some x → slice_get xs (number - 1) ≡ Some x
    at true e = e
    at false e = absurd (let z : ◌≡◌ {A = ℕ} 0 1 = cc in omega arith)

pub found_lawful : (s : Rules) (number : ℕ) (c : CommandRules) → lawful s ≡ true → Some c ≡ numbered s.commands number → lawful_command s.types c ≡ true
found_lawful s number c law is =
    every-numbered (lawful_command s.types) s.commands number c
    (and_parts (from_to 1 32 (length s.commands)) _ (and_parts (from_to 1 16 (length s.types)) _ law).1).1 (sym is)

pub few-types : (s : Rules) → lawful s ≡ true → length s.types ≤ 16
few-types s h = let f = and_parts (from_to 1 16 (length s.types)) _ h in leb-true (length s.types) 16 (and_parts (leb 1 (length s.types)) (leb (length s.types) 16) f.0).1
