-- A field that leads, and the fields that follow it.
use Rattle.std.proofs.Common.{◌≡◌, ℕ, ◌+◌, ◌*◌, ◌<◌, ◌≤◌, List, [], ◌∷◌, ◌++◌, map, length, decimal, sym, refl, ap, ◌∙◌, arith}
use Rattle.std.specs.List.{AllByRecursion}
use Rattle.std.proofs.lemmas.Fmt.{decimal_nonempty}
use Rattle.std.proofs.ByRecursion.{All-append}
use Rattle.std.proofs.lemmas.List.{length-append, append_assoc, append-nil, map-append}
use Rattle.lines.specs.Spelling.{Field, number, spell_fields, WritableField}
use Rattle.lines.specs.Fields.{NumberFields, Leads}
use Rattle.lines.proofs.Numerals.{spaceless_decimal}
use Rattle.lines.proofs.Spellings.{apart, tails, ended_fields}

-- where no number leads, the bytes are the fields of no numbers, or of none
pub none_leads : (bytes : List ℕ) → ((p : ℕ × List ℕ) → Leads bytes p → ⊥) → (ns : List ℕ) → NumberFields bytes ns → [] ≡ bytes
none_leads bytes h [] is = is.1
none_leads bytes h (n ∷ ns) is = absurd (h (n, spell_fields (map number ns)) (is.0.0, ended_fields (map number ns), is.1))

module _ (bytes : List ℕ) (n : ℕ) (rest : List ℕ) (lead : Leads bytes (n, rest)) where
  pub leads_shorter : 2 + length rest ≤ length bytes
  leads_shorter = omega (arith, simp length-append at (ap length lead.2), decimal_nonempty n (omega arith))

  -- the fields after the first are what follows it
  pub others_follow : (m : ℕ) (ms : List ℕ) → NumberFields bytes (m ∷ ms) → NumberFields rest ms
  others_follow m ms is =
      let g = apart (decimal n) (decimal m) rest (spell_fields (map number ms)) (spaceless_decimal n lead.0) (spaceless_decimal m is.0.0) lead.1 (ended_fields (map number ms)) (tails (lead.2 ∙ sym is.1)) in
      (is.0.1, sym g.1)

  follow : (ms : List ℕ) → NumberFields bytes ms → (ks : List ℕ) × NumberFields rest ks
  follow [] is = absurd (omega (arith, ap length is.1, leads_shorter))
  follow (m ∷ ms) is = (ms, others_follow m ms is)

-- fields, and then others
spell-append : (fs gs : List Field) → spell_fields (fs ++ gs) ≡ spell_fields fs ++ spell_fields gs
spell-append [] gs = refl
spell-append (f ∷ fs) gs = simp (spell-append fs gs, append_assoc)

long_fields : (ns : List ℕ) → AllByRecursion WritableField (map number ns) → 2 * length ns ≤ length (spell_fields (map number ns))
long_fields [] w = omega arith
long_fields (n ∷ ns) w = omega (arith, length-append (decimal n) (spell_fields (map number ns)), decimal_nonempty n (omega arith), long_fields ns w.1)

-- the loop over the fields: ns are read, rest is left
pub record Reading (bytes ns rest : List ℕ) : Type 0 where
  pub writable : AllByRecursion WritableField (map number ns)
  pub spelled : spell_fields (map number ns) ++ rest ≡ bytes
  pub left : (ms : List ℕ) → NumberFields bytes ms → (ks : List ℕ) × NumberFields rest ks

module _ {bytes ns rest : List ℕ} (so : Reading bytes ns rest) where
  pub room_left : 0 < length rest → 2 * length ns < length bytes
  room_left l = omega (arith, simp length-append at (ap length so.spelled), long_fields ns so.writable)

  pub go_on_reading : (n : ℕ) (more : List ℕ) → Leads rest (n, more) → Reading bytes (ns ++ (n ∷ [])) more
  go_on_reading n more lead =
      record {
        writable = rw map-append (All-append WritableField (map number ns) (number n ∷ []) so.writable (lead.0, tt));
        spelled = simp (map-append, spell-append, append_assoc, append-nil) (rw lead.2 so.spelled);
        left = λ ms is. let k = so.left ms is in follow rest n more lead k.0 k.1;
      }
