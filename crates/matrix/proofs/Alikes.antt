-- When two grants are the same.
use Rattle.std.proofs.Common.{◌≡◌, ℕ, true, eqb, ap, ◌∙◌, arith}
use Rattle.std.proofs.lemmas.Bool.{and_parts, eqb-true}
use Rattle.std.proofs.lemmas.Bool.Decides.{nat_tests}
use Rattle.matrix.specs.Grants.{same_grant}
use Rattle.matrix.specs.Count.{grant}
use Rattle.matrix.specs.declared.grants.Grant.{Grant}

pub same_self : (g : Grant) → same_grant g g ≡ true
same_self g = grind (arith, nat_tests)

pub same_flip : (x y : Grant) → same_grant x y ≡ same_grant y x
same_flip x y = grind (arith, nat_tests)

-- the same grants are equal
pub same_is : (x y : Grant) → same_grant x y ≡ true → x ≡ y
same_is x y h =
    let f = and_parts (eqb x.right y.right) _ h in
    let g = and_parts (eqb x.row y.row) _ f.1 in
    ap (λ (z : ℕ). grant z x.row x.column) (eqb-true x.right y.right f.0)
    ∙ ap (λ (z : ℕ). grant y.right z x.column) (eqb-true x.row y.row g.0)
    ∙ ap (λ (z : ℕ). grant y.right y.row z) (eqb-true x.column y.column g.1)
