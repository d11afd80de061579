-- Lists of grants of which each is entered on what the one before it left.
use Rattle.std.proofs.Common.{◌≡◌, ℕ, ◌+◌, ◌<◌, List, [], ◌∷◌, ◌++◌, length, get_or, take, sym, refl, subst}
use Rattle.std.proofs.lemmas.List.{take_more}
use Rattle.matrix.specs.Standing.{Meaning}
use Rattle.matrix.specs.Refusals.{enter_refusal}
use Rattle.matrix.specs.Calls.{Entered}
use Rattle.matrix.specs.Enters.{AllEntered}
use Rattle.matrix.specs.Enters.AllEntered.{none, more}
use Rattle.matrix.specs.declared.grants.Grant.{Grant}

entered_last : {m l n : Meaning} {gs : List Grant} (g : Grant) → AllEntered m gs l → enter_refusal l g ≡ 0 → Entered l g n → AllEntered m (gs ++ (g ∷ [])) n
entered_last {m} {l} {n} g (none e) ok made =
    more (subst (λ (x : Meaning). enter_refusal x g ≡ 0) e ok) (subst (λ (x : Meaning). Entered x g n) e made) (none refl)
entered_last g (more ok' made' rest) ok made = more ok' made' (entered_last g rest ok made)

-- one grant more of a list
pub entered-more : {m l n : Meaning} (gs : List Grant) (i : ℕ) (d : Grant) → i < length gs → AllEntered m (take i gs) l
    → enter_refusal l (get_or gs i d) ≡ 0 → Entered l (get_or gs i d) n → AllEntered m (take (i + 1) gs) n
entered-more {m} {l} {n} gs i d lt so_far ok made =
    subst (λ (xs : List Grant). AllEntered m xs n) (sym (take_more gs i d lt)) (entered_last (get_or gs i d) so_far ok made)
