use Rattle.std.proofs.Common.{◌≡◌, ℕ, ◌*◌, ◌≤◌, length, drop, sym, ap, ◌∙◌, subst}
use Rattle.matrix.specs.Tables.{table_places}
use Rattle.grid.proofs.Blanks.{size_is, sound-blank, opened}
use Rattle.grid.proofs.store.Grid.over.Goals as goal

pub invariant_of-result : goal.invariant_of-result
invariant_of-result c =
    let n : table_places c.new.result ≡ c.args.places = size_is c.new.result c.clear.new.cells c.args.places c.requires.few c.new.ensures.size c.clear.ensures.zeros in
    record { whole = subst (λ (m : ℕ). m * m ≤ length c.clear.new.cells) (sym n) (subst (λ (l : ℕ). c.args.places * c.args.places ≤ l) (sym c.clear.auto.cells) c.requires.whole); sound = sound-blank c.new.result c.clear.new.cells c.args.places c.requires.few c.new.ensures.size c.clear.ensures.zeros }

pub returns : goal.returns
returns c =
    let n : table_places c.new.result ≡ c.args.places = size_is c.new.result c.clear.new.cells c.args.places c.requires.few c.new.ensures.size c.clear.ensures.zeros in
    record {
      means = opened c.new.result c.clear.new.cells c.args.places c.requires.few c.new.ensures.size c.clear.ensures.zeros c.new.ensures.empty;
      rest =
          ap (λ (m : ℕ). drop (m * m) c.clear.new.cells) n ∙ c.clear.ensures.rest
          ∙ sym (ap (λ (m : ℕ). drop (m * m) c.args.memory.now) n);
    }
