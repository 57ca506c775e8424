use Rattle.bias_store.proofs.Prelude.{ℕ, List, length, slice_set, subst, sym, ◌∙◌}
use Rattle.bias_store.specs.Made.{IsMadeOfScopes, AreBegun}
use Rattle.bias_store.proofs.Tabled.{begun_new}
use Rattle.bias_store.proofs.tables.Made.begin.Goals.{then-self-size+in_ok-self, else-self-size}
use Rattle.bias_store.proofs.tables.Made.begin.Goals as goal

pub returns-clause-made : goal.returns-clause-made
returns-clause-made c =
    let l = c.args.lang.now in
    elim c.if-self-size.branch [
      | then-self-size+in_ok-self w ↦ (
          let new = w.new_begin-then-self-size.new.self in
          let made = w.in_ok-self.ensures.made in
          subst (IsMadeOfScopes l) (sym w.self-is) (record {
            classes = made.classes;
            begins = subst (λ (xs : List ℕ). AreBegun l (slice_set new.begins (length xs) w.in_ok-self.field-0) new.masks.items) (sym c.scope-size.ensures.is)
                (begun_new l c.requires.lawful new.begins new.masks.items c.args.s w.in_ok-self.field-0 c.requires.scope (sym c.is_whole.ensures ∙ c.if-not-is_whole.false) made.begins w.in_ok-self.ensures.table);
          }))
      | else-self-size w ↦ subst (IsMadeOfScopes l) (sym w.self-is) c.requires.made
    ]
