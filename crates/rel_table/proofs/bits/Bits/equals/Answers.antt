use Rattle.rel_table.proofs.Prelude.{◌≡◌, ℕ, List, sym, ◌∙◌, ap, subst, eqb-true, eq-eqb, values_of, IsPacked}
use Rattle.rel_table.proofs.BitLemmas.{count_of, same_words}
use Rattle.rel_table.proofs.bits.Bits.equals.Goals as goal

pub returns-then-self-other : goal.returns-then-self-other
returns-then-self-other c =
    let xs = c.self.inside.words.items in
    let ys = c.other.inside.words.items in
    let n = c.self.inside.count in
    let same : c.other.inside.count ≡ n = sym c.if-self-other.true in
    let other = ap (values_of ys) (sym same) ∙ c.other.view_is in (
      λ on. sym c.self.view_is ∙ ap (λ (ws : List ℕ). values_of ws n) (sym c.deref.ensures.value ∙ c.are_same.ensures.0 on ∙ c.deref-then-self-other.ensures.value) ∙ other,
      λ e. c.are_same.ensures.1 (c.deref.ensures.value ∙ same_words xs ys n c.self.invariant (subst (IsPacked ys) same c.other.invariant) (c.self.view_is ∙ e ∙ sym other)
          ∙ sym c.deref-then-self-other.ensures.value),
    )

pub returns-else-self-other : goal.returns-else-self-other
returns-else-self-other c =
    let xs = c.self.inside.words.items in
    let ys = c.other.inside.words.items in (
      λ on. absurd (c.if-self-other.false (eqb-true _ _ on)),
      λ e. eq-eqb _ _ (count_of xs c.self.inside.count _ (c.self.view_is ∙ e) ∙ sym (count_of ys c.other.inside.count _ c.other.view_is)),
    )
