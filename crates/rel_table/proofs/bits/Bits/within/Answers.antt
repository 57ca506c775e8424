use Rattle.rel_table.proofs.Prelude.{◌≡◌, ◌∙◌, ap, sym, subst, list_all, zip, values_of, IsPacked}
use Rattle.rel_table.proofs.BitLemmas.{follows, lacks_none, words_within}
use Rattle.rel_table.proofs.bits.Bits.within.Goals as goal

pub returns-then-self-other : goal.returns-then-self-other
returns-then-self-other c =
    let xs = c.self.inside.words.items in
    let ys = c.other.inside.words.items in
    let n = c.self.inside.count in
    let same : c.other.inside.count ≡ n = sym c.if-self-other.true in
    c.lacks_none.ensures
    ∙ (λ i. list_all lacks_none (zip (c.deref.ensures.value i) (c.deref-then-self-other.ensures.value i)))
    ∙ words_within xs ys n c.self.invariant (subst (IsPacked ys) same c.other.invariant)
    ∙ (λ i. list_all follows (zip (c.self.view_is i) ((ap (values_of ys) (sym same) ∙ c.other.view_is) i)))
