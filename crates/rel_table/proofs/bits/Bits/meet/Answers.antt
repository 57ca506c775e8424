use Rattle.rel_table.proofs.Prelude.{◌≡◌, ℕ, List, sym, ◌∙◌, ap, subst, meet, values_of, IsPacked}
use Rattle.rel_table.proofs.BitLemmas.{both, length-values_of, count_of, both_packed, both_are}
use Rattle.rel_table.proofs.bits.Bits.meet.Goals as goal

pub invariant_of-result : goal.invariant_of-result
invariant_of-result c =
    let xs = c.self.inside.words.items in
    let ys = c.other.inside.words.items in
    let n = c.self.inside.count in
    let same : c.other.inside.count ≡ n = count_of ys c.other.inside.count _ c.other.view_is ∙ sym c.requires ∙ sym (count_of xs n _ c.self.view_is) in
    subst (λ (ws : List ℕ). IsPacked ws n) (sym (c.in_ok-words.ensures ∙ (λ i. both (c.deref.ensures.value i) (c.deref-2.ensures.value i))))
    (both_packed xs ys n c.self.invariant (subst (IsPacked ys) same c.other.invariant))

pub returns-clause-is : goal.returns-clause-is
returns-clause-is c =
    let xs = c.self.inside.words.items in
    let ys = c.other.inside.words.items in
    let n = c.self.inside.count in
    let same : c.other.inside.count ≡ n = count_of ys c.other.inside.count _ c.other.view_is ∙ sym c.requires ∙ sym (count_of xs n _ c.self.view_is) in
    ap (λ (ws : List ℕ). values_of ws n) (c.in_ok-words.ensures ∙ (λ i. both (c.deref.ensures.value i) (c.deref-2.ensures.value i)))
    ∙ both_are xs ys n c.self.invariant (subst (IsPacked ys) same c.other.invariant)
    ∙ (λ i. meet (c.self.view_is i) ((ap (values_of ys) (sym same) ∙ c.other.view_is) i))

pub returns-clause-len : goal.returns-clause-len
returns-clause-len c = length-values_of c.in_ok-words.words.items c.self.inside.count ∙ count_of c.self.inside.words.items c.self.inside.count _ c.self.view_is
