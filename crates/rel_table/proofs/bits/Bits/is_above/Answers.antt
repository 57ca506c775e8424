use Rattle.rel_table.proofs.Prelude.{◌≡◌, ◌∙◌, ap, sym, subst, length, div_ceil, is_above, values_of, IsPacked, Compares}
use Rattle.rel_table.proofs.BitLemmas.{count_of}
use Rattle.rel_table.proofs.AboveLemmas.{compared}
use Rattle.rel_table.proofs.bits.Bits.is_above.Goals as goal

pub has_first_other-requires : goal.has_first_other-requires
has_first_other-requires c =
    let xs = c.self.inside.words.items in
    let ys = c.other.inside.words.items in
    let n = c.self.inside.count in
    let same : c.other.inside.count ≡ n = count_of ys c.other.inside.count _ c.other.view_is ∙ sym c.requires ∙ sym (count_of xs n _ c.self.view_is) in
    ap length c.deref.ensures.value ∙ c.self.invariant.long ∙ ap (λ k. div_ceil k 64) (sym same) ∙ sym c.other.invariant.long ∙ sym (ap length c.deref-2.ensures.value)

pub returns : goal.returns
returns c =
    let xs = c.self.inside.words.items in
    let ys = c.other.inside.words.items in
    let n = c.self.inside.count in
    let same : c.other.inside.count ≡ n = count_of ys c.other.inside.count _ c.other.view_is ∙ sym c.requires ∙ sym (count_of xs n _ c.self.view_is) in
    compared xs ys n c.has_first_other.result c.self.invariant (subst (IsPacked ys) same c.other.invariant)
    (subst (λ ws. Compares ws ys c.has_first_other.result) c.deref.ensures.value
    (subst (λ ws. Compares c.deref.result.now ws c.has_first_other.result) c.deref-2.ensures.value c.has_first_other.ensures))
    ∙ (λ i. is_above (c.self.view_is i) ((ap (values_of ys) (sym same) ∙ c.other.view_is) i))
