use Rattle.rel_table.proofs.Prelude.{◌≡◌, ℕ, List, length, false, replicate, sym, subst, ◌∙◌, ap, length-replicate, div_ceil, values_of, IsPacked}
use Rattle.std.specs.Vec.{with_items}
use Rattle.std.proofs.lemmas.List.{with_items_is}
use Rattle.rel_table.proofs.BitLemmas.{count_of, zeros, zeros_packed, zeros_are}
use Rattle.rel_table.proofs.bits.Bits.clear.Goals as goal

erased : (c : goal.After-self-1) → (with_items c.self.inside.words c.erase.new.words).items ≡ zeros (length c.deref_mut.result.now)
erased c =
    with_items_is c.self.inside.words c.erase.new.words (ap length c.erase.ensures ∙ length-replicate (length c.deref_mut.result.now) 0 ∙ ap length c.deref_mut.ensures.value ∙ sym c.self.inside.words.ok.0)
    ∙ c.erase.ensures

pub invariant_of-self : goal.invariant_of-self
invariant_of-self c =
    subst (λ (ws : List ℕ). IsPacked ws c.self.inside.count) (sym (erased c))
    (zeros_packed (length c.deref_mut.result.now) c.self.inside.count (ap length c.deref_mut.ensures.value ∙ c.self.invariant.long))

pub returns : goal.returns
returns c =
    ap (λ (ws : List ℕ). values_of ws c.self.inside.count) (erased c)
    ∙ zeros_are (length c.deref_mut.result.now) c.self.inside.count
    ∙ ap (λ n. replicate n false) (count_of c.self.inside.words.items c.self.inside.count _ c.self.view_is)
