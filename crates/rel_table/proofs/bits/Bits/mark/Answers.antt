use Rattle.rel_table.proofs.Prelude.{ℕ, sym, ◌∙◌, ap, subst, ◌*◌, ◌<◌, ◌/◌, ◌%◌, ◌^◌, set, true, arith, bit_or, get_or_read, values_of, IsPacked}
use Rattle.rel_table.proofs.BitLemmas.{count_of, word_within, marked_packed, marked_are}
use Rattle.rel_table.proofs.bits.Bits.mark.Goals as goal

pub index_mut-requires : goal.index_mut-requires
index_mut-requires c =
    let words = c.self.inside.words.items in
    let low : c.args.at < c.self.inside.count = subst (λ n. c.args.at < n) (sym (count_of words c.self.inside.count _ c.self.view_is)) c.requires in
    let ok = c.self.inside.words.ok in
    omega (arith, ok, word_within words c.self.inside.count c.args.at c.self.invariant.long low)

pub invariant_of-self : goal.invariant_of-self
invariant_of-self c =
    let words = c.self.inside.words.items in
    let low : c.args.at < c.self.inside.count = subst (λ n. c.args.at < n) (sym (count_of words c.self.inside.count _ c.self.view_is)) c.requires in
    let within = word_within words c.self.inside.count c.args.at c.self.invariant.long low in
    subst (λ (w : ℕ). IsPacked (set words (c.args.at / 64) (bit_or w (1 * 2 ^ (c.args.at % 64) % 2 ^ 64))) c.self.inside.count)
    (sym (get_or_read words (c.args.at / 64) c.index_mut.result.now within c.index_mut.ensures.value 0))
    (marked_packed words c.self.inside.count c.args.at low c.self.invariant)

pub returns : goal.returns
returns c =
    let words = c.self.inside.words.items in
    let low : c.args.at < c.self.inside.count = subst (λ n. c.args.at < n) (sym (count_of words c.self.inside.count _ c.self.view_is)) c.requires in
    let within = word_within words c.self.inside.count c.args.at c.self.invariant.long low in
    ap (λ (w : ℕ). values_of (set words (c.args.at / 64) (bit_or w (1 * 2 ^ (c.args.at % 64) % 2 ^ 64))) c.self.inside.count)
    (get_or_read words (c.args.at / 64) c.index_mut.result.now within c.index_mut.ensures.value 0)
    ∙ marked_are words c.self.inside.count c.args.at low c.self.invariant
    ∙ ap (λ values. set values c.args.at true) c.self.view_is
