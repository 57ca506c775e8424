use Rattle.rel_table.proofs.Prelude.{sym, ◌∙◌, ap, subst, ◌<◌, ◌/◌, ◌%◌, ◌^◌, nat_eq, bit_and, false, slice_index_or, arith, get_or_read}
use Rattle.rel_table.proofs.BitLemmas.{count_of, get_or-values_of, word_within, is_marked-get}
use Rattle.rel_table.proofs.bits.Bits.get.Goals as goal

pub index-requires : goal.index-requires
index-requires c =
    let words = c.self.inside.words.items in
    let low : c.args.at < c.self.inside.count = subst (λ n. c.args.at < n) (sym (count_of words c.self.inside.count _ c.self.view_is)) c.requires in
    let ok = c.self.inside.words.ok in
    omega (arith, ok, word_within words c.self.inside.count c.args.at c.self.invariant.long low)

pub returns : goal.returns
returns c =
    let words = c.self.inside.words.items in
    let low : c.args.at < c.self.inside.count = subst (λ n. c.args.at < n) (sym (count_of words c.self.inside.count _ c.self.view_is)) c.requires in
    let within = word_within words c.self.inside.count c.args.at c.self.invariant.long low in
    ap (λ w. nat_eq (bit_and (w / 2 ^ (c.args.at % 64)) 1) 1) (get_or_read words (c.args.at / 64) c.index.result.now within c.index.ensures 0)
    ∙ is_marked-get words c.args.at
    ∙ sym (get_or-values_of words c.self.inside.count c.args.at low)
    ∙ ap (λ values. slice_index_or values c.args.at false) c.self.view_is
