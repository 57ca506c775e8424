use Rattle.rel_table.proofs.Prelude.{sym, ◌∙◌, ap, ◌<◌, ◌/◌, ◌%◌, ◌^◌, ◌*◌, ◌+◌, ◌-◌, nat_eq, length, false, slice_index_or, arith, bit_or, bit_at, pow_pos, get_or_read}
use Rattle.rel_table.proofs.BitLemmas.{count_of, get_or-values_of, word_within}
use Rattle.rel_table.proofs.Rows.{row_in_one, row_in_two}
use Rattle.rel_table.proofs.bits.Bits.row.Goals as goal

pub index-requires : goal.index-requires
index-requires c =
    let words = c.self.inside.words.items in
    let count = count_of words c.self.inside.count _ c.self.view_is in
    let low : c.args.at < c.self.inside.count = (let r = c.requires.within in let s = c.requires.some in omega arith) in
    let ok = c.self.inside.words.ok in
    omega (arith, ok, word_within words c.self.inside.count c.args.at c.self.invariant.long low)

pub index-requires-else-shift-count-le64 : goal.index-requires-else-shift-count-le64
index-requires-else-shift-count-le64 c =
    let words = c.self.inside.words.items in
    let count = count_of words c.self.inside.count _ c.self.view_is in
    let ok = c.self.inside.words.ok in
    let long = c.self.invariant.long in
    let r = c.requires.within in
    omega (arith, ok, long, r, count)

pub returns-then-shift-count-le64 : goal.returns-then-shift-count-le64
returns-then-shift-count-le64 c = λ k low.
    (let words = c.self.inside.words.items in
    let count = count_of words c.self.inside.count _ c.self.view_is in
    let first : c.args.at < c.self.inside.count = (let r = c.requires.within in let s = c.requires.some in omega arith) in
    let inside : c.args.at + k < c.self.inside.count = (let r = c.requires.within in omega arith) in
    let within = word_within words c.self.inside.count c.args.at c.self.invariant.long first in
    ap (λ w. nat_eq (bit_at (w / 2 ^ (c.args.at % 64)) k) 1) (get_or_read words (c.args.at / 64) c.index.result.now within c.index.ensures 0)
    ∙ row_in_one words c.args.at k (omega arith)
    ∙ sym (get_or-values_of words c.self.inside.count (c.args.at + k) inside)
    ∙ ap (λ values. slice_index_or values (c.args.at + k) false) c.self.view_is)

pub returns-else-shift-count-le64 : goal.returns-else-shift-count-le64
returns-else-shift-count-le64 c = λ k low.
    (let words = c.self.inside.words.items in
    let count = count_of words c.self.inside.count _ c.self.view_is in
    let long = c.self.invariant.long in
    let r = c.requires.within in
    let few = c.requires.few in
    let first : c.args.at < c.self.inside.count = (let s = c.requires.some in omega arith) in
    let inside : c.args.at + k < c.self.inside.count = omega arith in
    let within = word_within words c.self.inside.count c.args.at c.self.invariant.long first in
    let next : c.args.at / 64 + 1 < length words = omega (arith, long, r, count) in
    let one = get_or_read words (c.args.at / 64) c.index.result.now within c.index.ensures 0 in
    let two = get_or_read words (c.args.at / 64 + 1) c.index-else-shift-count-le64.result.now next c.index-else-shift-count-le64.ensures 0 in
    (λ i. nat_eq (bit_at (bit_or (one i / 2 ^ (c.args.at % 64)) (two i * 2 ^ (64 - c.args.at % 64) % 2 ^ 64)) k) 1)
    ∙ row_in_two words c.args.at k (omega arith) (c.self.invariant.fits (c.args.at / 64)) (pow_pos (64 - c.args.at % 64))
    ∙ sym (get_or-values_of words c.self.inside.count (c.args.at + k) inside)
    ∙ ap (λ values. slice_index_or values (c.args.at + k) false) c.self.view_is)
