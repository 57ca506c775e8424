use Rattle.bias_store.proofs.Prelude.{◌≡◌, [], false, get_or, arith, refl, sym, subst, ◌∙◌, ap, numbers, filter, length, ◌==◌, bit_at, ones_of-listed}
use Rattle.std.proofs.Common.{◌/◌, ◌%◌}
use Rattle.bias_store.proofs.PairPlaces.{pair_bit, pair_more}
use Rattle.bias_store.proofs.tables.pair_mask.Goals as goal

pub loop-r-preserved : goal.loop-r-preserved
loop-r-preserved c = λ pairs are.
    let r = c.loop-r.r in
    let rows = c.pair_rows.result.now in
    let table = get_or pairs (get_or c.args.tables.now r 0) [] in
    let few = c.requires.few in
    pair_more (λ k. get_or (get_or pairs (get_or c.args.tables.now k 0) []) c.args.place false) (get_or rows (c.args.place / c.from-d.result) 0) (c.args.place % c.from-d.result) r c.loop-r.relations _
    (let low = c.loop-r-test.true in omega arith) refl
    (subst (λ n. (bit_at (get_or rows (c.args.place / n) 0) (c.args.place % n) == 1) ≡ get_or table c.args.place false) (sym (c.from-d.ensures ∙ c.d.ensures.is))
    (pair_bit c.args.lang.now.value_count c.args.place _ rows table c.requires.place (let some = c.d.ensures.lawful.some_value in omega arith) refl (c.pair_rows.ensures.masks pairs are)))
    (c.loop-r.invariant pairs are)

pub returns : goal.returns
returns c = λ pairs are.
    let is = c.loop-r.invariant pairs are in
    let few = c.requires.few in
    let end = c.loop-r-test.false in
    let most = c.loop-r.auto.r-end in
    let last : c.loop-r.r ≡ length c.args.tables.now = omega arith in
    ones_of-listed c.loop-r.relations c.loop-r.r (λ r. get_or (get_or pairs (get_or c.args.tables.now r 0) []) c.args.place false) (omega arith) is.low is.high
    ∙ ap (λ n. filter (λ r. get_or (get_or pairs (get_or c.args.tables.now r 0) []) c.args.place false) (numbers n)) last
