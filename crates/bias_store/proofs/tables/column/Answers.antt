use Rattle.bias_store.proofs.Prelude.{◌≡◌, get_or, arith, refl, ◌∙◌, ap, numbers, filter, length, ◌==◌, bit_at, ones_of-listed}
use Rattle.bias_store.proofs.PairPlaces.{pair_more}
use Rattle.bias_store.proofs.tables.column.Goals as goal

pub loop-r-preserved : goal.loop-r-preserved
loop-r-preserved c =
    let few = c.requires.few in
    pair_more (λ k. bit_at (get_or c.args.words.now k 0) c.args.y == 1) (get_or c.args.words.now c.loop-r.r 0) c.args.y c.loop-r.r c.loop-r.bits _
    (let low = c.loop-r-test.true in omega arith) refl refl c.loop-r.invariant

pub returns : goal.returns
returns c =
    let few = c.requires.few in
    let end = c.loop-r-test.false in
    let most = c.loop-r.auto.r-end in
    let last : c.loop-r.r ≡ length c.args.words.now = omega arith in
    ones_of-listed c.loop-r.bits c.loop-r.r (λ r. bit_at (get_or c.args.words.now r 0) c.args.y == 1) (omega arith) c.loop-r.invariant.low c.loop-r.invariant.high
    ∙ ap (λ n. filter (λ r. bit_at (get_or c.args.words.now r 0) c.args.y == 1) (numbers n)) last
