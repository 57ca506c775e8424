use Rattle.cert_check.proofs.Prelude.{◌≡◌, ℕ, ◌+◌, ◌<◌, ◌^◌, length, get_or, Some, refl, ◌∙◌, arith, slice_set, slice_index_or, violates, items_on}
use Rattle.std.specs.Prelude.{bit_and}
use Rattle.std.specs.Int.{bit_not, w64}
use Rattle.std.proofs.lemmas.Nat.{and_le_l}
use Rattle.cert_check.proofs.Finding.{all_fail}
use Rattle.cert_check.proofs.Firsts.{first_in_row, item_known, row_of, row_there}
use Rattle.cert_check.proofs.OnNext.{are_on}
use Rattle.cert_check.proofs.Values.{IsFoundSoFar, found_begins, found_more, all_found, none_free, value_small, item_is}
use Rattle.cert_check.proofs.siblings.Siblings.of.Goals as goal
use Rattle.cert_check.proofs.siblings.Siblings.of.Goals.{After-put}

-- the items of the row have the variable in their scope
row_is : (c : After-put) → c.items-row.result.now ≡ items_on c.args.lang.now c.args.net.now c.args.v
row_is c = row_of c.args.lang.now c.args.net.now c.args.by.now c.items-row.result.now c.args.v c.requires.by c.requires.known c.items-row.ensures

-- one item more is looked at
more : (c : After-put) → IsFoundSoFar c.args.lang.now c.args.net.now c.args.v c.args.e.now c.items-row.result.now (c.loop-i.i-index + 1) (bit_and c.loop-i.free (bit_not w64 (bit_and c.violating.result c.loop-i.free))) c.put.new.items
more c =
    let l = c.args.lang.now in
    let net = c.args.net.now in
    let low = item_known l net c.args.v c.items-row.result.now c.loop-i.i-index (row_is c) c.loop-i-test.true in
    found_more l net c.args.v c.args.e.now c.items-row.result.now c.loop-i.i-index c.loop-i.free c.violating.result (bit_and c.violating.result c.loop-i.free) c.loop-i.items c.put.new.items
    c.loop-i.invariant c.loop-i-test.true refl (omega (arith, and_le_l c.violating.result c.loop-i.free, c.violating.type_inv))
    (λ x at. value_small l c.requires.lawful c.args.v x c.requires.known at)
    (λ x at. c.violating.ensures x at ∙ item_is l net (slice_set c.args.e.now c.args.v (Some x)) (get_or c.items-row.result.now c.loop-i.i-index 0) (record { scope = 0; rel = 0 }) low)
    c.put.ensures

pub bounds-net-i : goal.bounds-net-i
bounds-net-i c =
    let is = row_of c.args.lang.now c.args.net.now c.args.by.now c.items-row.result.now c.args.v c.requires.by c.requires.known c.items-row.ensures in
    item_known c.args.lang.now c.args.net.now c.args.v c.items-row.result.now c.loop-i.i-index is c.loop-i-test.true

pub violating-requires-clause-candidate : goal.violating-requires-clause-candidate
violating-requires-clause-candidate c =
    let is = row_of c.args.lang.now c.args.net.now c.args.by.now c.items-row.result.now c.args.v c.requires.by c.requires.known c.items-row.ensures in
    c.requires.network (get_or c.items-row.result.now c.loop-i.i-index 0) _ (item_known c.args.lang.now c.args.net.now c.args.v c.items-row.result.now c.loop-i.i-index is c.loop-i-test.true)

pub items-row-requires : goal.items-row-requires
items-row-requires c = row_there c.args.lang.now c.args.net.now c.args.by.now c.args.v c.requires.by c.requires.known

pub loop-i-init : goal.loop-i-init
loop-i-init c = found_begins c.args.lang.now c.args.net.now c.args.v c.args.e.now c.items-row.result.now c.values_of-free.result _ c.values_of-free.ensures

pub loop-i-preserved : goal.loop-i-preserved
loop-i-preserved c = more (goal.at.loop-i-preserved c).After-put

pub returns-then-free-eq0 : goal.returns-then-free-eq0
returns-then-free-eq0 c = λ x at.
    let l = c.args.lang.now in
    let net = c.args.net.now in
    let here = (goal.at.returns-then-free-eq0 c).After-put in
    none_free l net c.args.v c.args.e.now c.items-row.result.now (c.loop-i.i-index + 1) (bit_and c.loop-i.free (bit_not w64 (bit_and c.violating.result c.loop-i.free))) c.put.new.items (more here) c.if-free-eq0.true x at
    ∙ first_in_row l net (slice_set c.args.e.now c.args.v (Some x)) c.args.v c.items-row.result.now (are_on l net c.args.e.now (all_fail (λ d. violates l d c.args.e.now) net c.requires.accepted) c.args.v x) (row_is here)

pub returns : goal.returns
returns c = λ x at.
    let l = c.args.lang.now in
    let net = c.args.net.now in
    all_found l net c.args.v c.args.e.now c.items-row.result.now c.loop-i.i-index c.loop-i.free c.loop-i.items c.loop-i.invariant c.loop-i-test.false x at
    ∙ first_in_row l net (slice_set c.args.e.now c.args.v (Some x)) c.args.v c.items-row.result.now (are_on l net c.args.e.now (all_fail (λ d. violates l d c.args.e.now) net c.requires.accepted) c.args.v x)
    (row_of l net c.args.by.now c.items-row.result.now c.args.v c.requires.by c.requires.known c.items-row.ensures)
