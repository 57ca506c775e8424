use Rattle.language.proofs.Prelude.{◌≡◌, ◌+◌, ◌*◌, ◌<◌, false, true, sym, ap, ◌∙◌, arith, get_or, get_or_default, ValueRange, range_in, is_in, ◌≤◌}
use Rattle.language.proofs.PairOrders.{same_none, same_more, same_all, row_same, row_found, none_found, below_range, past_range, within_range, is_value, pair_below}
use Rattle.std.proofs.Math.Nat.{mul-le-mul_right}
use Rattle.std.proofs.Common.{◌-◌}
use Rattle.language.proofs.narrow.comes_before.Goals as goal

pub loop-x-init : goal.loop-x-init
loop-x-init c =
    let range : ValueRange = get_or c.args.ranges.now (get_or c.args.scope.now 0 0) (record { first = 0; last = 0 }) in
    let some = c.requires.scope.not_empty in
    let same : range ≡ range_in c.args.ranges.now (get_or c.args.scope.now 0 0) = get_or_default c.args.ranges.now (get_or c.args.scope.now 0 0) _ _ (c.requires.scope.known 0 0 (omega arith)) in
    same_none c.args.ranges.now c.args.d c.args.scope.now c.requires.two c.args.one.now.truth c.args.other.now.truth c.requires.one.size c.requires.other.size
    range.first (λ a less. ap (λ (g : ValueRange). is_in g a) (sym same) ∙ below_range range a less)

pub returns-then-is_some : goal.returns-then-is_some
returns-then-is_some c =
    let range : ValueRange = get_or c.args.ranges.now (get_or c.args.scope.now 0 0) (record { first = 0; last = 0 }) in
    let some = c.requires.scope.not_empty in
    let known = c.requires.scope.known 0 0 (omega arith) in
    let same : range ≡ range_in c.args.ranges.now (get_or c.args.scope.now 0 0) = get_or_default c.args.ranges.now (get_or c.args.scope.now 0 0) _ _ known in
    let last : range.last < c.args.d = (c.requires.ranges.some (get_or c.args.scope.now 0 0) (record { first = 0; last = 0 }) known).known in
    let place : c.from.result * c.from-in-loop-x.result ≡ c.loop-x.x * c.args.d = λ i. c.from.ensures i * c.from-in-loop-x.ensures i in
    let low = c.loop-x.auto.x in
    let inside : is_value c.args.ranges.now c.args.scope.now 0 c.loop-x.x ≡ true = ap (λ (g : ValueRange). is_in g c.loop-x.x) (sym same) ∙ within_range range c.loop-x.x (omega arith) c.loop-x-test.true in
    row_found c.args.ranges.now c.args.d c.args.scope.now c.args.among c.requires.among c.args.one.now.truth c.args.other.now.truth c.loop-x.x c.row.result c.row-in-loop-x.result
    (λ y less. c.row.ensures y (let values = c.requires.one.values in omega arith) ∙ ap (λ p. get_or c.args.one.now.truth (p + y) false) place)
    (λ y less. c.row-in-loop-x.ensures y (let values = c.requires.other.values in omega arith) ∙ ap (λ p. get_or c.args.other.now.truth (p + y) false) place)
    c.requires.two c.requires.one.size c.requires.other.size (let test = c.loop-x-test.true in omega arith) inside c.loop-x.invariant
    c.first_bit-found.result (sym c.is_some.ensures ∙ c.if-is_some.true) c.first_bit-found.ensures

pub loop-x-preserved : goal.loop-x-preserved
loop-x-preserved c =
    let place : c.from.result * c.from-in-loop-x.result ≡ c.loop-x.x * c.args.d = λ i. c.from.ensures i * c.from-in-loop-x.ensures i in
    same_more c.args.ranges.now c.args.d c.args.scope.now c.requires.two c.args.one.now.truth c.args.other.now.truth c.requires.one.size c.requires.other.size c.loop-x.x
    (row_same c.args.ranges.now c.args.d c.args.scope.now c.args.among c.requires.among c.args.one.now.truth c.args.other.now.truth c.loop-x.x c.row.result c.row-in-loop-x.result
    (λ y less. c.row.ensures y (let values = c.requires.one.values in omega arith) ∙ ap (λ p. get_or c.args.one.now.truth (p + y) false) place)
    (λ y less. c.row-in-loop-x.ensures y (let values = c.requires.other.values in omega arith) ∙ ap (λ p. get_or c.args.other.now.truth (p + y) false) place)
    (c.first_bit-found.ensures.none (none_found c.first_bit-found.result (sym c.is_some.ensures ∙ c.if-is_some.false))))
    c.loop-x.invariant

pub returns : goal.returns
returns c =
    let range : ValueRange = get_or c.args.ranges.now (get_or c.args.scope.now 0 0) (record { first = 0; last = 0 }) in
    let some = c.requires.scope.not_empty in
    let same : range ≡ range_in c.args.ranges.now (get_or c.args.scope.now 0 0) = get_or_default c.args.ranges.now (get_or c.args.scope.now 0 0) _ _ (c.requires.scope.known 0 0 (omega arith)) in
    let end = c.loop-x-test.false in
    record {
      none = λ e. same_all c.args.ranges.now c.args.d c.args.scope.now c.requires.two c.args.one.now.truth c.args.other.now.truth c.requires.one.size c.requires.other.size
          c.loop-x.x (λ a past. ap (λ (g : ValueRange). is_in g a) (sym same) ∙ past_range range a (omega arith)) c.loop-x.invariant;
      before = λ e. absurd (let no : ⊥ = cc in no);
      behind = λ e. absurd (let no : ⊥ = cc in no);
    }

pub bounds-ranges-scope : goal.bounds-ranges-scope
bounds-ranges-scope c = c.requires.scope.known 0 0 (omega (arith, c.requires.two))

pub overflow_add-x-end : goal.overflow_add-x-end
overflow_add-x-end c =
    let known = c.requires.scope.known 0 0 (omega (arith, c.requires.two)) in
    let last = (c.requires.ranges.some (get_or c.args.scope.now 0 0) (record { first = 0; last = 0 }) known).known in
    omega (arith, last, c.requires.ranges.few_values)

pub overflow_mul-place : goal.overflow_mul-place
overflow_mul-place c =
    let known = c.requires.scope.known 0 0 (omega (arith, c.requires.two)) in
    let last = (c.requires.ranges.some (get_or c.args.scope.now 0 0) (record { first = 0; last = 0 }) known).known in
    let wide : c.from.result * c.from-in-loop-x.result ≤ 64 * c.from-in-loop-x.result = mul-le-mul_right c.from-in-loop-x.result (omega (arith, last, c.requires.ranges.few_values, c.loop-x-test.true, c.from.ensures)) in
    omega (arith, wide, c.from-in-loop-x.ensures, c.requires.ranges.few_values)

pub row-requires : goal.row-requires
row-requires c =
    let known = c.requires.scope.known 0 0 (omega (arith, c.requires.two)) in
    let last = (c.requires.ranges.some (get_or c.args.scope.now 0 0) (record { first = 0; last = 0 }) known).known in
    let low : c.loop-x.x < c.args.d = omega (arith, last, c.loop-x-test.true) in
    let within = pair_below c.args.d c.loop-x.x (c.args.d - 1) low (omega (arith, low)) in
    let place : c.from.result * c.from-in-loop-x.result ≡ c.loop-x.x * c.args.d = λ i. c.from.ensures i * c.from-in-loop-x.ensures i in
    omega (arith, within, place, low, c.requires.one.size, c.requires.one.values)

pub row-requires-in-loop-x : goal.row-requires-in-loop-x
row-requires-in-loop-x c =
    let known = c.requires.scope.known 0 0 (omega (arith, c.requires.two)) in
    let last = (c.requires.ranges.some (get_or c.args.scope.now 0 0) (record { first = 0; last = 0 }) known).known in
    let low : c.loop-x.x < c.args.d = omega (arith, last, c.loop-x-test.true) in
    let within = pair_below c.args.d c.loop-x.x (c.args.d - 1) low (omega (arith, low)) in
    let place : c.from.result * c.from-in-loop-x.result ≡ c.loop-x.x * c.args.d = λ i. c.from.ensures i * c.from-in-loop-x.ensures i in
    omega (arith, within, place, low, c.requires.other.size, c.requires.other.values)
