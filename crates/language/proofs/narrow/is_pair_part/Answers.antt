use Rattle.language.proofs.Prelude.{◌≡◌, ◌+◌, ◌*◌, ℕ, false, sym, subst, ap, ◌∙◌, arith, get_or, get_or_default, both_ways, ValueRange, range_in, is_in}
use Rattle.language.specs.PairOrder.{IsRangeMask}
use Rattle.language.proofs.PairOrders.{part_more, part_all, row_within, row_fails}
use Rattle.language.proofs.narrow.is_pair_part.Goals.{else-is_in-via-then-is_in+else-row-among-ne0, else-is_in-via-else-is_in}
use Rattle.language.proofs.narrow.is_pair_part.Goals as goal

pub returns-then-row-among-ne0 : goal.returns-then-row-among-ne0
returns-then-row-among-ne0 c =
    let d = c.args.table.now.value_count in
    let ranges = c.args.ranges.now in
    let scope = c.args.scope.now in
    let two = c.requires.two in
    let d_is : c.value_count-d.result ≡ d = c.value_count-d.ensures.is in
    let range : ValueRange = get_or ranges (get_or scope 0 0) (record { first = 0; last = 0 }) in
    let second : ValueRange = get_or ranges (get_or scope 1 0) (record { first = 0; last = 0 }) in
    let same : range ≡ range_in ranges (get_or scope 0 0) = get_or_default ranges (get_or scope 0 0) _ _ (c.requires.scope.known 0 0 (omega arith)) in
    let second_same : second ≡ range_in ranges (get_or scope 1 0) = get_or_default ranges (get_or scope 1 0) _ _ (c.requires.scope.known 1 0 (omega arith)) in
    let mask : IsRangeMask d (range_in ranges (get_or scope 1 0)) c.range_mask-among.result = subst (λ (g : ValueRange). IsRangeMask d g c.range_mask-among.result) second_same (subst (λ (n : ℕ). IsRangeMask n second c.range_mask-among.result) d_is c.range_mask-among.ensures) in
    let place : c.from.result * c.from-in-loop-x.result ≡ c.loop-x.x * d = λ i. c.from.ensures i * (c.from-in-loop-x.ensures ∙ d_is) i in
    sym (row_fails ranges d scope c.range_mask-among.result (c.value_count-d.ensures.lawful.small) mask c.args.table.now.truth c.args.other.now.truth c.loop-x.x c.row.result c.row-then-is_in.result
    c.row-then-is_in.type_inv c.range_mask-among.type_inv
    (λ y low. c.row.ensures y low ∙ ap (λ p. get_or c.args.table.now.truth (p + y) false) place)
    (λ y low. c.row-then-is_in.ensures y (let values = c.requires.values in omega arith) ∙ ap (λ p. get_or c.args.other.now.truth (p + y) false) place)
    c.if-row-among-ne0.true two c.requires.size c.requires.other (let test = c.loop-x-test.true in omega arith)
    (ap (λ (g : ValueRange). is_in g c.loop-x.x) (sym same) ∙ sym c.is_in.ensures ∙ c.if-is_in.true))

pub loop-x-preserved : goal.loop-x-preserved
loop-x-preserved c =
    let d = c.args.table.now.value_count in
    let ranges = c.args.ranges.now in
    let scope = c.args.scope.now in
    let two = c.requires.two in
    let d_is : c.value_count-d.result ≡ d = c.value_count-d.ensures.is in
    let range : ValueRange = get_or ranges (get_or scope 0 0) (record { first = 0; last = 0 }) in
    let second : ValueRange = get_or ranges (get_or scope 1 0) (record { first = 0; last = 0 }) in
    let same : range ≡ range_in ranges (get_or scope 0 0) = get_or_default ranges (get_or scope 0 0) _ _ (c.requires.scope.known 0 0 (omega arith)) in
    let second_same : second ≡ range_in ranges (get_or scope 1 0) = get_or_default ranges (get_or scope 1 0) _ _ (c.requires.scope.known 1 0 (omega arith)) in
    let mask : IsRangeMask d (range_in ranges (get_or scope 1 0)) c.range_mask-among.result = subst (λ (g : ValueRange). IsRangeMask d g c.range_mask-among.result) second_same (subst (λ (n : ℕ). IsRangeMask n second c.range_mask-among.result) d_is c.range_mask-among.ensures) in
    let place : c.from.result * c.from-in-loop-x.result ≡ c.loop-x.x * d = λ i. c.from.ensures i * (c.from-in-loop-x.ensures ∙ d_is) i in
    part_more ranges d scope two c.args.table.now.truth c.args.other.now.truth c.requires.size c.requires.other c.loop-x.x
    (elim c.else-is_in.branch [
      | else-is_in-via-then-is_in+else-row-among-ne0 w ↦ λ y low first. row_within ranges d scope c.range_mask-among.result (c.value_count-d.ensures.lawful.small) mask c.args.table.now.truth c.args.other.now.truth c.loop-x.x w.row.result w.row-then-is_in.result
          w.row-then-is_in.type_inv c.range_mask-among.type_inv
          (λ b under. w.row.ensures b under ∙ ap (λ p. get_or c.args.table.now.truth (p + b) false) place)
          (λ b under. w.row-then-is_in.ensures b (let values = c.requires.values in omega arith) ∙ ap (λ p. get_or c.args.other.now.truth (p + b) false) place)
          w.if-row-among-ne0.false y low
      | else-is_in-via-else-is_in w ↦ λ y low first. absurd (both_ways _ (ap (λ (g : ValueRange). is_in g c.loop-x.x) (sym same) ∙ sym c.is_in.ensures ∙ w.if-is_in.false) first)
    ])
    c.loop-x.invariant

pub returns : goal.returns
returns c =
    let d = c.args.table.now.value_count in
    let end = c.loop-x-test.false in
    let d_is : c.value_count-d.result ≡ d = c.value_count-d.ensures.is in
    sym (part_all c.args.ranges.now d c.args.scope.now c.requires.two c.args.table.now.truth c.args.other.now.truth c.requires.size c.requires.other
    (λ a b less h k. c.loop-x.invariant a b (omega arith) h k))
