use Rattle.language.proofs.Prelude.{◌≡◌, ℕ, ◌^◌, ◌<◌, Bool, true, false, not, ◌||◌, length, get_or, sym, ◌∙◌, ap, subst, arith, below_more, tuple_at, are_in, are_whole, widened, is_part}
use Rattle.language.proofs.Within.{widened-at, length-widened, widened_where_whole, wholes_from, part_from, not_part, part_is, kept_at}
use Rattle.language.proofs.narrow.is_part_on.Goals as goal
use Rattle.language.proofs.narrow.is_part_on.Goals.{After-value_count-value_count, else-at-via-then-at+then-not-at+else-lies_within, else-at-via-then-at+else-not-at, else-at-via-else-at}

pub returns-then-are_whole : goal.returns-then-are_whole
returns-then-are_whole c =
    let d : ℕ = c.args.table.now.value_count in
    let some = c.value_count-value_count.ensures.lawful.values in
    let whole = wholes_from c.args.ranges.now d c.args.scope.now some (ap (λ n. are_whole c.args.ranges.now n c.args.scope.now) (sym c.value_count-value_count.ensures.is) ∙ sym c.are_whole.ensures ∙ c.if-are_whole.true) in
    let plain : c.within.result ≡ is_part c.args.table.now.truth c.args.other.now.truth = c.within.ensures ∙ part_is c.args.table.now.truth c.args.other.now.truth in
    plain ∙ (λ i. is_part (sym (widened_where_whole c.args.ranges.now d c.args.scope.now c.args.table.now.truth whole c.requires.size) i) (sym (widened_where_whole c.args.ranges.now d c.args.scope.now c.args.other.now.truth whole c.requires.other) i))

pub returns-then-lies_within : goal.returns-then-lies_within
returns-then-lies_within c =
    let d : ℕ = c.args.table.now.value_count in
    let size : length (widened c.args.ranges.now d c.args.scope.now c.args.table.now.truth) ≡ d ^ length c.args.scope.now = length-widened c.args.ranges.now d c.args.scope.now c.args.table.now.truth c.requires.size in
    let other : length (widened c.args.ranges.now d c.args.scope.now c.args.other.now.truth) ≡ d ^ length c.args.scope.now = length-widened c.args.ranges.now d c.args.scope.now c.args.other.now.truth c.requires.other in
    let low : c.loop-place.place < d ^ length c.args.scope.now = omega (arith, c.loop-place-test.true, c.size-place-end.ensures.is, c.requires.size) in
    let inside : are_in c.args.ranges.now c.args.scope.now (tuple_at d (length c.args.scope.now) c.loop-place.place) ≡ true =
    ap (λ n. are_in c.args.ranges.now c.args.scope.now (tuple_at n (length c.args.scope.now) c.loop-place.place)) (sym c.value_count-value_count.ensures.is) ∙ sym c.lies_within.ensures ∙ c.if-lies_within.true in
    sym (not_part (widened c.args.ranges.now d c.args.scope.now c.args.table.now.truth) (widened c.args.ranges.now d c.args.scope.now c.args.other.now.truth) c.loop-place.place (size ∙ sym other) (omega (arith, low, size))
    (widened-at c.args.ranges.now d c.args.scope.now c.args.table.now.truth c.loop-place.place c.requires.size low ∙ (λ i. not (inside i) || (sym c.at.ensures ∙ c.if-at.true) i))
    (widened-at c.args.ranges.now d c.args.scope.now c.args.other.now.truth c.loop-place.place c.requires.other low ∙ (λ i. not (inside i) || (sym c.at-then-at.ensures ∙ c.if-not-at.true) i)))

pub loop-place-preserved : goal.loop-place-preserved
loop-place-preserved c =
    let d : ℕ = c.value_count-value_count.result in
    let same : d ≡ c.args.table.now.value_count = c.value_count-value_count.ensures.is in
    let size : length c.args.table.now.truth ≡ d ^ length c.args.scope.now = c.requires.size ∙ ap (λ n. n ^ length c.args.scope.now) (sym same) in
    let other : length c.args.other.now.truth ≡ d ^ length c.args.scope.now = c.requires.other ∙ ap (λ n. n ^ length c.args.scope.now) (sym same) in
    let low : c.loop-place.place < d ^ length c.args.scope.now = omega (arith, c.loop-place-test.true, c.size-place-end.ensures.is, size) in
    let inside : Bool = are_in c.args.ranges.now c.args.scope.now (tuple_at d (length c.args.scope.now) c.loop-place.place) in
    let x : Bool = get_or c.args.table.now.truth c.loop-place.place false in
    let y : Bool = get_or c.args.other.now.truth c.loop-place.place false in
    let reject : x ≡ true → y ≡ false → inside ≡ false = elim c.else-at.branch [
      | else-at-via-then-at+then-not-at+else-lies_within w ↦ λ on off. sym w.lies_within.ensures ∙ w.if-lies_within.false
      | else-at-via-then-at+else-not-at w ↦ λ on off. (let e : true ≡ false = sym w.if-not-at.false ∙ w.at-then-at.ensures ∙ off in cc)
      | else-at-via-else-at w ↦ λ on off. (let e : false ≡ true = sym w.if-at.false ∙ c.at.ensures ∙ on in cc)
    ] in
    below_more _ _ c.loop-place.invariant
    ((λ i. not (widened-at c.args.ranges.now d c.args.scope.now c.args.table.now.truth c.loop-place.place size low i)
    || widened-at c.args.ranges.now d c.args.scope.now c.args.other.now.truth c.loop-place.place other low i) ∙ kept_at inside x y reject)

pub returns : goal.returns
returns c =
    let d : ℕ = c.args.table.now.value_count in
    let size : length (widened c.args.ranges.now d c.args.scope.now c.args.table.now.truth) ≡ d ^ length c.args.scope.now = length-widened c.args.ranges.now d c.args.scope.now c.args.table.now.truth c.requires.size in
    let other : length (widened c.args.ranges.now d c.args.scope.now c.args.other.now.truth) ≡ d ^ length c.args.scope.now = length-widened c.args.ranges.now d c.args.scope.now c.args.other.now.truth c.requires.other in
    sym (part_from (widened c.args.ranges.now d c.args.scope.now c.args.table.now.truth) (widened c.args.ranges.now d c.args.scope.now c.args.other.now.truth) (size ∙ sym other)
    (subst (λ n. (k : ℕ) → k < length (widened c.args.ranges.now d c.args.scope.now c.args.table.now.truth) →
    (not (get_or (widened c.args.ranges.now n c.args.scope.now c.args.table.now.truth) k false) || get_or (widened c.args.ranges.now n c.args.scope.now c.args.other.now.truth) k false) ≡ true) c.value_count-value_count.ensures.is
    (λ k low. c.loop-place.invariant k (omega (arith, low, size, c.requires.size, c.loop-place-test.false, c.size-place-end.ensures.is)))))
