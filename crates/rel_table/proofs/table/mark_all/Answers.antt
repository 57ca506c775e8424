use Rattle.rel_table.proofs.Prelude.{sym, ◌∙◌, ap, ◌≡◌, ◌<◌, ◌^◌, arith, length, subst, ℤ, Some, true, List, Bool, take, ◌+◌, set, to_z, of_z, to_z-of_z, length-set, lists, place_of_shown, first_fault, Marks}
use Rattle.std.proofs.Common.{w64}
use Rattle.rel_table.proofs.Marking.{fault_here, fault_next, long_tuple, mark_more, lists_at, length-lists}
use Rattle.rel_table.proofs.table.mark_all.Goals as goal

pub returns-in-Some-clause-fault : goal.returns-in-Some-clause-fault
returns-in-Some-clause-fault c =
    let lt : c.loop-i.i < length (lists c.args.tuples.now) = omega (arith, c.loop-i-test.true, length-lists c.args.tuples.now) in
    let P : ℤ → Type 0 = λ lo. first_fault c.args.a lo c.args.d 0 (lists c.args.tuples.now) ≡ Some c.in-Some.fault in
    subst P (to_z-of_z w64 c.args.lo c.ranges.lo)
    (sym (fault_here _ _ _ _ (lists c.args.tuples.now) _ _ _ _ _ lt
    (lists_at c.args.tuples.now c.loop-i.i c.index-tuples-i.result c.loop-i-test.true c.index-tuples-i.is)
    c.deref.ensures.value c.loop-i.invariant.rest c.fault_of.ensures c.in-Some.is))

pub mark-requires : goal.mark-requires
mark-requires c =
    let at = lists_at c.args.tuples.now c.loop-i.i c.index-tuples-i.result c.loop-i-test.true c.index-tuples-i.is in
    let told = sym c.fault_of.ensures ∙ c.in_default.is in
    let long = long_tuple _ _ _ _ _ told in
    let now_long : length c.deref-in-loop-i.result.now ≡ c.args.a = ap length (c.deref-in-loop-i.ensures.value ∙ sym c.deref.ensures.value) ∙ long in
    subst (λ n. c.place_of_shown-place.result < n) (ap (λ k. c.args.d ^ k) now_long ∙ sym c.loop-i.invariant.size) c.place_of_shown-place.ensures.below

pub loop-i-preserved : goal.loop-i-preserved
loop-i-preserved c =
    let lt : c.loop-i.i < length (lists c.args.tuples.now) = omega (arith, c.loop-i-test.true, length-lists c.args.tuples.now) in
    let at = lists_at c.args.tuples.now c.loop-i.i c.index-tuples-i.result c.loop-i-test.true c.index-tuples-i.is in
    let told = sym c.fault_of.ensures ∙ c.in_default.is in
    let long = long_tuple _ _ _ _ _ told in
    let same = c.deref-in-loop-i.ensures.value ∙ sym at in
    let now_long : length c.deref-in-loop-i.result.now ≡ c.args.a = ap length (c.deref-in-loop-i.ensures.value ∙ sym c.deref.ensures.value) ∙ long in
    let within : c.place_of_shown-place.result < length c.loop-i.truth =
    subst (λ n. c.place_of_shown-place.result < n) (ap (λ k. c.args.d ^ k) now_long ∙ sym c.loop-i.invariant.size) c.place_of_shown-place.ensures.below in
    let marks : Marks (to_z w64 (of_z w64 c.args.lo)) c.args.d (take (c.loop-i.i + 1) (lists c.args.tuples.now)) (set c.loop-i.truth c.place_of_shown-place.result true) =
    mark_more _ _ c.loop-i.i c.place_of_shown-place.result (lists c.args.tuples.now) c.loop-i.truth lt (c.place_of_shown-place.ensures.is ∙ ap (place_of_shown _ _) same) within c.loop-i.invariant.marks in
    record {
      size = ap length c.mark.ensures ∙ length-set c.loop-i.truth c.place_of_shown-place.result true ∙ c.loop-i.invariant.size;
      rest = fault_next _ _ _ _ (lists c.args.tuples.now) _ _ _ _ lt at c.deref.ensures.value c.loop-i.invariant.rest c.fault_of.ensures c.in_default.is;
      marks = subst (λ (truth : List Bool). Marks (to_z w64 (of_z w64 c.args.lo)) c.args.d (take (c.loop-i.i + 1) (lists c.args.tuples.now)) truth) (sym c.mark.ensures) marks;
    }
