use Rattle.rel_formula.proofs.Prelude.{◌≡◌, ℕ, ◌+◌, ◌-◌, ◌*◌, ◌<◌, ℤ, Bool, Option, Some, None, List, length, take, set, w64, to_z, of_z, SFits, rules, arith, subst, suc, ap, sym, ◌∙◌, if◌then◌else◌, to_z-of_z, length-set, tuple_at, shown_tuple, is_true, is_too_big, first_too_big}
use Rattle.std.proofs.Common.{negsuc, pos, ◌≤ℤ◌}
use Rattle.std.specs.Option.{option_map}
use Rattle.std.proofs.lemmas.List.{take-set-le, length-take-le}
use Rattle.rel_formula.specs.Places.{AreTruthsTo}
use Rattle.rel_formula.specs.declared.fault.TableOfFault.TheVariants.{TooBig}
use Rattle.rel_formula.proofs.Places.{truths_more, shown_row, row_within, first_too_big-some, none_is}
use Rattle.rel_formula.proofs.tables.add_rest.Goals as goal

-- what the formula gives at a tuple that is another one
same_tuple : (tuple other : List ℤ) (o : Option Bool) (F : List ℤ → Option Bool) → tuple ≡ other → o ≡ F tuple → o ≡ F other
same_tuple tuple other o F e is = is ∙ ap F e

pub loop-x-preserved : goal.loop-x-preserved
loop-x-preserved c =
    let lo : ℤ = to_z w64 (of_z w64 c.args.lo) in
    let fits : SFits w64 c.shown_value.result = search rules in
    let v : ℤ = to_z w64 (of_z w64 c.shown_value.result) in
    let d : ℕ = c.args.d in
    let a : ℕ = c.args.arity - 1 in
    let x : ℕ = c.loop-x.x in
    let at : ℕ = c.args.row * d + x in
    let f = c.args.f.now in
    let size : c.args.arity ≡ suc a = omega (arith, c.requires.some) in
    let last : c.from-last.result ≡ a = c.from-last.ensures in
    let low : x < d = c.loop-x-test.true in
    let room : a < length c.loop-x.shown = omega (arith, c.loop-x.invariant.len, c.requires.short, c.requires.some) in
    let more : c.from-last.result + 1 ≡ c.args.arity = omega (arith, last, size) in
    let shown : take c.args.arity (set c.loop-x.shown a v) ≡ shown_tuple lo (tuple_at d c.args.arity at) =
    shown_row lo c.loop-x.shown d a c.args.arity c.args.row x v size room low c.requires.within c.loop-x.invariant.values (to_z-of_z w64 c.shown_value.result fits ∙ c.shown_value.ensures) in
    let tuple : take (c.from-last.result + 1) (set c.loop-x.shown c.from-last.result v) ≡ shown_tuple lo (tuple_at d c.args.arity at) =
    ap (λ k. take k (set c.loop-x.shown c.from-last.result v)) more ∙ ap (λ k. take c.args.arity (set c.loop-x.shown k v)) last ∙ shown in
    let next : c.args.row * d + (x + 1) ≡ at + 1 = omega arith in
    record {
      len = length-set c.loop-x.shown c.from-last.result v ∙ c.loop-x.invariant.len;
      values = ap (λ k. take a (set c.loop-x.shown k v)) last ∙ take-set-le a c.loop-x.shown a v (omega arith) ∙ c.loop-x.invariant.values;
      so_far = truths_more f c.args.arity lo d at (c.args.row * d + (x + 1)) c.loop-x.truths.items _ c.in-Some.is_true c.truth_at.result (row_within d a c.args.arity c.args.row x size low c.requires.within) next c.loop-x.invariant.so_far c.in_ok-push-in-Some.ensures.items
          (same_tuple _ _ c.truth_at.result (λ t. if is_too_big t f then None else Some (is_true t f)) tuple c.truth_at.ensures) c.in-Some.is;
    }

pub returns-in-None-clause-refused : goal.returns-in-None-clause-refused
returns-in-None-clause-refused c = λ _.
    let lo : ℤ = to_z w64 (of_z w64 c.args.lo) in
    let fits : SFits w64 c.shown_value.result = search rules in
    let v : ℤ = to_z w64 (of_z w64 c.shown_value.result) in
    let d : ℕ = c.args.d in
    let a : ℕ = c.args.arity - 1 in
    let x : ℕ = c.loop-x.x in
    let at : ℕ = c.args.row * d + x in
    let f = c.args.f.now in
    let size : c.args.arity ≡ suc a = omega (arith, c.requires.some) in
    let last : c.from-last.result ≡ a = c.from-last.ensures in
    let low : x < d = c.loop-x-test.true in
    let room : a < length c.loop-x.shown = omega (arith, c.loop-x.invariant.len, c.requires.short, c.requires.some) in
    let more : c.from-last.result + 1 ≡ c.args.arity = omega (arith, last, size) in
    let shown : take c.args.arity (set c.loop-x.shown a v) ≡ shown_tuple lo (tuple_at d c.args.arity at) =
    shown_row lo c.loop-x.shown d a c.args.arity c.args.row x v size room low c.requires.within c.loop-x.invariant.values (to_z-of_z w64 c.shown_value.result fits ∙ c.shown_value.ensures) in
    let tuple : take (c.from-last.result + 1) (set c.loop-x.shown c.from-last.result v) ≡ shown_tuple lo (tuple_at d c.args.arity at) =
    ap (λ k. take k (set c.loop-x.shown c.from-last.result v)) more ∙ ap (λ k. take c.args.arity (set c.loop-x.shown k v)) last ∙ shown in
    let big = none_is _ _ c.truth_at.result (same_tuple _ _ c.truth_at.result (λ t. if is_too_big t f then None else Some (is_true t f)) tuple c.truth_at.ensures) c.in-None.is in
    let found = first_too_big-some f c.args.arity lo d at (row_within d a c.args.arity c.args.row x size low c.requires.within) c.loop-x.invariant.so_far.fits big in
    let place : at ≡ c.args.row * c.from.result + c.from-in-None.result = λ i. c.args.row * sym c.from.ensures i + sym c.from-in-None.ensures i in
    ap (λ o. option_map (λ y. TooBig y) o) (ap (λ y. first_too_big f c.args.arity y d) (sym (to_z-of_z w64 c.args.lo c.ranges.lo)) ∙ found ∙ ap (λ y. Some y) place)

pub returns-clause-so_far : goal.returns-clause-so_far
returns-clause-so_far c =
    let all : c.loop-x.x ≡ c.args.d = omega (arith, c.loop-x-test.false, c.loop-x.auto.x-end) in
    subst (λ y. AreTruthsTo c.args.f.now c.args.arity y c.args.d (c.args.row * c.args.d + c.args.d) c.loop-x.truths.items) (to_z-of_z w64 c.args.lo c.ranges.lo)
    (subst (λ k. AreTruthsTo c.args.f.now c.args.arity (to_z w64 (of_z w64 c.args.lo)) c.args.d (c.args.row * c.args.d + k) c.loop-x.truths.items) all c.loop-x.invariant.so_far)

pub loop-x-init : goal.loop-x-init
loop-x-init c =
    let lo = sym (to_z-of_z w64 c.args.lo c.ranges.lo) in
    record {
      len = search rules;
      values = c.shown_at-shown.ensures;
      so_far = subst (λ (y : ℤ). AreTruthsTo c.args.f.now c.args.arity y c.args.d (c.args.row * c.args.d + c.args.first) c.args.truths.now.items) lo c.requires.so_far;
    }

pub shown_at-shown-requires-clause-low : goal.shown_at-shown-requires-clause-low
shown_at-shown-requires-clause-low c = subst (λ (y : ℤ). negsuc 999999 ≤ℤ y) (sym (to_z-of_z w64 c.args.lo c.ranges.lo)) c.requires.low

pub shown_at-shown-requires-clause-high : goal.shown_at-shown-requires-clause-high
shown_at-shown-requires-clause-high c = subst (λ (y : ℤ). y ≤ℤ pos 1000000) (sym (to_z-of_z w64 c.args.lo c.ranges.lo)) c.requires.high

pub shown_value-requires-clause-low : goal.shown_value-requires-clause-low
shown_value-requires-clause-low c = subst (λ (y : ℤ). negsuc 999999 ≤ℤ y) (sym (to_z-of_z w64 c.args.lo c.ranges.lo)) c.requires.low

pub shown_value-requires-clause-high : goal.shown_value-requires-clause-high
shown_value-requires-clause-high c = subst (λ (y : ℤ). y ≤ℤ pos 1000000) (sym (to_z-of_z w64 c.args.lo c.ranges.lo)) c.requires.high

pub slice_bounds-shown-end : goal.slice_bounds-shown-end
slice_bounds-shown-end c =
    omega (arith, length-set c.loop-x.shown c.from-last.result (to_z w64 (of_z w64 c.shown_value.result)), c.loop-x.invariant.len, c.from-last.ensures, c.requires.short)

pub slice_bounds-truth_at-end : goal.slice_bounds-truth_at-end
slice_bounds-truth_at-end c =
    let shown = set c.loop-x.shown c.from-last.result (to_z w64 (of_z w64 c.shown_value.result)) in
    sym (length-take-le (c.from-last.result + 1) shown (omega (arith, length-set c.loop-x.shown c.from-last.result (to_z w64 (of_z w64 c.shown_value.result)), c.loop-x.invariant.len, c.from-last.ensures, c.requires.short)))

pub overflow_mul-result : goal.overflow_mul-result
overflow_mul-result c =
    let within = row_within c.args.d (c.args.arity - 1) c.args.arity c.args.row c.loop-x.x (omega (arith, c.requires.some)) c.loop-x-test.true c.requires.within in
    let is = ap (λ k. c.args.row * k) c.from.ensures in
    omega (arith, within, is, c.requires.fits)

pub overflow_add-result : goal.overflow_add-result
overflow_add-result c =
    let within = row_within c.args.d (c.args.arity - 1) c.args.arity c.args.row c.loop-x.x (omega (arith, c.requires.some)) c.loop-x-test.true c.requires.within in
    let is = ap (λ k. c.args.row * k) c.from.ensures in
    omega (arith, within, is, c.from-in-None.ensures, c.requires.fits)
