use Rattle.language.proofs.Prelude.{◌≡◌, ◌-◌, ◌+◌, ℕ, drop, length, get_or, ◌∙◌, ap, subst, arith, IfOk, get_or_default, Relation, TruthTable, ValueRange, range_in, inside}
use Rattle.language.proofs.Within.{fronts, inside-front, length-inside}
use Rattle.language.proofs.narrow.inside.Goals as goal
use Rattle.language.proofs.narrow.inside.Goals.{After-deref-2}

pub loop-k-preserved : goal.loop-k-preserved
loop-k-preserved c =
    let n : ℕ = length c.args.scope.now in
    let at : ℕ = n - (c.loop-k.k + 1) in
    let same : n - 1 - c.loop-k.k ≡ at = omega (arith, c.loop-k-test.true) in
    let v : ℕ = get_or c.args.scope.now (n - 1 - c.loop-k.k) 0 in
    let v_is : v ≡ get_or c.args.scope.now at 0 = ap (λ (i : ℕ). get_or c.args.scope.now i 0) same in
    let range : ValueRange = get_or c.args.ranges.now v (record { first = 0; last = 0 }) in
    let known = c.requires.scope.known (n - 1 - c.loop-k.k) 0 (omega (arith, c.loop-k-test.true)) in
    let range_is : range ≡ range_in c.args.ranges.now (get_or c.args.scope.now at 0) =
    get_or_default c.args.ranges.now v (record { first = 0; last = 0 }) (record { first = 0; last = 63 }) known ∙ ap (range_in c.args.ranges.now) v_is in
    inside-front c.args.ranges.now c.args.d c.args.scope.now c.loop-k.k range c.loop-k.truth.items _ c.loop-k-test.true range_is c.loop-k.invariant
    (c.in_ok-truth-2.ensures ∙ ap (fronts range c.args.d) c.deref.ensures.value)

whole : (c : After-deref-2) → c.deref-2.result.now ≡ inside c.args.ranges.now c.args.d c.args.scope.now
whole c =
    let none : length c.args.scope.now - c.loop-k.k ≡ 0 = omega (arith, c.loop-k-test.false) in
    c.deref-2.ensures.value ∙ c.loop-k.invariant ∙ ap (λ (n : ℕ). inside c.args.ranges.now c.args.d (drop n c.args.scope.now)) none

pub from_truth-requires-clause-each : goal.from_truth-requires-clause-each
from_truth-requires-clause-each c = ap length (whole (goal.at.from_truth-requires-clause-each c).After-deref-2) ∙ length-inside c.args.ranges.now c.args.d c.args.scope.now

pub from_truth-requires-clause-fits : goal.from_truth-requires-clause-fits
from_truth-requires-clause-fits c =
    let long = ap length (whole (goal.at.from_truth-requires-clause-fits c).After-deref-2) in
    omega (arith, long, length-inside c.args.ranges.now c.args.d c.args.scope.now, c.requires.fits)

pub returns : goal.returns
returns c =
    subst (λ (truth : Relation). IfOk c.from_truth.result (λ (t : TruthTable). t ≡ record { arity = length c.args.scope.now; value_count = c.args.d; truth = truth }))
    (whole (goal.at.returns c).After-deref-2) c.from_truth.ensures
