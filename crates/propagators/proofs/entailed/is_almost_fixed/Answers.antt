use Rattle.propagators.proofs.Prelude.{◌+◌, ◌-◌, ◌<◌, ℕ, List, [], length, length-drop, drop, take_all, subst, arith, slice_index_or, HasOne}
use Rattle.propagators.proofs.Fixed.{next_one, fixed_but}
use Rattle.propagators.proofs.entailed.is_almost_fixed.Goals as goal

pub loop-j-preserved : goal.loop-j-preserved
loop-j-preserved c =
    next_one (λ (k : ℕ). HasOne (slice_index_or c.args.doms.now (slice_index_or c.args.scope.now k 0) [])) c.loop-j.j c.loop-j.invariant
    (record { value = c.in-Some._x; only = c.in-Some.ensures.only })

pub returns-in_default : goal.returns-in_default
returns-in_default c = λ e.
    let rest = drop (c.loop-j.j + 1) c.args.scope.now in
    fixed_but c.args.doms.now c.args.scope.now c.loop-j.j (omega arith) c.loop-j.invariant
    (subst (λ (scope : List ℕ). (k : ℕ) → k < length scope → HasOne (slice_index_or c.args.doms.now (slice_index_or scope k 0) []))
    (take_all (length c.args.scope.now - (c.loop-j.j + 1)) rest (omega (arith, length-drop (c.loop-j.j + 1) c.args.scope.now))) (c.are_fixed.ensures e))

pub returns : goal.returns
returns c = λ e. record { place = 0; low = c.requires.some; others = λ k low other. c.loop-j.invariant k (omega arith) }
