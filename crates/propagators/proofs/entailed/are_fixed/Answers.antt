use Rattle.propagators.proofs.Prelude.{ℕ, [], slice_index_or, HasOne}
use Rattle.propagators.proofs.Fixed.{next_one}
use Rattle.propagators.proofs.entailed.are_fixed.Goals as goal

pub loop-j-preserved : goal.loop-j-preserved
loop-j-preserved c =
    next_one (λ (k : ℕ). HasOne (slice_index_or c.args.doms.now (slice_index_or c.args.scope.now k 0) [])) c.loop-j.j c.loop-j.invariant
    (record { value = c.in-Some._x; only = c.in-Some.ensures.only })
