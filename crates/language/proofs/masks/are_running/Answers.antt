use Rattle.language.proofs.Prelude.{ℕ, ◌+◌, ◌≤◌, ◌<◌, sym, subst, ◌==◌, nat_le, slice_index_or, bit_at, le-leb, lt-leb, changes_of}
use Rattle.language.proofs.PairMasking.{running_more, running_fails}
use Rattle.language.proofs.masks.are_running.Goals as goal

pub returns-then-changes-gt1 : goal.returns-then-changes-gt1
returns-then-changes-gt1 c =
    sym (running_fails (λ y. nat_le (changes_of (λ x. bit_at (slice_index_or c.args.masks.now (c.args.at + x) 0) y == 1) c.args.d) 1) c.args.d c.loop-y.y c.loop-y-test.true
    (lt-leb (changes_of (λ x. bit_at (slice_index_or c.args.masks.now (c.args.at + x) 0) c.loop-y.y == 1) c.args.d) 1 (subst (λ (n : ℕ). 1 < n) c.changes.ensures c.if-changes-gt1.true)))

pub loop-y-preserved : goal.loop-y-preserved
loop-y-preserved c =
    running_more (λ y. nat_le (changes_of (λ x. bit_at (slice_index_or c.args.masks.now (c.args.at + x) 0) y == 1) c.args.d) 1) c.loop-y.y c.loop-y.invariant
    (le-leb (changes_of (λ x. bit_at (slice_index_or c.args.masks.now (c.args.at + x) 0) c.loop-y.y == 1) c.args.d) 1 (subst (λ (n : ℕ). n ≤ 1) c.changes.ensures c.if-changes-gt1.false))
