use Rattle.language.proofs.Prelude.{sym}
use Rattle.language.proofs.SameRanges.{other_length}
use Rattle.language.proofs.narrow.have_same_ranges.Goals as goal

pub returns-then-scope-other : goal.returns-then-scope-other
returns-then-scope-other c = sym (other_length c.args.ranges.now c.args.scope.now c.args.other.now c.if-scope-other.true)
