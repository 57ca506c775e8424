use Rattle.language.proofs.Prelude.{is_in}
use Rattle.language.proofs.ByNames.{IsMaskOf}
use Rattle.language.proofs.narrow.range_mask.Given as goal

abbrev pub invariant-loop-y : goal.invariant-loop-y
invariant-loop-y l = IsMaskOf (is_in l.range) l.y l.mask
