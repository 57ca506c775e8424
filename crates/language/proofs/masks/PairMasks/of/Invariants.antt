use Rattle.language.proofs.Prelude.{truths}
use Rattle.language.proofs.PairMasking.{AreFirstMasks}
use Rattle.language.proofs.masks.PairMasks.of.Given as goal

abbrev pub invariant-loop-t : goal.invariant-loop-t
invariant-loop-t l = AreFirstMasks l.d (truths l.tables) l.t l.rows.items l.columns.items l.bounds.items
