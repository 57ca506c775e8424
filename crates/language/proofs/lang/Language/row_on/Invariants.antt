use Rattle.language.proofs.Prelude.{◌+◌, false, [], slice_index_or, relations_on}
use Rattle.language.proofs.ByNames.{IsMaskOf}
use Rattle.language.proofs.lang.Language.row_on.Given as goal

abbrev pub invariant-loop-y : goal.invariant-loop-y
invariant-loop-y l = IsMaskOf (λ y. slice_index_or (slice_index_or (relations_on l.self l.s) l.r []) (l.place + y) false) l.y l.row
