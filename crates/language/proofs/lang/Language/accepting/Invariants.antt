use Rattle.language.proofs.Prelude.{false, [], slice_index_or, relations_on}
use Rattle.language.proofs.ByNames.{IsMaskOf}
use Rattle.language.proofs.lang.Language.accepting.Given as goal

abbrev pub invariant-loop-r : goal.invariant-loop-r
invariant-loop-r l = IsMaskOf (λ r. slice_index_or (slice_index_or (relations_on l.self l.s) r []) l.place false) l.r l.relations
