use Rattle.language.proofs.Prelude.{slice_index_or, [], widened, scope_at, relations_on, is_part}
use Rattle.language.proofs.ByNames.{IsMaskOf}
use Rattle.language.proofs.lang.Language.within.Given as goal

abbrev pub invariant-loop-r : goal.invariant-loop-r
invariant-loop-r l = IsMaskOf (λ k. is_part (slice_index_or (relations_on l.self l.s) k []) (widened l.self.ranges l.self.value_count (scope_at l.self l.s) l.table.truth)) l.r l.relations
