use Rattle.bias_store.proofs.Prelude.{List, [], false, get_or, Relation}
use Rattle.language.specs.Pairs.{ArePairTables}
use Rattle.language.proofs.ByNames.{IsMaskOf}
use Rattle.bias_store.proofs.tables.pair_mask.Given as goal

abbrev pub invariant-loop-r : goal.invariant-loop-r
invariant-loop-r l = (pairs : List Relation) → ArePairTables l.lang pairs → IsMaskOf (λ r. get_or (get_or pairs (get_or l.tables r 0) []) l.place false) l.r l.relations
