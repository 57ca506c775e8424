use Rattle.language.proofs.Prelude.{take, All, widened, chosen_on}
use Rattle.rel_table.specs.InOrder.{Above}
use Rattle.language.proofs.narrow.place_within.Given as goal

abbrev pub invariant-loop-at : goal.invariant-loop-at
invariant-loop-at l = All (λ q. Above q (widened l.ranges l.d l.scope l.table.truth)) (take l.at (chosen_on l.ranges l.d l.tables l.scope l.chosen))
