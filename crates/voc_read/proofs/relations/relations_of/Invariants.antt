use Rattle.voc_read.proofs.Prelude.{◌≡◌, ◌++◌, Ok, All, drop, length, map, items_view, given_by, then_on, IsOver, relations_from, IsNamed}
use Rattle.voc_read.proofs.relations.relations_of.Given as goal

abbrev pub invariant-loop-i : goal.invariant-loop-i
invariant-loop-i l = record {
  each : length l.relations.items ≡ l.i;
  kinds : All (IsOver l.fn.domain.value_count) l.relations.items;
  named : All IsNamed l.relations.items;
  rest : then_on (relations_from l.i l.fn.domain.least_value l.fn.domain.value_count (items_view (drop l.i l.list))) (λ more. Ok (map given_by l.relations.items ++ more)) ≡ relations_from 0 l.fn.domain.least_value l.fn.domain.value_count (items_view l.list);
}
