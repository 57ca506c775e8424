use Rattle.language.proofs.Prelude.{◌≤◌, ◌<◌, length, map, take, All, widened, chosen_on, truths}
use Rattle.rel_table.specs.InOrder.{IsInOrder}
use Rattle.language.proofs.narrow.pair_numbers.Given as goal

abbrev pub invariant-loop-k : goal.invariant-loop-k
invariant-loop-k l = record {
  order : IsInOrder (take l.k (map (widened l.ranges l.d l.scope) (truths l.tables))) (chosen_on l.ranges l.d l.tables l.scope l.chosen.items);
  known : All (λ k. k < length l.tables) l.chosen.items;
  few : length l.chosen.items ≤ l.k;
}
