use Rattle.query_gen.proofs.Prelude.{◌≡◌, ◌-◌, ◌≤◌, false, length, query_in, is_ask}
use Rattle.query_gen.proofs.Parts.{IsTakenTo}
use Rattle.query_gen.proofs.query.next_query.Given as goal

abbrev pub invariant-loop-first : goal.invariant-loop-first
invariant-loop-first l = record {
  taken : IsTakenTo l.fn.lang l.fn.net.list l.fn.kept.members l.fn.budget l.first l.screen;
  said : l.answer ≡ query_in l.fn.lang l.fn.net.list l.fn.kept.members l.fn.budget 0 l.first;
  none : is_ask l.answer ≡ false;
  within : l.first ≤ l.all;
  room : length l.marks ≡ 1024;
}

abbrev pub decreases-loop-first : goal.decreases-loop-first
decreases-loop-first l = l.all - l.first
