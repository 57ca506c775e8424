use Rattle.query_gen.proofs.Prelude.{◌≡◌, ◌+◌, ◌-◌, ◌≤◌, false, length, is_ask, IsSearchedBefore}
use Rattle.query_gen.proofs.part.search_part.Given as goal

abbrev pub invariant-loop-scope : goal.invariant-loop-scope
invariant-loop-scope l = record {
  searched : IsSearchedBefore l.fn.lang l.fn.net.list l.fn.kept.members l.fn.budget l.fn.first l.fn.end l.scope l.marks l.answer;
  none : is_ask l.answer ≡ false;
  size : length l.marks ≡ length l.initial.marks;
  from : l.start ≤ l.scope;
  within : l.scope ≤ l.last + 1;
}

abbrev pub decreases-loop-scope : goal.decreases-loop-scope
decreases-loop-scope l = (l.last + 1) - l.scope
