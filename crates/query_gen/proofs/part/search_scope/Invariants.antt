use Rattle.query_gen.proofs.Prelude.{◌≡◌, ◌+◌, ◌≤◌, false, length, ones_of, is_ask, reach, scope_start, IsSearchedTo}
use Rattle.query_gen.proofs.Scopes.{AreLeft}
use Rattle.query_gen.proofs.part.search_scope.Given as goal

abbrev pub invariant-loop-relations : goal.invariant-loop-relations
invariant-loop-relations l = record {
  searched : IsSearchedTo l.fn.lang l.fn.net.list l.fn.kept.members l.fn.budget l.fn.first l.next l.marks l.answer;
  none : is_ask l.answer ≡ false;
  size : length l.marks ≡ length l.initial.marks;
  from : l.fn.first ≤ l.next;
  behind : l.base ≤ l.next;
  within : l.next ≤ reach l.fn.first l.fn.end (scope_start l.fn.lang (l.fn.scope + 1));
  left : AreLeft l.fn.kept.members l.fn.scope l.base l.fn.end l.relations l.next;
}

abbrev pub decreases-loop-relations : goal.decreases-loop-relations
decreases-loop-relations l = length (ones_of l.relations)
