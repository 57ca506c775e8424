use Rattle.propagators.proofs.Prelude.{◌≡◌, ◌≤◌, length, take, list_in, IsIndexOf}
use Rattle.propagators.proofs.index.Index.follow.Given as goal

abbrev pub invariant-loop-end : goal.invariant-loop-end
invariant-loop-end l = record {
  index : IsIndexOf l.lang l.self;
  list : take l.end l.list ≡ list_in l.self;
  size : l.self.size ≡ l.end;
  room : length l.list ≤ length l.self.list.items;
  plan_room : length l.list ≤ length l.self.plan.briefs.items;
}
