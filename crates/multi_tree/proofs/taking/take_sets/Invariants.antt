use Rattle.multi_tree.proofs.Prelude.{◌≡◌, ◌≤◌, length, take, next_turn, AreBarren, AreStruck}
use Rattle.multi_tree.proofs.taking.take_sets.Given as goal

abbrev pub invariant-loop-left : goal.invariant-loop-left
invariant-loop-left l = record {
  turn : next_turn l.fn.lang l.fn.net.list l.fn.kept.members l.fn.example l.left l.waiting ≡ next_turn l.fn.lang l.fn.net.list l.fn.kept.members l.fn.example l.fn.left l.fn.waiting;
  struck : AreStruck l.fn.lang l.fn.kept.members l.fn.example (take l.struck.count l.room) l.struck.are_all;
  barren : AreBarren (take l.struck.count l.room) l.struck.barren l.waiting;
  few : l.struck.count ≤ length l.room;
}

abbrev pub decreases-loop-left : goal.decreases-loop-left
decreases-loop-left l = l.left
