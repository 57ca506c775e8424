use Rattle.cert_check.proofs.Prelude.{◌≤◌, length, IsPrefixAt, ahead, AreLevels}
use Rattle.cert_check.proofs.Growing.{IsWritten}
use Rattle.cert_check.proofs.Trees.{forest}
use Rattle.cert_check.proofs.tree.add_tree.Given as goal

abbrev pub invariant-loop-is_open : goal.invariant-loop-is_open
invariant-loop-is_open l = record {
  at : IsPrefixAt l.fn.lang l.fn.c l.values.items l.e;
  written : IsWritten l.fn.lang l.fn.net l.fn.c l.fn.sheet l.sheet l.count (ahead l.is_open l.fn.lang l.fn.c l.values.items);
  levels : AreLevels l.fn.lang l.fn.net l.fn.c (length l.values.items) l.values.items l.levels.items;
  few : l.count ≤ l.fn.budget;
}

abbrev pub decreases-loop-is_open : goal.decreases-loop-is_open
decreases-loop-is_open l = length (forest l.fn.lang l.fn.net l.fn.c (ahead l.is_open l.fn.lang l.fn.c l.values.items))
