use Rattle.net_cnf.proofs.Prelude.{◌≡◌, ◌*◌, ◌≤◌, length, flat_map, numbers, booleans_of}
use Rattle.net_cnf.proofs.lines.booleans_before.Given as goal

abbrev pub invariant-loop-w : goal.invariant-loop-w
invariant-loop-w l = record {
  is : l.count ≡ length (flat_map (booleans_of l.fn.lang) (numbers l.w));
  few : l.count ≤ l.w * l.fn.lang.value_count;
  small : l.count ≤ l.w * 256;
}
