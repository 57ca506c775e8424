use Rattle.net_cnf.proofs.Prelude.{◌≡◌, ◌≤◌, ◌*◌, length, take, flat_map, none_rejected}
use Rattle.net_cnf.proofs.text.rejected_count.Given as goal

abbrev pub invariant-loop-i : goal.invariant-loop-i
invariant-loop-i l = record {
  is : l.count ≡ length (flat_map (none_rejected l.fn.lang) (take l.i l.fn.net.list));
  few : l.count ≤ 65536 * l.i;
}
