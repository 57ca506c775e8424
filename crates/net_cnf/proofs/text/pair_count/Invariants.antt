use Rattle.net_cnf.proofs.Prelude.{◌≡◌, ◌≤◌, ◌*◌, length, flat_map, numbers, no_two_values}
use Rattle.net_cnf.proofs.text.pair_count.Given as goal

abbrev pub invariant-loop-v : goal.invariant-loop-v
invariant-loop-v l = record {
  is : l.count ≡ length (flat_map (no_two_values l.fn.lang) (numbers l.v));
  few : l.count ≤ l.v * 32640;
}
