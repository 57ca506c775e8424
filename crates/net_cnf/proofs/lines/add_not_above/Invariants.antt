use Rattle.net_cnf.proofs.Prelude.{◌+◌, ◌-◌, string_bytes, flat_map, range_with_len, Grown}
use Rattle.net_cnf.proofs.Pieces.{pair_piece}
use Rattle.net_cnf.proofs.lines.add_not_above.Given as goal

abbrev pub invariant-loop-y : goal.invariant-loop-y
invariant-loop-y l = Grown (string_bytes l.fn.text) (flat_map (pair_piece l.fn.lang l.fn.v l.fn.x) (range_with_len (l.fn.x + 1) (l.y - (l.fn.x + 1)))) (string_bytes l.text)
