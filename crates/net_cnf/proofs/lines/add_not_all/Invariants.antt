use Rattle.net_cnf.proofs.Prelude.{string_bytes, flat_map, range_with_len, Grown}
use Rattle.net_cnf.proofs.Pieces.{not_all_piece}
use Rattle.net_cnf.proofs.lines.add_not_all.Given as goal

abbrev pub invariant-loop-i : goal.invariant-loop-i
invariant-loop-i l = Grown (string_bytes l.fn.text) (flat_map (not_all_piece l.fn.lang l.fn.scope l.fn.values) (range_with_len 0 l.i)) (string_bytes l.text)
