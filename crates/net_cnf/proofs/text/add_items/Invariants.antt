use Rattle.net_cnf.proofs.Prelude.{string_bytes, flat_map, range_with_len, Grown, item_piece}
use Rattle.net_cnf.proofs.text.add_items.Given as goal

abbrev pub invariant-loop-i : goal.invariant-loop-i
invariant-loop-i l = Grown (string_bytes l.fn.text) (flat_map (item_piece l.fn.lang l.fn.net.list) (range_with_len 0 l.i)) (string_bytes l.text)
