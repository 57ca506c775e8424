use Rattle.net_cnf.proofs.Prelude.{string_bytes, flat_map, range_with_len, Grown, place_piece}
use Rattle.net_cnf.proofs.text.add_none_rejected.Given as goal

abbrev pub invariant-loop-place : goal.invariant-loop-place
invariant-loop-place l = Grown (string_bytes l.fn.text) (flat_map (place_piece l.fn.lang l.fn.c) (range_with_len 0 l.place)) (string_bytes l.text)
