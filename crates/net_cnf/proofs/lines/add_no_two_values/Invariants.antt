use Rattle.net_cnf.proofs.Prelude.{◌-◌, string_bytes, flat_map, range_with_len, range_of, Grown}
use Rattle.net_cnf.proofs.Pieces.{row_piece}
use Rattle.net_cnf.proofs.Runs.{first_of}
use Rattle.net_cnf.proofs.lines.add_no_two_values.Given as goal

abbrev pub invariant-loop-x : goal.invariant-loop-x
invariant-loop-x l = Grown (string_bytes l.fn.text) (flat_map (row_piece l.fn.lang l.fn.v (range_of l.fn.lang l.fn.v).last) (range_with_len (first_of l.fn.lang l.fn.v) (l.x - first_of l.fn.lang l.fn.v))) (string_bytes l.text)
