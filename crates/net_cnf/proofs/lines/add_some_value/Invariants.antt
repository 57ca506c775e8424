use Rattle.net_cnf.proofs.Prelude.{true, ◌-◌, string_bytes, flat_map, range_with_len, Grown, boolean}
use Rattle.net_cnf.proofs.Pieces.{literal_piece}
use Rattle.net_cnf.proofs.Runs.{first_of}
use Rattle.net_cnf.proofs.lines.add_some_value.Given as goal

abbrev pub invariant-loop-x : goal.invariant-loop-x
invariant-loop-x l = Grown (string_bytes l.fn.text) (flat_map (λ x. literal_piece l.fn.lang true (boolean l.fn.v x)) (range_with_len (first_of l.fn.lang l.fn.v) (l.x - first_of l.fn.lang l.fn.v))) (string_bytes l.text)
