use Rattle.net_cnf.proofs.Prelude.{◌-◌, string_bytes, flat_map, range_with_len, Grown, boolean, boolean_text}
use Rattle.net_cnf.proofs.Runs.{first_of}
use Rattle.net_cnf.proofs.text.add_booleans_of.Given as goal

abbrev pub invariant-loop-x : goal.invariant-loop-x
invariant-loop-x l = Grown (string_bytes l.fn.text) (flat_map (λ x. boolean_text l.fn.lang (boolean l.fn.v x)) (range_with_len (first_of l.fn.lang l.fn.v) (l.x - first_of l.fn.lang l.fn.v))) (string_bytes l.text)
