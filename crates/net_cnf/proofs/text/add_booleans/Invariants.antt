use Rattle.net_cnf.proofs.Prelude.{string_bytes, flat_map, range_with_len, Grown, booleans_of, boolean_text}
use Rattle.net_cnf.proofs.text.add_booleans.Given as goal

abbrev pub invariant-loop-v : goal.invariant-loop-v
invariant-loop-v l = Grown (string_bytes l.fn.text) (flat_map (λ v. flat_map (boolean_text l.fn.lang) (booleans_of l.fn.lang v)) (range_with_len 0 l.v)) (string_bytes l.text)
