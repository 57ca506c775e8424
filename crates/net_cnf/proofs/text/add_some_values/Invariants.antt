use Rattle.net_cnf.proofs.Prelude.{string_bytes, flat_map, range_with_len, Grown, clause_text, some_value}
use Rattle.net_cnf.proofs.text.add_some_values.Given as goal

abbrev pub invariant-loop-v : goal.invariant-loop-v
invariant-loop-v l = Grown (string_bytes l.fn.text) (flat_map (λ v. clause_text (some_value l.fn.lang v)) (range_with_len 0 l.v)) (string_bytes l.text)
