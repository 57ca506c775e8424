use Rattle.net_cnf.proofs.Prelude.{string_bytes, flat_map, range_with_len, Grown, clause_text, no_two_values}
use Rattle.net_cnf.proofs.text.add_all_no_two_values.Given as goal

abbrev pub invariant-loop-v : goal.invariant-loop-v
invariant-loop-v l = Grown (string_bytes l.fn.text) (flat_map (λ v. flat_map clause_text (no_two_values l.fn.lang v)) (range_with_len 0 l.v)) (string_bytes l.text)
