use Rattle.net_cnf.proofs.Prelude.{◌≡◌, ◌-◌, false, get_or, range_with_len, option_to_list, boolean, boolean_number, positive_signs}
use Rattle.std.specs.Prelude.{filter}
use Rattle.net_cnf.proofs.Runs.{first_of}
use Rattle.net_cnf.proofs.reading.true_value.Given as goal

abbrev pub invariant-loop-x : goal.invariant-loop-x
invariant-loop-x l = filter (λ x. get_or (positive_signs l.signs) (boolean_number l.lang (boolean l.v x) - 1) false) (range_with_len (first_of l.lang l.v) (l.x - first_of l.lang l.v)) ≡ option_to_list l.value
