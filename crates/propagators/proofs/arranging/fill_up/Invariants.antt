use Rattle.propagators.proofs.Prelude.{◌≡◌, vec_len, vec_capacity}
use Rattle.propagators.proofs.arranging.fill_up.Given as goal

abbrev pub invariant-loop-i : goal.invariant-loop-i
invariant-loop-i g l = record { size : vec_len l.list ≡ l._i; capacity : vec_capacity l.list ≡ vec_capacity l.initial.list }
