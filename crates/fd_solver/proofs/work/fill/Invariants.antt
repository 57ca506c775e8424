use Rattle.fd_solver.proofs.Prelude.{◌≡◌, vec_len, vec_capacity}
use Rattle.fd_solver.proofs.work.fill.Given as goal

abbrev pub invariant-loop-depth : goal.invariant-loop-depth
invariant-loop-depth g l = record { size : vec_len l.depths ≡ l._depth; room : vec_capacity l.depths ≡ vec_capacity l.initial.depths }
