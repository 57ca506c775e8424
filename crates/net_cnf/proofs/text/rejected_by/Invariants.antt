use Rattle.net_cnf.proofs.Prelude.{◌≡◌, ◌≤◌, not, length, filter, range_with_len, accepts_there}
use Rattle.net_cnf.proofs.text.rejected_by.Given as goal

abbrev pub invariant-loop-place : goal.invariant-loop-place
invariant-loop-place l = record {
  is : l.count ≡ length (filter (λ at. not (accepts_there l.fn.lang l.fn.c at)) (range_with_len 0 l.place));
  few : l.count ≤ l.place;
}
