use Rattle.cert_check.proofs.Prelude.{◌≡◌, length, array_vec_len, later, HasFronts, IsPrefixAt}
use Rattle.cert_check.proofs.walk.go_on.Given as goal

abbrev pub invariant-loop-x : goal.invariant-loop-x
invariant-loop-x l = record { at : IsPrefixAt l.fn.lang l.fn.c l.values.items l.e; same : later l.fn.lang l.fn.c l.fn.values.items ≡ later l.fn.lang l.fn.c l.values.items; fronts : HasFronts l.fn.values.items (length l.fn.values.items) l.values.items }

abbrev pub decreases-loop-x : goal.decreases-loop-x
decreases-loop-x l = array_vec_len l.values
