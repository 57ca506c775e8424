use Rattle.cert_check.proofs.Prelude.{◌+◌, ◌*◌, false, not, range_of, slice_index_or}
use Rattle.language.proofs.ByNames.{IsMaskOf}
use Rattle.language.specs.Language.{relation_of}
use Rattle.cert_check.proofs.Values.{passing}
use Rattle.cert_check.proofs.siblings.rejecting.Given as goal

abbrev pub invariant-loop-x : goal.invariant-loop-x
invariant-loop-x l = IsMaskOf (passing (range_of l.fn.lang l.fn.v).first (λ x. not (slice_index_or (relation_of l.fn.lang l.fn.c) (l.fn.line.place + x * l.fn.line.stride) false))) l.x l.values
