use Rattle.query_gen.proofs.Prelude.{◌+◌, AreTaken}
use Rattle.query_gen.proofs.screen.take_bytes.Given as goal

abbrev pub invariant-loop-i : goal.invariant-loop-i
invariant-loop-i l = AreTaken l.fn.bytes l.fn.first (l.fn.first + l.i) l.initial.marks l.marks
