use Rattle.answer_journal.proofs.Prelude.{◌≡◌, ◌++◌, drop, array_vec_len}
use Rattle.answer_journal.proofs.encode.these.Given as goal

abbrev pub invariant-loop-byte : goal.invariant-loop-byte
invariant-loop-byte l = record { put : l.out.items ++ drop l.byte-index l.bytes ≡ l.bytes; few : array_vec_len l.out ≡ l.byte-index }
