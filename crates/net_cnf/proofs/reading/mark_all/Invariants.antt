use Rattle.net_cnf.proofs.Prelude.{length, tokens_left, all_tokens}
use Rattle.net_cnf.proofs.Taking.{IsTaken}
use Rattle.net_cnf.proofs.reading.mark_all.Given as goal

abbrev pub invariant-loop-token : goal.invariant-loop-token
invariant-loop-token l =
    (goal.iterator-loop-token).can_next l.token-iterator
    × (goal.iterator-loop-token).is_finite l.token-iterator
    × IsTaken (length l.fn.signs) l.read (all_tokens l.bytes) (tokens_left l.token-iterator) l.signs
