use Rattle.net_cnf.proofs.Prelude.{◌≡◌, length, tokens_left}
use Rattle.net_cnf.proofs.tokens.TokensIterator.next.Given as goal

abbrev pub invariant-loop-token : goal.invariant-loop-token
invariant-loop-token l = tokens_left l.self ≡ tokens_left l.fn.self

abbrev pub decreases-loop-token : goal.decreases-loop-token
decreases-loop-token l = length l.self.lines.now
