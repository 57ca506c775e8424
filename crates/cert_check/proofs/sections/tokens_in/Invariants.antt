use Rattle.cert_check.proofs.Prelude.{◌≡◌, tokens_in, words_left}
use Rattle.cert_check.proofs.InTurn.{with_tokens}
use Rattle.cert_check.proofs.sections.tokens_in.Given as goal

abbrev pub invariant-loop-word : goal.invariant-loop-word
invariant-loop-word l =
    (goal.iterator-loop-word).can_next l.word-iterator
    × (goal.iterator-loop-word).is_finite l.word-iterator
    × (with_tokens l.tokens.items (tokens_in l.items (words_left l.word-iterator)) ≡ tokens_in l.items (words_left l.fn.words))
