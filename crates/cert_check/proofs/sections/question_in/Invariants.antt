use Rattle.cert_check.proofs.Prelude.{◌≡◌, IsQuestion, with_pairs, question_in, words_left}
use Rattle.cert_check.proofs.sections.question_in.Given as goal

abbrev pub invariant-loop-word : goal.invariant-loop-word
invariant-loop-word l =
    (goal.iterator-loop-word).can_next l.word-iterator
    × (goal.iterator-loop-word).is_finite l.word-iterator
    × (with_pairs l.lang.ranges l.least l.question (words_left l.word-iterator) ≡ question_in l.lang l.pairs)
    × IsQuestion l.lang l.question
