use Rattle.acq_words.proofs.Prelude.{arith, ◌∙◌}
use Rattle.acq_words.proofs.Taken.{are_refused, are_taken, is_plain_app, rows_are}
use Rattle.acq_words.proofs.Values.{have_numbers}
use Rattle.acq_words.proofs.line.matches_in.Goals as goal

pub returns-in-Ok-try_get_matches_from-clause-taken : goal.returns-in-Ok-try_get_matches_from-clause-taken
returns-in-Ok-try_get_matches_from-clause-taken c = are_taken _ _ c.in-Ok.ensures (c.in-Ok-try_get_matches_from.ensures.kinds (is_plain_app _ c.in-Ok.ensures))

pub returns-in-Ok-try_get_matches_from-clause-rows : goal.returns-in-Ok-try_get_matches_from-clause-rows
returns-in-Ok-try_get_matches_from-clause-rows c = rows_are _ _ c.in-Ok-try_get_matches_from.matches c.in-Ok.ensures c.in-Ok-try_get_matches_from.ensures.matches

pub returns-clause-words : goal.returns-clause-words
returns-clause-words c = λ said.
    are_refused _ _ c.in-Err.e c.in-Ok.ensures (c.in-Err.ensures.kinds (is_plain_app _ c.in-Ok.ensures)) (λ memory. let e = c.kind.ensures ∙ memory in let differ = c.if-eq.ensures in grind (arith, e, differ))

pub returns-in-Ok-try_get_matches_from-clause-numbers : goal.returns-in-Ok-try_get_matches_from-clause-numbers
returns-in-Ok-try_get_matches_from-clause-numbers c = have_numbers _ c.in-Ok-try_get_matches_from.matches c.in-Ok-try_get_matches_from.ensures.parsed c.in-Ok.ensures
