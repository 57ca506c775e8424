use Rattle.session_store.proofs.Prelude.{sym, subst, knowledge_of, HavePlaces, none_given}
use Rattle.session_store.proofs.Placing.{none_placed}
use Rattle.session_store.proofs.store.new_session.Goals as goal

pub new-requires-2-clause-places : goal.new-requires-2-clause-places
new-requires-2-clause-places c =
    let k = knowledge_of c.in_ok-session.session in
    subst (HavePlaces k.lang k.plan) (sym c.new.ensures) (none_placed k.lang k.plan)

pub returns-in_err-lang-clause-sound : goal.returns-in_err-lang-clause-sound
returns-in_err-lang-clause-sound c = none_given _ _ c.from_residual.result c.from_residual.ensures.1

pub returns-in_err-lang-clause-read : goal.returns-in_err-lang-clause-read
returns-in_err-lang-clause-read c = none_given _ _ c.from_residual.result c.from_residual.ensures.1

pub returns-in_err-lang-clause-plan : goal.returns-in_err-lang-clause-plan
returns-in_err-lang-clause-plan c = none_given _ _ c.from_residual.result c.from_residual.ensures.1

pub returns-in_err-lang-clause-events : goal.returns-in_err-lang-clause-events
returns-in_err-lang-clause-events c = none_given _ _ c.from_residual.result c.from_residual.ensures.1

pub returns-in_err-lang-clause-idle : goal.returns-in_err-lang-clause-idle
returns-in_err-lang-clause-idle c = none_given _ _ c.from_residual.result c.from_residual.ensures.1

pub returns-in_err-lang-clause-voc : goal.returns-in_err-lang-clause-voc
returns-in_err-lang-clause-voc c = none_given _ _ c.from_residual.result c.from_residual.ensures.1

pub returns-in_err-lang-clause-taken : goal.returns-in_err-lang-clause-taken
returns-in_err-lang-clause-taken c = none_given _ _ c.from_residual.result c.from_residual.ensures.1

pub returns-in_err-lang-clause-short : goal.returns-in_err-lang-clause-short
returns-in_err-lang-clause-short c = none_given _ _ c.from_residual.result c.from_residual.ensures.1

pub returns-in_err-bytes-clause-sound : goal.returns-in_err-bytes-clause-sound
returns-in_err-bytes-clause-sound c = none_given _ _ c.from_residual-in_err-bytes.result c.from_residual-in_err-bytes.ensures.1

pub returns-in_err-bytes-clause-read : goal.returns-in_err-bytes-clause-read
returns-in_err-bytes-clause-read c = none_given _ _ c.from_residual-in_err-bytes.result c.from_residual-in_err-bytes.ensures.1

pub returns-in_err-bytes-clause-plan : goal.returns-in_err-bytes-clause-plan
returns-in_err-bytes-clause-plan c = none_given _ _ c.from_residual-in_err-bytes.result c.from_residual-in_err-bytes.ensures.1

pub returns-in_err-bytes-clause-events : goal.returns-in_err-bytes-clause-events
returns-in_err-bytes-clause-events c = none_given _ _ c.from_residual-in_err-bytes.result c.from_residual-in_err-bytes.ensures.1

pub returns-in_err-bytes-clause-idle : goal.returns-in_err-bytes-clause-idle
returns-in_err-bytes-clause-idle c = none_given _ _ c.from_residual-in_err-bytes.result c.from_residual-in_err-bytes.ensures.1

pub returns-in_err-bytes-clause-voc : goal.returns-in_err-bytes-clause-voc
returns-in_err-bytes-clause-voc c = none_given _ _ c.from_residual-in_err-bytes.result c.from_residual-in_err-bytes.ensures.1

pub returns-in_err-bytes-clause-taken : goal.returns-in_err-bytes-clause-taken
returns-in_err-bytes-clause-taken c = none_given _ _ c.from_residual-in_err-bytes.result c.from_residual-in_err-bytes.ensures.1

pub returns-in_err-bytes-clause-short : goal.returns-in_err-bytes-clause-short
returns-in_err-bytes-clause-short c = none_given _ _ c.from_residual-in_err-bytes.result c.from_residual-in_err-bytes.ensures.1

pub returns-in_err-session-clause-sound : goal.returns-in_err-session-clause-sound
returns-in_err-session-clause-sound c = none_given _ _ c.from_residual-in_err-session.result c.from_residual-in_err-session.ensures.1

pub returns-in_err-session-clause-read : goal.returns-in_err-session-clause-read
returns-in_err-session-clause-read c = none_given _ _ c.from_residual-in_err-session.result c.from_residual-in_err-session.ensures.1

pub returns-in_err-session-clause-plan : goal.returns-in_err-session-clause-plan
returns-in_err-session-clause-plan c = none_given _ _ c.from_residual-in_err-session.result c.from_residual-in_err-session.ensures.1

pub returns-in_err-session-clause-events : goal.returns-in_err-session-clause-events
returns-in_err-session-clause-events c = none_given _ _ c.from_residual-in_err-session.result c.from_residual-in_err-session.ensures.1

pub returns-in_err-session-clause-idle : goal.returns-in_err-session-clause-idle
returns-in_err-session-clause-idle c = none_given _ _ c.from_residual-in_err-session.result c.from_residual-in_err-session.ensures.1

pub returns-in_err-session-clause-voc : goal.returns-in_err-session-clause-voc
returns-in_err-session-clause-voc c = none_given _ _ c.from_residual-in_err-session.result c.from_residual-in_err-session.ensures.1

pub returns-in_err-session-clause-taken : goal.returns-in_err-session-clause-taken
returns-in_err-session-clause-taken c = none_given _ _ c.from_residual-in_err-session.result c.from_residual-in_err-session.ensures.1

pub returns-in_err-session-clause-short : goal.returns-in_err-session-clause-short
returns-in_err-session-clause-short c = none_given _ _ c.from_residual-in_err-session.result c.from_residual-in_err-session.ensures.1
