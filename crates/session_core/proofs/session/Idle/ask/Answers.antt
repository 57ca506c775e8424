use Rattle.session_core.proofs.session.Idle.ask.Goals as goal

pub returns-in-Scopes-clause-stands : goal.returns-in-Scopes-clause-stands
returns-in-Scopes-clause-stands c = λ t stands. c.ask_first.ensures.stands stands.after.end t (record { at = stands.after.idle; knows = stands.knows })

pub returns-in-Quacq-clause-stands : goal.returns-in-Quacq-clause-stands
returns-in-Quacq-clause-stands c = λ t stands. c.ask_whole.ensures.stands stands.after.end t (record { at = stands.after.idle; knows = stands.knows })

pub returns-in-Multi-clause-stands : goal.returns-in-Multi-clause-stands
returns-in-Multi-clause-stands c = λ t stands. c.ask_walked.ensures.stands stands.after.end t (record { at = stands.after.idle; knows = stands.knows })
