use Rattle.acq_loop.proofs.Prelude.{◌≡◌, standing_on, Stands, knowledge_of, open_in, Session, KeepOf}
use Rattle.session_core.specs.declared.session.Session.TheVariants as sessions
use Rattle.acq_loop.proofs.Nexts.{IsSession, asking_next, next_there, over_next}
use Rattle.acq_loop.proofs.Standings.{marks_here, marks_there}
use Rattle.acq_loop.proofs.next.next_of.Goals as goal

-- a keeper's session is this one
session_so : {K D : Type 0} (P : KeepOf K D) (keep : K) (session now : Session) → session ≡ now → Stands session (standing_on (P.lang keep) (P.record_of keep)) → (knowledge_of session).lang ≡ P.lang keep → (knowledge_of session).plan ≡ P.plan keep → open_in session ≡ P.question keep →
    IsSession (P.lang keep) (P.plan keep) (standing_on (P.lang keep) (P.record_of keep)) (P.question keep) now
session_so P keep session now is stands lang plan question = rw (← is) (record { stands = stands; lang = lang; plan = plan; question = question })

pub idle_next-requires-clause-places : goal.idle_next-requires-clause-places
idle_next-requires-clause-places g c lives within = rw (rw c.in-Idle.is at c.session-session.ensures.lang) c.requires.ready.equipped

pub idle_next-requires-clause-screen : goal.idle_next-requires-clause-screen
idle_next-requires-clause-screen g c lives within = rw (rw c.in-Idle.is at c.session-session.ensures.lang) c.requires.ready.made

pub idle_next-requires-clause-marks : goal.idle_next-requires-clause-marks
idle_next-requires-clause-marks g c lives within =
    let told = c.session-session.ensures in
    let so = session_so g.P.Keep c.args.keep.now _ _ c.in-Idle.is told.stands told.lang told.plan told.question in
    marks_here (sessions.Idle c.in-Idle.idle) _ _ c.args.budget _ c.args.screen.now so.stands so.lang so.plan c.requires.ready.hold

pub returns-in-Idle : goal.returns-in-Idle
returns-in-Idle g c =
    let told = c.session-session.ensures in
    let so = session_so g.P.Keep c.args.keep.now _ _ c.in-Idle.is told.stands told.lang told.plan told.question in
    record {
      next = next_there _ _ c.args.budget _ _ (sessions.Idle c.in-Idle.idle) c.idle_next.result so c.requires.ready.settled (λ stands quiet. c.idle_next.ensures.next _ stands);
      places = rw so.lang at c.idle_next.ensures.places;
      screen = rw so.lang at c.idle_next.ensures.screen;
      remembers = marks_there (sessions.Idle c.in-Idle.idle) _ _ c.args.budget _ c.idle_next.new.screen so.stands so.lang so.plan c.idle_next.ensures.marks;
      «open» = λ is. rw (so.lang, so.plan) at (c.idle_next.ensures.«open» _ so.stands is);
    }

pub returns-in-Asking-clause-next : goal.returns-in-Asking-clause-next
returns-in-Asking-clause-next g c =
    let told = c.session-session.ensures in
    let so = session_so g.P.Keep c.args.keep.now _ _ c.in-Asking.is told.stands told.lang told.plan told.question in
    asking_next _ _ c.args.budget _ _ c.in-Asking.field-0 so c.requires.ready.settled

pub returns-in-Over-clause-next : goal.returns-in-Over-clause-next
returns-in-Over-clause-next g c =
    let told = c.session-session.ensures in
    let so = session_so g.P.Keep c.args.keep.now _ _ c.in-Over.is told.stands told.lang told.plan told.question in
    over_next _ _ c.args.budget _ _ c.in-Over.field-0 (rw (c.lang-lang.ensures.is, c.in-Over.is) at c.lang-lang.ensures.lawful) so c.requires.ready.settled
