use Rattle.session_store.proofs.Prelude.{◌≡◌, ◌++◌, ◌∷◌, [], ◌∙◌, List, refl, sym, ap, subst, inl, arith, ⊎_elim, Result, Err, both_ways, IfOk-at_ok, JFault, Event, Language, IsVocabulary, lang_in, plan_in, events_held, LeavesBehind, HasNew, IsOldOrNew, OpensWith, plan_of, voc_of, events_of, question_of, answer_event, same_Some}
use Rattle.session_store.proofs.Stores.{in_place, sits_as, held_as, event_left_out, event_written, want_of_memory, told_before, there_as}
use Rattle.session_store.proofs.Storables.{answer_has_room}
use Rattle.session_store.proofs.store.StoreKeep.answer.Goals as goal

abbrev lost : JFault → Result (Unit {0}) JFault
lost e = Err e

pub returns-in_err-make_room-clause-sits : goal.returns-in_err-make_room-clause-sits
returns-in_err-make_room-clause-sits g c =
    sits_as c.args.self.now (record c.args.self.now { held = c.make_room.new.self }) (g.D.Disk.content c.args.disk.now) (g.D.Disk.may_leave c.args.disk.now) refl refl
    (ap plan_in (sym c.make_room.ensures.session)) (sym c.make_room.ensures.events) c.requires.sits

pub returns-in_err-make_room-clause-refused : goal.returns-in_err-make_room-clause-refused
returns-in_err-make_room-clause-refused g c = want_of_memory _ _ c.from_residual.result c.from_residual.ensures.1 (refl, refl, refl)

pub returns-in_err-make_room-clause-leaves : goal.returns-in_err-make_room-clause-leaves
returns-in_err-make_room-clause-leaves g c q put =
    let s = c.args.self.now in
    event_left_out g.D.Disk g.met.D.Disk.only_now _ s.journal.raised s.journal (plan_of s) (voc_of s) (events_of s) (answer_event q c.args.yes) c.args.disk.now c.from_residual.result (c.requires.sits c.requires.live) c.from_residual.ensures.1

pub append-requires-clause-there : goal.append-requires-clause-there
append-requires-clause-there g c = in_place g.D.Disk c.args.self.now c.args.disk.now c.requires.live c.requires.sits

pub returns-in-Ok-clause-sits : goal.returns-in-Ok-clause-sits
returns-in-Ok-clause-sits g c live bytes told =
    let s = c.args.self.now in
    let was = told_before _ _ c.append.ensures.leaves.goes_on.silent bytes told in
    let there = c.requires.sits c.requires.live was.0 was.1 in
    let settled = c.in-Ok.ensures.leaves.now was.0 was.1 in
    let here : settled.now ≡ bytes = same_Some settled.now bytes (sym settled.tells ∙ told) in
    let more : List Event = events_of s ++ c.event-event.result ∷ [] in
    let opens : OpensWith (plan_of s) (voc_of s) more bytes = subst (OpensWith (plan_of s) (voc_of s) more) here (settled.holds (plan_of s) (voc_of s) (events_of s) there.opens) in
    there_as c.append.new.self (plan_of s) _ (voc_of s) more _ (g.D.Disk.may_leave c.append.new.disk) bytes
    (ap plan_in (sym c.make_room.ensures.session) ∙ sym c.add.ensures.plan) (ap (λ (l : List Event). l ++ c.event-event.result ∷ []) (sym c.make_room.ensures.events) ∙ sym c.add.ensures.events)
    (record { behind = c.in-Ok.ensures.there.sits bytes told; opens = opens; durable = c.in-Ok.ensures.there.durable bytes told })

pub returns-in-Err-clause-sound : goal.returns-in-Err-clause-sound
returns-in-Err-clause-sound g c =
    let s = c.args.self.now in
    let Read : Language → Type 0 = λ l. IsVocabulary (voc_of s) l in
    record {
      held = held_as s.held c.make_room.new.self (sym c.make_room.ensures.session) (sym c.make_room.ensures.events) c.requires.sound.held;
      read = subst Read (ap lang_in (sym c.make_room.ensures.session)) c.requires.sound.read;
      count = λ live. absurd (⊎_elim
          (λ full. let all = c.in-Err.ensures.full.0 (ap lost full) in let count = c.requires.sound.count c.requires.live in let room = c.requires.room in let no : ⊥ = omega arith in no)
          (λ failed. both_ways _ (c.in-Err.ensures.failed (ap lost failed)).1.not_live live) c.in-Err.ensures.faults);
    }

pub append-requires-clause-has_place : goal.append-requires-clause-has_place
append-requires-clause-has_place g c = answer_has_room c.args.self.now.journal.raised (question_of c.args.self.now) c.args.yes c.event-event.result c.requires.put c.event-event.ensures.is

pub returns-in-Ok-clause-leaves : goal.returns-in-Ok-clause-leaves
returns-in-Ok-clause-leaves g c q put =
    let s = c.args.self.now in
    let Added : Event → Type 0 = λ e. LeavesBehind g.D.Disk 4 c.args.disk.now c.append.new.disk c.append.result (λ b. HasNew b e) (λ b. IsOldOrNew b e) in
    event_written g.D.Disk g.met.D.Disk.only_now 4 s.journal.raised c.append.new.self.raised s.journal (plan_of s) (voc_of s) (events_of s) (answer_event q c.args.yes) c.args.disk.now c.append.new.disk c.append.result _ (c.requires.sits c.requires.live)
    (subst Added (c.event-event.ensures.is q put) c.append.ensures.leaves) (omega arith) c.append.ensures.raised (inl c.append.ensures.raised) (λ P p. IfOk-at_ok (λ _. P) c.in-Ok.is p)

pub returns-in-Ok-clause-ok : goal.returns-in-Ok-clause-ok
returns-in-Ok-clause-ok g c q put =
    let Is : Event → Type 0 = λ e. events_held c.add.new.self ≡ events_of c.args.self.now ++ e ∷ [] in
    record {
      added = subst Is (c.event-event.ensures.is q put) (c.add.ensures.events ∙ ap (λ (l : List Event). l ++ c.event-event.result ∷ []) c.make_room.ensures.events);
      settled = c.add.ensures.settled;
      is_live = c.in-Ok.ensures.there.live;
    }

pub returns-in-Err-clause-leaves : goal.returns-in-Err-clause-leaves
returns-in-Err-clause-leaves g c q put =
    let s = c.args.self.now in
    let Added : Event → Type 0 = λ e. LeavesBehind g.D.Disk 4 c.args.disk.now c.append.new.disk c.append.result (λ b. HasNew b e) (λ b. IsOldOrNew b e) in
    event_written g.D.Disk g.met.D.Disk.only_now 4 s.journal.raised c.append.new.self.raised s.journal (plan_of s) (voc_of s) (events_of s) (answer_event q c.args.yes) c.args.disk.now c.append.new.disk c.append.result _ (c.requires.sits c.requires.live)
    (subst Added (c.event-event.ensures.is q put) c.append.ensures.leaves) (omega arith) tt (inl c.append.ensures.raised) (λ P p. tt)

pub returns-in-Err-clause-refused : goal.returns-in-Err-clause-refused
returns-in-Err-clause-refused g c =
    ⊎_elim
    (λ full. let all = c.in-Err.ensures.full.0 (ap lost full) in let count = c.requires.sound.count c.requires.live in let room = c.requires.room in absurd (let no : ⊥ = omega arith in no))
    (λ failed. let why = c.in-Err.ensures.failed (ap lost failed) in (refl, why.1.not_live, why.0)) c.in-Err.ensures.faults
