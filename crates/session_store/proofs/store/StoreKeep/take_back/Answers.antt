use Rattle.session_store.proofs.Prelude.{◌≡◌, ◌+◌, ◌++◌, ◌∷◌, [], ◌∙◌, List, refl, sym, ap, subst, arith, Event, Back, plan_in, OpensWith, calls_to_raise, plan_of, voc_of, events_of, same_Some}
use Rattle.session_store.proofs.Stores.{in_place, sits_as, event_left_out, event_written, want_of_memory, told_before, there_as}
use Rattle.session_store.proofs.store.StoreKeep.take_back.Goals as goal

pub returns-in_err-records-clause-sits : goal.returns-in_err-records-clause-sits
returns-in_err-records-clause-sits g c =
    sits_as c.args.self.now (record c.args.self.now { held = c.ready_back.new.self }) (g.D.Disk.content c.args.disk.now) (g.D.Disk.may_leave c.args.disk.now) refl refl
    (ap plan_in (sym c.ready_back.ensures.session)) (sym c.ready_back.ensures.events) c.requires.sits

pub returns-in_err-records-clause-refused : goal.returns-in_err-records-clause-refused
returns-in_err-records-clause-refused g c = want_of_memory _ _ c.from_residual.result c.from_residual.ensures.1 (refl, refl, refl)

pub returns-in_err-records-clause-leaves : goal.returns-in_err-records-clause-leaves
returns-in_err-records-clause-leaves g c =
    let s = c.args.self.now in
    event_left_out g.D.Disk g.met.D.Disk.only_now _ s.journal.raised s.journal (plan_of s) (voc_of s) (events_of s) Back c.args.disk.now c.from_residual.result (c.requires.sits c.requires.live) c.from_residual.ensures.1

pub append_back-requires-clause-there : goal.append_back-requires-clause-there
append_back-requires-clause-there g c = in_place g.D.Disk c.args.self.now c.args.disk.now c.requires.live c.requires.sits

pub returns-in-Ok-clause-sits : goal.returns-in-Ok-clause-sits
returns-in-Ok-clause-sits g c live bytes told =
    let s = c.args.self.now in
    let was = told_before _ _ c.append_back.ensures.leaves.goes_on.silent bytes told in
    let there = c.requires.sits c.requires.live was.0 was.1 in
    let settled = c.in-Ok.ensures.leaves.now was.0 was.1 in
    let here : settled.now ≡ bytes = same_Some settled.now bytes (sym settled.tells ∙ told) in
    let more : List Event = events_of s ++ Back ∷ [] in
    let opens : OpensWith (plan_of s) (voc_of s) more bytes = subst (OpensWith (plan_of s) (voc_of s) more) here (settled.holds (plan_of s) (voc_of s) (events_of s) there.opens) in
    there_as c.append_back.new.journal (plan_of s) _ (voc_of s) more _ (g.D.Disk.may_leave c.append_back.new.disk) bytes
    (ap plan_in (sym c.ready_back.ensures.session) ∙ sym c.add_back.ensures.plan) (ap (λ (l : List Event). l ++ Back ∷ []) (sym c.ready_back.ensures.events) ∙ sym c.add_back.ensures.events)
    (record { behind = c.in-Ok.ensures.there.sits bytes told; opens = opens; durable = c.in-Ok.ensures.there.durable bytes told })

pub returns-in-Ok-clause-leaves : goal.returns-in-Ok-clause-leaves
returns-in-Ok-clause-leaves g c =
    let s = c.args.self.now in
    event_written g.D.Disk g.met.D.Disk.only_now (4 + calls_to_raise s.journal.raised) s.journal.raised c.append_back.new.journal.raised s.journal (plan_of s) (voc_of s) (events_of s) Back c.args.disk.now c.append_back.new.disk _ _ (c.requires.sits c.requires.live) c.in-Ok.ensures.leaves (omega arith) c.in-Ok.ensures.raised c.append_back.ensures.stays (λ P p. p)

pub returns-clause-leaves : goal.returns-clause-leaves
returns-clause-leaves g c =
    let s = c.args.self.now in
    event_written g.D.Disk g.met.D.Disk.only_now (4 + calls_to_raise s.journal.raised) s.journal.raised c.append_back.new.journal.raised s.journal (plan_of s) (voc_of s) (events_of s) Back c.args.disk.now c.append_back.new.disk c.append_back.result _ (c.requires.sits c.requires.live) c.append_back.ensures.leaves (omega arith) tt c.append_back.ensures.stays (λ P p. tt)

pub returns-clause-refused : goal.returns-clause-refused
returns-clause-refused g c = (refl, c.in-Err.ensures.failed.1, c.in-Err.ensures.failed.0)

pub returns-in-Ok-clause-ok : goal.returns-in-Ok-clause-ok
returns-in-Ok-clause-ok g c = record {
  added = c.add_back.ensures.events ∙ ap (λ (l : List Event). l ++ Back ∷ []) c.ready_back.ensures.events;
  settled = c.add_back.ensures.settled;
  is_live = c.in-Ok.ensures.there.live;
}
