-- An entry that a keeper was asked to keep.
use Rattle.acq_loop.proofs.Prelude.{◌≡◌, ◌∙◌, ◌≤◌, ◌⊎◌, ◌++◌, ◌∷◌, [], ℕ, IsTrue, IsFalse, List, Some, None, Result, Ok, Err, OnOk, OnErr, IfErr, ap, sym, refl, inl, inr, ForSome, Event, DiskOf, standing_on, IsSettled, KeepOf, Keeps, IsKeeping, IsAddable, IsTried, calls_one, grown_none, grown_one, keeps_still, persists_one, fails_one, event_calls, event_goes_on, event_now, kept_failed, kept_faults, kept_memory, EventKept, ended_by, end_on_fault}
use Rattle.answer_journal.specs.declared.fault.JFault.TheVariants as journal
use Rattle.disk_model.specs.Disk.{Rose}
use Rattle.session_store.specs.declared.fault.SFault.{SFault}
use Rattle.session_store.specs.declared.fault.SFault.TheVariants as store
use Rattle.session_store.specs.Keeping.{HasKept, IsNotKept, IsUnmoved, HasSameTerms, LeavesEvent}
use Rattle.session_store.specs.Left.{OpensWith}
use Rattle.acq_loop.specs.declared.driving.Drove.{Drove}
use Rattle.acq_loop.specs.declared.driving.Drove.TheVariants as drove
use Rattle.std.proofs.lemmas.Result.{on_err_weaker, on_ok_weaker}

-- what a keeper's call answers
abbrev pub Answered : Type 0
Answered = Result (Unit {0}) SFault

-- it gives up for want of memory or for a fault of the disk alone
abbrev pub GivesUp : Answered → Type 0
GivesUp r = IfErr r (λ f. (f ≡ store.Memory) ⊎ (f ≡ store.Journal journal.DiskFault))

abbrev lost : SFault → Answered
lost e = Err e

-- the event was kept, or why it wasn't
pub event_kept : (e : Event) (before after : List Event) (r : Answered) → OnOk r (after ≡ before ++ e ∷ []) → OnErr r (after ≡ before) → GivesUp r → EventKept e before after (end_on_fault r)
event_kept e before after (Ok done) added same why = added
event_kept e before after (Err f) added same (inl memory) = (inl (ap ended_by memory), same)
event_kept e before after (Err f) added same (inr failed) = (inr (ap ended_by failed), same)

pub none_some : (d : Drove) → None ≡ Some d → ⊥
none_some d e = cc

not_memory : (f : SFault) → f ≡ store.Memory → end_on_fault (lost f) ≡ Some drove.DiskFault → ⊥
not_memory f is e = let bad : Some drove.Memory ≡ Some drove.DiskFault = sym (ap (λ (x : SFault). end_on_fault (lost x)) is) ∙ e in cc

-- a keeper's call that was to add this event, and what is said of it
pub record HasTried {K D : Type 0} (keep : KeepOf K D) (disk : DiskOf D) (old new : K) (x y : D) (e : Event) (r : Answered) : Type 0 where
  pub keeper : IsKeeping keep old x
  pub addable : IsAddable e
  pub tried : IsTried (keep.question old) e
  pub lasts : IsTrue (keep.writes old) → ForSome (disk.content x) (λ _. (c : List ℕ) → disk.may_leave x c → OpensWith (keep.plan old) (keep.voc old) (keep.record_of old) c)
  pub ok : OnOk r (HasKept (keep.lang new) (keep.plan new) (keep.record_of old) (keep.record_of new) e (keep.question new) (keep.live new))
  pub err : OnErr r (IsUnmoved (keep.record_of old) (keep.record_of new) (keep.question old) (keep.question new))
  pub same : HasSameTerms keep.lang keep.plan keep.voc keep.writes old new
  pub sits : keep.sits new y
  pub refused : IfErr r (IsNotKept ((keep.live new ≡ keep.live old) × (keep.raised new ≡ keep.raised old) × (y ≡ x)) (IsTrue (keep.writes old) × IsFalse (keep.live new) × Rose (disk.faults x) (disk.faults y)))
  pub leaves : LeavesEvent disk (keep.writes old) (keep.raised old) (keep.raised new) (keep.plan old) (keep.voc old) (keep.record_of old) e x y r

module _ {K D : Type 0} (keep : KeepOf K D) (disk : DiskOf D)
    (counts_now : (d : D) (t : ℕ) (c : List ℕ) → t ≤ disk.moment d → disk.may_leave d c → disk.left_since d t c) (only_now : (d : D) (c : List ℕ) → disk.left_since d (disk.moment d) c → disk.may_leave d c)
    (old new : K) (x y : D) (e : Event) where
  -- where nothing is open, no question is put
  pub settled_on : (r : Answered) → HasTried keep disk old new x y e r → end_on_fault r ≡ None → IsSettled (keep.lang old) (keep.plan old) (standing_on (keep.lang old) (keep.record_of new)) (keep.question new)
  settled_on (Ok done) call none = rw (call.same.same_lang, call.same.same_plan) at call.ok.settled
  settled_on (Err f) call none = absurd (let no : ⊥ = cc in no)

  pub kept_by : (r : Answered) → HasTried keep disk old new x y e r → EventKept e (keep.record_of old) (keep.record_of new) (end_on_fault r)
  kept_by r call = event_kept e (keep.record_of old) (keep.record_of new) r (on_ok_weaker r (λ k. k.added) call.ok) (on_err_weaker r (λ u. u.events) call.err) (kept_faults r _ _ call.refused)

  -- what the call has done
  keeps_by : (r : Answered) → HasTried keep disk old new x y e r → GivesUp r → Keeps keep disk (end_on_fault r ≡ Some drove.DiskFault) (λ lost. lost ≡ e) old new x y
  keeps_by (Ok done) call why =
      let on = event_goes_on disk (keep.writes old) (keep.raised old) (keep.raised new) (keep.plan old) (keep.voc old) (keep.record_of old) e x y (Ok done) call.leaves in
      let few = event_calls disk (keep.writes old) (keep.raised old) (keep.raised new) (keep.plan old) (keep.voc old) (keep.record_of old) e x y (Ok done) call.leaves in
      record {
        same_voc = call.same.same_voc;
        same_writes = call.same.same_writes;
        belongs = call.sits;
        later = on.later;
        is_live = λ no. call.ok.is_live;
        not_live = λ bad. absurd (none_some drove.DiskFault bad);
        told = on.told;
        cause = λ bad. absurd (none_some drove.DiskFault bad);
        grown = grown_one (keep.record_of old) (keep.record_of new) e call.addable call.ok.added;
        calls = λ no. calls_one disk counts_now only_now (keep.raised old) (keep.raised new) (keep.record_of old) (keep.record_of new) e call.addable call.ok.added x y call.leaves.raised few;
        unwritten = call.leaves.unwritten;
        persists = λ w bytes told no.
            persists_one disk counts_now only_now (keep.plan old) (keep.voc old) (keep.record_of old) (keep.record_of new) e x y call.ok.added
            (event_now disk (keep.writes old) (keep.raised old) (keep.raised new) (keep.plan old) (keep.voc old) (keep.record_of old) (keep.record_of new) e x y (Ok done) call.leaves call.ok.added w bytes told)
            ((call.leaves.written w).any_moment bytes told);
        fails = λ bad. absurd (none_some drove.DiskFault bad);
      }
  keeps_by (Err f) call (inl is) =
      let all = kept_memory (lost f) _ _ call.refused (ap lost is) in
      rw all.2 (keeps_still disk counts_now only_now keep (end_on_fault (lost f) ≡ Some drove.DiskFault) (λ lost. lost ≡ e) old new x (not_memory f is) call.same.same_plan call.same.same_voc call.err.events call.same.same_writes all.1 all.0 call.keeper.live
      (rw all.2 at call.sits) call.lasts)
  keeps_by (Err f) call (inr is) =
      let on = event_goes_on disk (keep.writes old) (keep.raised old) (keep.raised new) (keep.plan old) (keep.voc old) (keep.record_of old) e x y (lost f) call.leaves in
      let few = event_calls disk (keep.writes old) (keep.raised old) (keep.raised new) (keep.plan old) (keep.voc old) (keep.record_of old) e x y (lost f) call.leaves in
      let why = kept_failed (lost f) _ _ call.refused (ap lost is) in
      let bad : end_on_fault (lost f) ≡ Some drove.DiskFault = ap (λ (x : SFault). end_on_fault (lost x)) is in
      record {
        same_voc = call.same.same_voc;
        same_writes = call.same.same_writes;
        belongs = call.sits;
        later = on.later;
        is_live = λ no. absurd (no bad);
        not_live = λ so. why.1;
        told = on.told;
        cause = λ so. (why.0, why.2);
        grown = grown_none (keep.record_of old) (keep.record_of new) call.err.events;
        calls = λ no. absurd (no bad);
        unwritten = call.leaves.unwritten;
        persists = λ w bytes told no. absurd (no bad);
        fails = λ so.
            fails_one disk counts_now only_now (keep.raised old) (keep.plan old) (keep.voc old) (keep.record_of old) (keep.record_of new) e (keep.question new) (λ lost. lost ≡ e) x y
            call.err.events (rw call.err.question call.tried) refl few (λ bytes told. (call.leaves.written why.0).any_moment bytes told);
      }

  pub keeps_event : (r : Answered) → HasTried keep disk old new x y e r → Keeps keep disk (end_on_fault r ≡ Some drove.DiskFault) (λ lost. lost ≡ e) old new x y
  keeps_event r call = keeps_by r call (kept_faults r _ _ call.refused)
