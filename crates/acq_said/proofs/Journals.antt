-- What a run over a journal has done, of its opening and its loop.
use Rattle.acq_said.proofs.Prelude.{◌≡◌, ◌⊎◌, ◌+◌, ◌≤◌, ℕ, Bool, List, [], ◌∷◌, ◌++◌, Option, Some, Result, Ok, Err, refl, sym, ◌∙◌, ap, subst, inl, inr, ⊎_elim, arith, append_cancel_left, IfOk, OnErr, IsSome, ForSome, append-nil, DiskOf, Put, AreReadingCalls, Assignment, Event, Plan, LeavesOnly, joined, Language, IsLanguage, OpensWith, OpensWithin, SaysSession, LeavesNow, bytes_told, all_calls, IsRaisedOn, AreEventCalls, IsGrown, Persists, FailsWith, HavePlaces, plan_of, voc_of, events_of, IsThere, is_raised_in, opens_there, Store, SFault, IsVocabulary, BreaksRun, Turns, Told, IsAdded, run_laws, Loses, point_of, terms_with, Tries, RunGoesOn, Ending, Saying, Unsaid, Opened, opened_as, lang_of, SaysOver, AllFault, MatchResult, IsSaid, voc_refused}
use Rattle.answer_journal.specs.Synced.{IsSynced}
use Rattle.session_store.specs.Opened.{IsSession}
use Rattle.session_store.specs.Opening.{NotOpened}
use Rattle.answer_journal.specs.declared.fault.JFault.TheVariants as journal
use Rattle.session_store.specs.declared.fault.SFault.TheVariants as store
use Rattle.acq_loop.proofs.Added.{placed_event}
use Rattle.voc_read.specs.declared.fault.VocFault.TheVariants as vocs
use Rattle.acq_said.specs.Making.{IsJournalMade, IsNotMade}
use Rattle.acq_said.proofs.Closings.{okay, same_ok, err_ok}
use Rattle.acq_said.proofs.Spoken.{ok_any}
use Rattle.acq_loop.specs.declared.ending.Ending.TheVariants as ending

-- a person may give any answer
abbrev pub any_answer : Language → Assignment → Told → Type 0
any_answer l q told = Unit {0}

abbrev pub IsDisk : Result Ending Put → Type 0
IsDisk got = got ≡ Ok ending.DiskFault

other_ending : (e : Ending) → (e ≡ ending.DiskFault) ⊎ (e ≡ ending.DiskFault → ⊥)
other_ending ending.DiskFault = inl refl
other_ending e = inr (λ is. cc)

-- whether the disk failed
pub disk_failed : (got : Result Ending Put) → IsDisk got ⊎ (IsDisk got → ⊥)
disk_failed (Err e) = inr (err_ok e ending.DiskFault)
disk_failed (Ok end) = ⊎_elim (λ is. inl (ap okay is)) (λ other. inr (λ h. other (same_ok end ending.DiskFault h))) (other_ending end)

module _ {D : Type 0} (disk : DiskOf D) where
  -- what holds of its language, plan and events holds of what it is about
  pub goes_on_with : (P : Language → Plan → List Event → List Event → Type 0) (turns : Turns) (may : Language → Assignment → Told → Type 0) (budget : ℕ) (left written left' written' : Option (List ℕ)) (first old new : D) (got : Result Ending Put) (plan : Plan) (voc : List ℕ) (events later : List Event) (open_then : Option Assignment) (lang : Language) (was is : Bool) →
      ForSome (disk.content first) (λ bytes. SaysSession bytes plan voc events) → ((bytes : List ℕ) × SaysSession bytes plan voc events) → IsVocabulary voc lang → HavePlaces lang plan events → disk.content old ≡ disk.content first → LeavesOnly disk first old (disk.may_leave first) → ForSome (disk.content first) (AreReadingCalls 5 (disk.calls first) (disk.calls old)) →
      ForSome (disk.content first) (λ bytes. IsRaisedOn bytes was) → (grown : IsGrown events later) → ((IsDisk got → ⊥) → AreEventCalls disk was is grown.more old new) →
      IsLanguage lang → IsAdded lang plan (may lang) events later → ForSome (disk.content old) (λ _. IsSome (disk.content new)) → ((IsDisk got → ⊥) → ForSome (disk.content old) (λ _. Persists disk plan voc events later old new)) →
      (IsDisk got → FailsWith disk was grown.more plan voc events later open_then
      (Loses turns lang (terms_with plan budget) (point_of events left written) (point_of later left' written')) old new) →
      IfOk got (Tries turns lang (terms_with plan budget) events later left written left' written') →
      OnErr got (BreaksRun turns lang (terms_with plan budget) events later left written left' written') →
      P lang plan events later →
      (on : RunGoesOn disk turns may budget left written left' written' first new got) × P on.of.lang on.of.plan on.of.events on.later
  goes_on_with P turns may budget left written left' written' first old new got plan voc events later open_then lang was is says some read places still opening few knows grown calls lawful added on persists fails tries part has =
      ⊎_elim
      (λ is.
      let f = fails is in
      with_last (f.event ∷ []) (λ no. absurd (no is)) (λ so. (f.event, refl, f.lost))
      (placed_event run_laws lang lawful (terms_with plan budget) later f.lost.question f.event f.lost.puts f.lost.fits f.lost.follows (added.places places)) f.any_moment
      (λ bytes told. let t = bytes_told (disk.content new) (on bytes told) in record { bytes = t.0; tells = t.1; each = f.now bytes told }) f.few)
      (λ no.
      let p = persists no in
      let same : later ≡ later ++ [] = sym (append-nil later) in
      with_last [] (λ so. refl) (λ is. absurd (no is)) (subst (λ (es : List Event). HavePlaces lang plan es) same (added.places places))
      (λ bytes told. subst (λ (es : List Event). LeavesOnly disk old new (OpensWithin plan voc events es)) same (p bytes told).any_moment)
      (λ bytes told. let n = (p bytes told).now in record { bytes = n.bytes; tells = n.tells; each = λ c left. inl (n.each c left) })
      (subst (λ (es : List Event). disk.calls new ≤ disk.calls old + all_calls was es) (sym (append-nil grown.more)) (calls no).few))
      (disk_failed got)
    where
      with_last : (last : List Event) → ((IsDisk got → ⊥) → last ≡ []) → (IsDisk got → (lost : Event) × (last ≡ lost ∷ []) × Loses turns lang (terms_with plan budget) (point_of events left written) (point_of later left' written') lost) → HavePlaces lang plan (later ++ last) →
          ForSome (disk.content old) (λ _. LeavesOnly disk old new (OpensWithin plan voc events (later ++ last))) → ForSome (disk.content old) (λ _. LeavesNow disk (λ c. OpensWith plan voc later c ⊎ OpensWith plan voc (later ++ last) c) new) →
          disk.calls new ≤ disk.calls old + all_calls was (grown.more ++ last) → (on : RunGoesOn disk turns may budget left written left' written' first new got) × P on.of.lang on.of.plan on.of.events on.later
      with_last last none_lost one_lost all_places within now all =
          let o : Opened = opened_as plan voc events lang in
          let session : IsSession o = record { read = read; places = places } in
          let more : grown.more ≡ added.more = append_cancel_left events grown.more added.more (sym grown.is ∙ added.is) in (
            record {
              of = o;
              opens = λ bytes told. record { says = says bytes told; session = session };
              some = (some.0, record { says = some.1; session = session });
              later = later;
              added = added;
              tries = tries;
              part = part;
              last = last;
              none_lost = none_lost;
              one_lost = one_lost;
              all_places = all_places;
              any_moment = λ bytes told.
                  joined disk first old new (disk.may_leave first) (OpensWithin plan voc events (later ++ last)) (λ c. disk.may_leave first c ⊎ OpensWithin plan voc events (later ++ last) c) opening (within bytes (still ∙ told))
                  (λ c was. inl was) (λ c opens. inr opens);
              now = λ bytes told. now bytes (still ∙ told);
              raised = was;
              was_raised = knows;
              calls = λ bytes told. let made = subst (λ (es : List Event). disk.calls new ≤ disk.calls old + all_calls was (es ++ last)) more all in omega (arith, few bytes told, made);
            },
            has,
          )

-- ---- making a journal

-- what was made of the input's bytes
abbrev pub MakesOf : {D : Type 0} (disk : DiskOf D) → Plan → D → D → Result (List ℕ) AllFault → Result Saying Unsaid → Type 0
MakesOf disk plan old new read said = MatchResult read (λ voc. IsJournalMade disk plan voc old new said ⊎ IsNotMade disk plan voc old new said) (λ e. IsSaid (voc_refused vocs.TooLong) said)

-- ---- opening a journal

abbrev pub not_opened : SFault → Result Store SFault
not_opened e = Err e

-- whether its journal is raised
pub opened_raised : (opened : Store) (may_leave : List ℕ → Type 0) (bytes : List ℕ) → IsThere opened.journal (plan_of opened) (voc_of opened) (events_of opened) may_leave bytes → IsRaisedOn bytes (is_raised_in opened)
opened_raised opened may_leave bytes there = record { place = opened.journal; behind = there.behind; is = refl }

-- what is left of a store that was just opened
pub opened_now : {D : Type 0} (disk : DiskOf D) (new : D) (opened : Store) (bytes : List ℕ) → disk.content new ≡ Some bytes →
    IsThere opened.journal (plan_of opened) (voc_of opened) (events_of opened) (disk.may_leave new) bytes → LeavesNow disk (OpensWith (plan_of opened) (voc_of opened) (events_of opened)) new
opened_now disk new opened bytes told there = record {
  bytes = bytes;
  tells = told;
  each = λ c left. opens_there opened.journal (plan_of opened) (voc_of opened) (events_of opened) (disk.may_leave new) bytes c there left;
}

-- the session of a store
abbrev pub opened_in : Store → Opened
opened_in store = opened_as (plan_of store) (voc_of store) (events_of store) (lang_of store)

-- what was said of a journal that was opened, or of one that wasn't
module _ {D : Type 0} (disk : DiskOf D) (Says : Result Opened SFault → Result Saying Unsaid → Type 0) (IsTrueOf : Opened → Type 0) (old new : D) (said : Result Saying Unsaid)
    (same : disk.content new ≡ disk.content old) (any_moment : LeavesOnly disk old new (disk.may_leave old)) (calls : ForSome (disk.content old) (AreReadingCalls 5 (disk.calls old) (disk.calls new))) where
  pub over_opened : (store : Store) → ForSome (disk.content old) (λ bytes. SaysSession bytes (plan_of store) (voc_of store) (events_of store)) → ((bytes : List ℕ) × SaysSession bytes (plan_of store) (voc_of store) (events_of store)) →
      IsVocabulary (voc_of store) (lang_of store) → HavePlaces (lang_of store) (plan_of store) (events_of store) →
      ((bytes : List ℕ) → disk.content new ≡ Some bytes → IsThere store.journal (plan_of store) (voc_of store) (events_of store) (disk.may_leave new) bytes) →
      Says (Ok (opened_in store)) said → IfOk said (λ _. IsTrueOf (opened_in store)) → SaysOver disk Says IsTrueOf old new said
  over_opened store opens some read places sits says so =
      let session : IsSession (opened_in store) = record { read = read; places = places } in
      record {
        opening = Ok (opened_in store);
        opens = λ bytes told. record { says = opens bytes told; session = session };
        some = (some.0, record { says = some.1; session = session });
        session = session;
        says = says;
        so = so;
        same = same;
        any_moment = any_moment;
        now = λ bytes told. let was = same ∙ told in opened_now disk new store bytes was (sits bytes was);
        calls = calls;
      }

  pub over_refused : (fault : SFault) → ForSome (disk.content old) (λ bytes. NotOpened bytes fault) → ((bytes : List ℕ) × NotOpened bytes fault) →
      ForSome (disk.content old) (IsSynced disk (fault ≡ store.Journal journal.DiskFault) old new) ⊎ ((fault ≡ store.Memory) × (new ≡ old)) → Says (Err fault) said → SaysOver disk Says IsTrueOf old new said
  over_refused fault opens some synced says = record {
    opening = Err fault;
    opens = opens;
    some = some;
    session = tt;
    says = says;
    so = ok_any said tt;
    same = same;
    any_moment = any_moment;
    now = synced;
    calls = calls;
  }
