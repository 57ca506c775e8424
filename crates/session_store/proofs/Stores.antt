-- A store beside its disk.
use Rattle.session_store.proofs.Prelude.{◌≡◌, ◌<◌, ◌⊎◌, ℕ, Bool, length, List, [], ◌∷◌, ◌++◌, Option, Some, None, Result, Ok, Err, IfErr, IsTrue, refl, sym, ◌∙◌, ap, subst, inl, inr, ForNone, ForSome, Event, Plan, Only, IsOnDisk, LeavesBehind, none_done, behind_as, nothing_behind, End, IsInPlace, Sits, HasNew, IsOldOrNew, IsSame, StartsWith, CreateRefused, JFault, Language, Session, Stray, IsVocabulary, refusal_of_vocabulary, VocFault, of_journal, ◌≤◌, All, true, IsErr, IsErrAnd, IsErrOf, IsFalse, OnOk, on_ok_weaker, DiskOf, lang_in, plan_in, StandsIn, events_held, IsHeld, IsWide, NoLanguage, NotLed, NotMade, NotOpened, replay, HavePlaces, NamesStray, SFault, SaysSession, OpensWith, OpensWithOrWithout, IsNotKept, LeavesEvent, calls_for, raised_by, IsThere, SitsOn, plan_of, voc_of, events_of, opens_there, same_Some}
use Rattle.answer_journal.specs.Found.{Refused}
use Rattle.answer_journal.specs.declared.fault.JFault.TheVariants as journal
use Rattle.session_store.specs.declared.fault.SFault.TheVariants as store
use Rattle.session_store.specs.declared.held.Held.{Held}
use Rattle.session_store.proofs.Replaying.{both_same}
use Rattle.session_store.specs.declared.store.Store.{Store}

-- where a call went well, what follows of that
pub on_ok : {A E P Q : Type 0} (r : Result A E) → (P → Q) → OnOk r P → OnOk r Q
on_ok (Ok x) then h = then h
on_ok (Err e) then h = tt

-- an append gave up with the disk, where it had room
pub append_failed : {P : Type 0} (r : Result (Unit {0}) JFault) → IfErr r (λ e. (e ≡ journal.Full) ⊎ (e ≡ journal.DiskFault)) → (IsErrOf r journal.Full → ⊥) → (IsErrOf r journal.DiskFault → P) → IfErr r (λ _. P)
append_failed (Ok x) faults room disk = tt
append_failed (Err e) (inl full) room disk = absurd (room (ap (λ (f : JFault). Err f) full))
append_failed (Err e) (inr failed) room disk = disk (ap (λ (f : JFault). Err f) failed)

pub on_err : {A E P : Type 0} (r : Result A E) → (IsErr r → P) → IfErr r (λ _. P)
on_err (Ok x) h = tt
on_err (Err e) h = h refl

-- it is there by the same plan and the same events
pub there_as : (place : End) (p q : Plan) (voc : List ℕ) (e f : List Event) (may_leave : List ℕ → Type 0) (bytes : List ℕ) → p ≡ q → e ≡ f → IsThere place p voc e may_leave bytes → IsThere place q voc f may_leave bytes
there_as place p q voc e f may_leave bytes same equal there =
    let One : Plan → Type 0 = λ x. IsThere place x voc e may_leave bytes in
    let Two : List Event → Type 0 = λ x. IsThere place q voc x may_leave bytes in
    subst Two equal (subst One same there)

pub sits_as : (old new : Store) (content : Option (List ℕ)) (may_leave : List ℕ → Type 0) → old.journal ≡ new.journal → voc_of old ≡ voc_of new → plan_of old ≡ plan_of new → events_of old ≡ events_of new →
    SitsOn old content may_leave → SitsOn new content may_leave
sits_as old new content may_leave journal voc plan events sits live bytes told =
    let Placed : End → Type 0 = λ j. IsTrue j.live in
    let One : End → Type 0 = λ j. IsThere j (plan_of old) (voc_of old) (events_of old) may_leave bytes in
    let Two : List ℕ → Type 0 = λ v. IsThere new.journal (plan_of old) v (events_of old) may_leave bytes in
    there_as new.journal (plan_of old) (plan_of new) (voc_of new) (events_of old) (events_of new) may_leave bytes plan events
    (subst Two voc (subst One journal (sits (subst Placed (sym journal) live) bytes told)))

true_is_not_false : IsFalse true → ⊥
true_is_not_false e = cc

-- the journal of a live store is in its place
pub in_place : {D : Type 0} (disk : DiskOf D) (keep : Store) (d : D) → IsTrue keep.journal.live → SitsOn keep (disk.content d) (disk.may_leave d) → IsInPlace disk keep.journal d
in_place disk keep d live sits = record { live = live; sits = λ bytes told. (sits live bytes told).behind; durable = λ bytes told. (sits live bytes told).durable }

module _ {D : Type 0} (disk : DiskOf D)
    (only_now : (d : D) (c : List ℕ) → disk.left_since d (disk.moment d) c → disk.may_leave d c) where
  -- nothing was done to a disk where the journal is in its place
  pub same_behind : (n : ℕ) (place : End) (d : D) → IsInPlace disk place d → LeavesBehind {D = D} {T = Unit {0}} {E = JFault} disk n d d (Ok tt) IsSame IsSame
  same_behind n place d there = nothing_behind disk n d (Ok tt) IsSame IsSame (only_now d)
      (λ b told. record { now = b; tells = told; durable = there.durable b told; holds = λ plan voc events spelled. spelled })
      (λ b c told left. subst (IsSame b) (sym (there.durable b told c left)) (λ plan voc events spelled. spelled))

  -- an event that wasn't added, and one that a journal was asked to add
  pub event_left_out : {T E : Type 0} (Q : E → Type 0) (was : Bool) (place : End) (plan : Plan) (voc : List ℕ) (events : List Event) (e : Event) (d : D) (r : Result T E) → ForSome (disk.content d) (IsThere place plan voc events (disk.may_leave d)) →
      IsErrAnd r Q → LeavesEvent disk true was was plan voc events e d d r
  event_left_out Q was place plan voc events e d r there failed = record {
    raised = none_done _ _ r failed;
    stays_raised = inl refl;
    unwritten = λ no. refl;
    written = λ w.
        nothing_behind disk (calls_for was e) d r (λ _. OpensWith plan voc (events ++ e ∷ [])) (λ _. OpensWithOrWithout plan voc events e) (only_now d)
        (λ b told. none_done _ _ r failed) (λ b c told left. inl (opens_there place plan voc events (disk.may_leave d) b c (there b told) left));
  }

  pub event_written : {T E U F : Type 0} (n : ℕ) (was is : Bool) (place : End) (plan : Plan) (voc : List ℕ) (events : List Event) (e : Event) (old new : D) (r : Result T E) (s : Result U F) → ForSome (disk.content old) (IsThere place plan voc events (disk.may_leave old)) →
      LeavesBehind disk n old new r (λ b. HasNew b e) (λ b. IsOldOrNew b e) → n ≤ calls_for was e → OnOk s (is ≡ raised_by was e) → (is ≡ was) ⊎ (is ≡ raised_by was e) → ((P : Type 0) → OnOk r P → OnOk s P) → LeavesEvent disk true was is plan voc events e old new s
  event_written n was is place plan voc events e old new r s there left few raises stays gives = record {
    raised = raises;
    stays_raised = stays;
    unwritten = λ no. absurd (true_is_not_false no);
    written = λ w.
        behind_as disk n (calls_for was e) old new r s (λ b. HasNew b e) (λ b. IsOldOrNew b e) (λ _. OpensWith plan voc (events ++ e ∷ [])) (λ _. OpensWithOrWithout plan voc events e) left few
        (λ b told. gives _ (on_ok_weaker r (λ t. record { now = t.now; tells = t.tells; durable = t.durable; holds = t.holds plan voc events (there b told).opens }) (left.now b told)))
        (λ b c told either. either plan voc events (there b told).opens);
  }

-- memory was wanting, and nothing was changed
pub want_of_memory : {A : Type 0} (unchanged lost : Type 0) (r : Result A SFault) → IsErrAnd r (λ e. e ≡ store.Memory) → unchanged → IfErr r (IsNotKept unchanged lost)
want_of_memory unchanged lost (Ok x) want same = tt
want_of_memory unchanged lost (Err e) want same = subst (IsNotKept unchanged lost) (sym want) same

-- a disk that tells now told before
pub told_before : (old new : Option (List ℕ)) → ForNone old (new ≡ None) → (bytes : List ℕ) → new ≡ Some bytes → (b : List ℕ) × (old ≡ Some b)
told_before None new silent bytes told = absurd (let bad : Some bytes ≡ None = sym told ∙ silent refl in cc)
told_before (Some b) new silent bytes told = (b, refl)

-- a session that wasn't moved
pub held_as : (old new : Held) → old.session ≡ new.session → events_held old ≡ events_held new → IsHeld old → IsHeld new
held_as old new session events held =
    let One : Option Session → Type 0 = λ s. StandsIn s (events_held old) in
    let Two : List Event → Type 0 = λ e. StandsIn new.session e in
    let Placed : Option Session → List Event → Type 0 = λ s e. HavePlaces (lang_in s) (plan_in s) e in
    record {
      stands = subst Two events (subst One session held.stands);
      few = subst (λ (e : List Event). length e < 1000000) events held.few;
      wide = subst (All IsWide) events held.wide;
      places = both_same Placed old.session new.session (events_held old) (events_held new) session events held.places;
    }

-- a new store, whose journal was just made
pub there_made : {D : Type 0} (disk : DiskOf D) (new : D) (place : End) (plan asked : Plan) (voc given : List ℕ) (events : List Event) (bytes : List ℕ) → disk.content new ≡ Some bytes → asked ≡ plan → given ≡ voc → events ≡ [] →
    Sits place bytes → Only bytes (disk.may_leave new) → IsOnDisk disk new (StartsWith asked given) → IsThere place plan voc events (disk.may_leave new) bytes
there_made disk new place plan asked voc given events bytes told planned same none sits only settled =
    let here : settled.now ≡ bytes = same_Some settled.now bytes (sym settled.tells ∙ told) in
    let A : Plan → Type 0 = λ p. OpensWith p given [] bytes in
    let B : List ℕ → Type 0 = λ v. OpensWith plan v [] bytes in
    let C : List Event → Type 0 = λ e. OpensWith plan voc e bytes in
    record { behind = sits; opens = subst C (sym none) (subst B same (subst A planned (subst (OpensWith asked given []) here settled.holds))); durable = only }

-- one fault is given
pub one_fault : (r : Result Store SFault) (x y : SFault) → r ≡ Err x → r ≡ Err y → x ≡ y
one_fault r x y e f = let same : Err x ≡ Err y = sym e ∙ f in cc

-- a fault of a journal is no fault of a vocabulary
pub no_voc : (fault : JFault) (f : VocFault) → of_journal fault ≡ store.Voc f → ⊥
no_voc journal.SessionThere f e = cc
no_voc journal.NoSession f e = cc
no_voc journal.NotAJournal f e = cc
no_voc (journal.Damaged at) f e = cc
no_voc journal.TooManyRecords f e = cc
no_voc journal.Full f e = cc
no_voc journal.DiskFault f e = cc
no_voc journal.Memory f e = cc

-- where the disk didn't fail, this holds
pub unless_failed : {A : Type 0} (fault : JFault) → (fault ≡ journal.DiskFault) ⊎ A → (of_journal fault ≡ store.Journal journal.DiskFault) ⊎ A
unless_failed fault (inl failed) = inl (ap of_journal failed)
unless_failed fault (inr holds) = inr holds

-- where nothing was written, this holds of each error
pub of_each_error : {A : Type 0} (r : Result Store SFault) → A → IfErr r (λ e. (e ≡ store.Journal journal.DiskFault) ⊎ A)
of_each_error (Ok s) a = tt
of_each_error (Err e) a = inr a

-- why no journal was made
pub not_made : (voc bytes : List ℕ) (fault : JFault) → refusal_of_vocabulary voc ≡ None → CreateRefused bytes fault → NotMade voc bytes (of_journal fault)
not_made voc bytes journal.SessionThere taken refused = (taken, refused)
not_made voc bytes journal.NoSession taken refused = absurd refused
not_made voc bytes journal.NotAJournal taken refused = (taken, refused)
not_made voc bytes (journal.Damaged at) taken refused = absurd refused
not_made voc bytes journal.TooManyRecords taken refused = absurd refused
not_made voc bytes journal.Full taken refused = absurd refused
not_made voc bytes journal.DiskFault taken refused = (taken, tt)
not_made voc bytes journal.Memory taken refused = tt

-- why no journal was opened
pub not_opened : (bytes : List ℕ) (fault : JFault) → (fault ≡ journal.DiskFault) ⊎ Refused bytes fault → NotOpened bytes (of_journal fault)
not_opened bytes journal.SessionThere (inl failed) = absurd cc
not_opened bytes journal.SessionThere (inr refused) = absurd refused
not_opened bytes journal.NoSession (inl failed) = absurd cc
not_opened bytes journal.NoSession (inr refused) = refused
not_opened bytes journal.NotAJournal (inl failed) = absurd cc
not_opened bytes journal.NotAJournal (inr refused) = refused
not_opened bytes (journal.Damaged at) (inl failed) = absurd cc
not_opened bytes (journal.Damaged at) (inr refused) = refused
not_opened bytes journal.TooManyRecords (inl failed) = absurd cc
not_opened bytes journal.TooManyRecords (inr refused) = refused
not_opened bytes journal.Full (inl failed) = absurd cc
not_opened bytes journal.Full (inr refused) = absurd refused
not_opened bytes journal.DiskFault either = tt
not_opened bytes journal.Memory either = tt

pub some_not_opened : (fault : JFault) → (fault ≡ journal.DiskFault) ⊎ ((bytes : List ℕ) × Refused bytes fault) → (bytes : List ℕ) × NotOpened bytes (of_journal fault)
some_not_opened fault (inl failed) = ([], not_opened [] fault (inl failed))
some_not_opened fault (inr (bytes, refused)) = (bytes, not_opened bytes fault (inr refused))

-- why its vocabulary is no language
pub no_language : (plan : Plan) (voc : List ℕ) (events : List Event) (fault : SFault) → NoLanguage voc fault → NotLed plan voc events fault
no_language plan voc events (store.Journal f) none = absurd none
no_language plan voc events (store.Voc f) refused = refused
no_language plan voc events (store.Stray i) none = absurd none
no_language plan voc events store.Memory refused = tt

-- which record has no place
pub strays : (plan asked : Plan) (voc : List ℕ) (events : List Event) (l m : Language) (fault : SFault) → IsVocabulary voc l → m ≡ l → asked ≡ plan → NamesStray m asked events fault → NotLed plan voc events fault
strays plan asked voc events l m (store.Stray i) vocabulary same planned stray =
    let Strays : Language → Plan → Type 0 = λ x p. replay x p events ≡ Stray i in
    record { lang = l; vocabulary = vocabulary; stray = both_same Strays m l asked plan same planned stray }
strays plan asked voc events l m store.Memory vocabulary same planned stray = tt
strays plan asked voc events l m (store.Journal f) vocabulary same planned stray = absurd stray
strays plan asked voc events l m (store.Voc f) vocabulary same planned stray = absurd stray

-- why the session that the bytes say is led nowhere
pub not_led : (bytes : List ℕ) (plan : Plan) (voc : List ℕ) (events : List Event) (fault : SFault) → SaysSession bytes plan voc events → NotLed plan voc events fault → NotOpened bytes fault
not_led bytes plan voc events (store.Journal f) says none = absurd none
not_led bytes plan voc events (store.Voc f) says refused = record { plan = plan; voc = voc; events = events; reads = says; refused = refused }
not_led bytes plan voc events (store.Stray i) says led =
    record { plan = plan; voc = voc; events = events; reads = says; lang = led.lang; vocabulary = led.vocabulary; stray = led.stray }
not_led bytes plan voc events store.Memory says refused = tt
