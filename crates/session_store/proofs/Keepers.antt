-- Calls of a keeper, one after another.
use Rattle.session_store.proofs.Prelude.{◌≡◌, ◌≤◌, ◌⊎◌, ⊎_elim, ◌+◌, ℕ, IsTrue, Bool, true, false, List, [], ◌∷◌, ◌++◌, Option, Some, is_some, Result, Ok, Err, refl, sym, ◌∙◌, ap, subst, inl, inr, arith, append_assoc, ForSome, IfErr, IsErrOf, OnOk, IfErr-at_err, append-nil, All-nil, All-cons, All-append, Assignment, Event, Plan, DiskOf, Rose, GoesOn, IsOnDisk, LeavesOnly, started, joined, weaker, IsAddable, IsTried, OpensWith, OpensWithOrWithout, OpensWithin, HoldsAtLeast, LeavesNow, bytes_told, IsGrown, IsNotKept, LeavesEvent, Persists, AreEventCalls, FailsWith, calls_for, all_calls, raised_after, raised_by, SFault}
use Rattle.answer_journal.specs.declared.fault.JFault.TheVariants as journal
use Rattle.session_store.specs.Keeps.{Keeps, LosesNone, OnlyPuts}
use Rattle.session_store.specs.declared.fault.SFault.TheVariants as store
use Rattle.session_store.specs.declared.keep.Keep.{Ghosts as KeepOf}

-- ---- events

pub grown_none : (before after : List Event) → after ≡ before → IsGrown before after
grown_none before after same = record { more = []; is = same ∙ sym (append-nil before); each = All-nil IsAddable }

pub grown_one : (before after : List Event) (e : Event) → IsAddable e → after ≡ before ++ e ∷ [] → IsGrown before after
grown_one before after e addable is = record { more = e ∷ []; is = is; each = All-cons IsAddable e [] addable (All-nil IsAddable) }

pub grown_then : (one two three : List Event) → IsGrown one two → IsGrown two three → IsGrown one three
grown_then one two three first second = record {
  more = first.more ++ second.more;
  is = second.is ∙ ap (λ (l : List Event). l ++ second.more) first.is ∙ append_assoc one first.more second.more;
  each = All-append IsAddable first.more second.more first.each second.each;
}

-- whether they leave the journal raised, and how many calls they take
raised_after-append : (raised : Bool) (one two : List Event) → raised_after raised (one ++ two) ≡ raised_after (raised_after raised one) two
raised_after-append raised [] two = refl
raised_after-append raised (e ∷ one) two = raised_after-append (raised_by raised e) one two

calls_of-append : (raised : Bool) (one two : List Event) → all_calls raised (one ++ two) ≡ all_calls raised one + all_calls (raised_after raised one) two
calls_of-append raised [] two = omega arith
calls_of-append raised (e ∷ one) two = omega (arith, calls_of-append (raised_by raised e) one two)

-- after the first ones it is raised or not as they leave it
calls_after : (was is : Bool) (one two : List Event) → is ≡ raised_after was one → all_calls was (one ++ two) ≡ all_calls was one + all_calls is two
calls_after was is one two after = let Calls : Bool → Type 0 = λ b. all_calls was (one ++ two) ≡ all_calls was one + all_calls b two in subst Calls (sym after) (calls_of-append was one two)

-- ---- contents

pub within_more : (plan : Plan) (voc : List ℕ) (before mid after more : List Event) (c : List ℕ) → after ≡ mid ++ more → OpensWithin plan voc before mid c → OpensWithin plan voc before after c
within_more plan voc before mid after more c grown w = record {
  some = w.some;
  rest = w.rest ++ more;
  is = grown ∙ ap (λ (l : List Event). l ++ more) w.is ∙ append_assoc before (w.some ++ w.rest) more ∙ ap (λ (l : List Event). before ++ l) (append_assoc w.some w.rest more);
  opens = w.opens;
}

pub within_from : (plan : Plan) (voc : List ℕ) (before mid after more : List Event) (c : List ℕ) → mid ≡ before ++ more → OpensWithin plan voc mid after c → OpensWithin plan voc before after c
within_from plan voc before mid after more c grown w = record {
  some = more ++ w.some;
  rest = w.rest;
  is = w.is ∙ ap (λ (l : List Event). l ++ (w.some ++ w.rest)) grown ∙ append_assoc before more (w.some ++ w.rest) ∙ ap (λ (l : List Event). before ++ l) (sym (append_assoc more w.some w.rest));
  opens = subst (λ (l : List Event). OpensWith plan voc l c) (ap (λ (l : List Event). l ++ w.some) grown ∙ append_assoc before more w.some) w.opens;
}

pub within_none : (plan : Plan) (voc : List ℕ) (events : List Event) (c : List ℕ) → OpensWith plan voc events c → OpensWithin plan voc events events c
within_none plan voc events c opens = record {
  some = [];
  rest = [];
  is = sym (append-nil events);
  opens = subst (λ (l : List Event). OpensWith plan voc l c) (sym (append-nil events)) opens;
}

pub within_one : (plan : Plan) (voc : List ℕ) (events : List Event) (e : Event) (c : List ℕ) → OpensWithOrWithout plan voc events e c → OpensWithin plan voc events (events ++ e ∷ []) c
within_one plan voc events e c (inl opens) = within_more plan voc events events (events ++ e ∷ []) (e ∷ []) c refl (within_none plan voc events c opens)
within_one plan voc events e c (inr opens) = record { some = e ∷ []; rest = []; is = ap (λ (l : List Event). events ++ l) (sym (append-nil (e ∷ []))); opens = opens }

pub at_least : (plan : Plan) (voc : List ℕ) (before after : List Event) (c : List ℕ) → OpensWithin plan voc before after c → HoldsAtLeast plan voc before c
at_least plan voc before after c w = record { more = w.some; opens = w.opens }

pub rose_later : (a b c : ℕ) → a ≤ b → Rose b c → Rose a c
rose_later a b c le rose = omega arith

pub both_as : {A B : Type 0} (P : A → B → Type 0) (a b : A) (v w : B) → a ≡ b → v ≡ w → P a v → P b w
both_as {A} {B} P a b v w e f p = let One : A → Type 0 = λ x. P x v in let Two : B → Type 0 = λ y. P b y in subst Two f (subst One e p)

-- ---- a call that adds an event

-- why it gives up
pub kept_faults : {A : Type 0} (r : Result A SFault) (unchanged lost : Type 0) → IfErr r (IsNotKept unchanged lost) → IfErr r (λ e. (e ≡ store.Memory) ⊎ (e ≡ store.Journal journal.DiskFault))
kept_faults (Ok x) unchanged lost none = tt
kept_faults (Err store.Memory) unchanged lost so = inl refl
kept_faults (Err (store.Journal journal.DiskFault)) unchanged lost so = inr refl
kept_faults (Err (store.Journal journal.Memory)) unchanged lost so = absurd so
kept_faults (Err (store.Journal journal.SessionThere)) unchanged lost so = absurd so
kept_faults (Err (store.Journal journal.NoSession)) unchanged lost so = absurd so
kept_faults (Err (store.Journal journal.NotAJournal)) unchanged lost so = absurd so
kept_faults (Err (store.Journal (journal.Damaged at))) unchanged lost so = absurd so
kept_faults (Err (store.Journal journal.TooManyRecords)) unchanged lost so = absurd so
kept_faults (Err (store.Journal journal.Full)) unchanged lost so = absurd so
kept_faults (Err (store.Voc fault)) unchanged lost so = absurd so
kept_faults (Err (store.Stray i)) unchanged lost so = absurd so

pub kept_memory : {A : Type 0} (r : Result A SFault) (unchanged lost : Type 0) → IfErr r (IsNotKept unchanged lost) → IsErrOf r store.Memory → unchanged
kept_memory r unchanged lost so is = IfErr-at_err (IsNotKept unchanged lost) is so

pub kept_failed : {A : Type 0} (r : Result A SFault) (unchanged lost : Type 0) → IfErr r (IsNotKept unchanged lost) → IsErrOf r (store.Journal journal.DiskFault) → lost
kept_failed r unchanged lost so is = IfErr-at_err (IsNotKept unchanged lost) is so

-- what it leaves of the disk
module _ {D T E : Type 0} (disk : DiskOf D) where
  pub event_goes_on : (writes was is : Bool) (plan : Plan) (voc : List ℕ) (before : List Event) (e : Event) (old new : D) (r : Result T E) → LeavesEvent disk writes was is plan voc before e old new r → GoesOn disk old new
  event_goes_on true was is plan voc before e old new r left = (left.written refl).goes_on
  event_goes_on false was is plan voc before e old new r left =
      subst (GoesOn disk old) (sym (left.unwritten refl)) (record { later = omega arith; silent = λ none. none; told = λ bytes is. ap is_some is })

  pub event_calls : (writes was is : Bool) (plan : Plan) (voc : List ℕ) (before : List Event) (e : Event) (old new : D) (r : Result T E) → LeavesEvent disk writes was is plan voc before e old new r → disk.calls new ≤ disk.calls old + calls_for was e
  event_calls true was is plan voc before e old new r left = (left.written refl).few_calls
  event_calls false was is plan voc before e old new r left = let same : disk.calls new ≡ disk.calls old = ap (λ (d : D). disk.calls d) (left.unwritten refl) in omega (arith, same)

  event_opens : (r : Result T E) (plan : Plan) (voc : List ℕ) (before after : List Event) (e : Event) (new : D) → OnOk r (after ≡ before ++ e ∷ []) → OnOk r (IsOnDisk disk new (OpensWith plan voc (before ++ e ∷ []))) →
      OnOk r (LeavesNow disk (OpensWith plan voc after) new)
  event_opens (Ok x) plan voc before after e new added there = record {
    bytes = there.now;
    tells = there.tells;
    each = λ c left. subst (λ (l : List Event). OpensWith plan voc l c) (sym added) (subst (OpensWith plan voc (before ++ e ∷ [])) (sym (there.durable c left)) there.holds);
  }
  event_opens (Err f) plan voc before after e new added there = tt

  pub event_now : (writes was is : Bool) (plan : Plan) (voc : List ℕ) (before after : List Event) (e : Event) (old new : D) (r : Result T E) → LeavesEvent disk writes was is plan voc before e old new r → OnOk r (after ≡ before ++ e ∷ []) →
      IsTrue writes → ForSome (disk.content old) (λ _. OnOk r (LeavesNow disk (OpensWith plan voc after) new))
  event_now writes was is plan voc before after e old new r left added w bytes told = event_opens r plan voc before after e new added ((left.written w).now bytes told)

  pub event_left : (writes was is : Bool) (plan : Plan) (voc : List ℕ) (before : List Event) (e : Event) (old new : D) (r : Result T E) → LeavesEvent disk writes was is plan voc before e old new r →
      IsTrue writes → ForSome (disk.content old) (λ _. LeavesOnly disk old new (OpensWithOrWithout plan voc before e))
  event_left writes was is plan voc before e old new r left w = (left.written w).any_moment

-- ---- calls

module _ {D : Type 0} (disk : DiskOf D)
    (counts_now : (d : D) (t : ℕ) (c : List ℕ) → t ≤ disk.moment d → disk.may_leave d c → disk.left_since d t c) (only_now : (d : D) (c : List ℕ) → disk.left_since d (disk.moment d) c → disk.may_leave d c) where
  -- before the first call
  pub persists_none : (plan : Plan) (voc : List ℕ) (events : List Event) (d : D) (bytes : List ℕ) → disk.content d ≡ Some bytes → ((c : List ℕ) → disk.may_leave d c → OpensWith plan voc events c) →
      Persists disk plan voc events events d d
  persists_none plan voc events d bytes told opens = record {
    now = record { bytes = bytes; tells = told; each = opens };
    any_moment = started disk d (OpensWithin plan voc events events) (λ c left. within_none plan voc events c (opens c (only_now d c left)));
  }

  -- one run after another
  pub persists_then : (plan : Plan) (voc : List ℕ) (one two three : List Event) (old mid new : D) → IsGrown one two → IsGrown two three →
      Persists disk plan voc one two old mid → Persists disk plan voc two three mid new →
      Persists disk plan voc one three old new
  persists_then plan voc one two three old mid new grown longer first second = record {
    now = second.now;
    any_moment = joined disk old mid new (OpensWithin plan voc one two) (OpensWithin plan voc two three) (OpensWithin plan voc one three) first.any_moment second.any_moment
        (λ c w. within_more plan voc one two three longer.more c longer.is w) (λ c w. within_from plan voc one two three grown.more c grown.is w);
  }

  -- no call was made but for the events
  calls_none : (was is : Bool) (before after : List Event) (same : after ≡ before) (d : D) → is ≡ was → AreEventCalls disk was is (grown_none before after same).more d d
  unfolding grown_none
  calls_none was is before after same d still = record { raised = still; few = omega arith }

  pub calls_one : (was is : Bool) (before after : List Event) (e : Event) (addable : IsAddable e) (added : after ≡ before ++ e ∷ []) (old new : D) → is ≡ raised_by was e → disk.calls new ≤ disk.calls old + calls_for was e →
      AreEventCalls disk was is (grown_one before after e addable added).more old new
  unfolding grown_one
  calls_one was is before after e addable added old new raises few = record { raised = raises; few = omega (arith, few) }

  calls_then : (was mid is : Bool) (one two three : List Event) (grown : IsGrown one two) (longer : IsGrown two three) (x y z : D) → AreEventCalls disk was mid grown.more x y → AreEventCalls disk mid is longer.more y z →
      AreEventCalls disk was is (grown_then one two three grown longer).more x z
  unfolding grown_then
  calls_then was mid is one two three grown longer x y z first second = record {
    raised = second.raised ∙ ap (λ (b : Bool). raised_after b longer.more) first.raised ∙ sym (raised_after-append was grown.more longer.more);
    few = let both = calls_after was mid grown.more longer.more first.raised in omega (arith, both, first.few, second.few);
  }

  pub fails_then : (was mid_is : Bool) (plan : Plan) (voc : List ℕ) (one two three : List Event) (put : Option Assignment) (is_lost is_then : Event → Type 0) (old mid new : D) (grown : IsGrown one two) (longer : IsGrown two three) →
      ((e : Event) → is_lost e → is_then e) → AreEventCalls disk was mid_is grown.more old mid →
      ForSome (disk.content old) (λ _. Persists disk plan voc one two old mid) → FailsWith disk mid_is longer.more plan voc two three put is_lost mid new →
      FailsWith disk was (grown_then one two three grown longer).more plan voc one three put is_then old new
  unfolding grown_then
  fails_then was mid_is plan voc one two three put is_lost is_then old mid new grown longer known calls first second =
      let last : List Event = second.event ∷ [] in
      let added : three ++ last ≡ two ++ (longer.more ++ last) = ap (λ (l : List Event). l ++ last) longer.is ∙ append_assoc two longer.more last in
      record {
        event = second.event;
        tried = second.tried;
        lost = known second.event second.lost;
        few =
            let both = calls_after was mid_is grown.more (longer.more ++ last) calls.raised in
            let Few : List Event → Type 0 = λ l. disk.calls new ≤ disk.calls old + all_calls was l in
            let all : Few (grown.more ++ (longer.more ++ last)) = omega (arith, both, calls.few, second.few) in
            subst Few (sym (append_assoc grown.more longer.more last)) all;
        now = λ bytes told. let f = first bytes told in second.now f.now.bytes f.now.tells;
        any_moment = λ bytes told.
            let f = first bytes told in
            joined disk old mid new (OpensWithin plan voc one two) (OpensWithin plan voc two (three ++ last)) (OpensWithin plan voc one (three ++ last)) f.any_moment (second.any_moment f.now.bytes f.now.tells)
            (λ c w. within_more plan voc one two (three ++ last) (longer.more ++ last) c added w) (λ c w. within_from plan voc one two (three ++ last) grown.more c grown.is w);
      }

  -- an event that was added
  pub persists_one : (plan : Plan) (voc : List ℕ) (events after : List Event) (e : Event) (old new : D) → after ≡ events ++ e ∷ [] →
      LeavesNow disk (OpensWith plan voc after) new → LeavesOnly disk old new (OpensWithOrWithout plan voc events e) →
      Persists disk plan voc events after old new
  persists_one plan voc events after e old new added now any = record {
    now = now;
    any_moment = weaker disk old new (OpensWithOrWithout plan voc events e) (OpensWithin plan voc events after) any
        (λ c w. subst (λ (l : List Event). OpensWithin plan voc events l c) (sym added) (within_one plan voc events e c w));
  }

  -- an event whose adding failed
  pub fails_one : (was : Bool) (plan : Plan) (voc : List ℕ) (events after : List Event) (e : Event) (put : Option Assignment) (is_lost : Event → Type 0) (old new : D) (same : after ≡ events) → IsTried put e → is_lost e →
      disk.calls new ≤ disk.calls old + calls_for was e → ForSome (disk.content old) (λ _. LeavesOnly disk old new (OpensWithOrWithout plan voc events e)) →
      FailsWith disk was (grown_none events after same).more plan voc events after put is_lost old new
  unfolding grown_none
  fails_one was plan voc events after e put is_lost old new same tried lost few any =
      let as_after : List Event → Type 0 = λ l. (c : List ℕ) → disk.may_leave new c → OpensWithOrWithout plan voc l e c in
      let within_after : List Event → Type 0 = λ l. LeavesOnly disk old new (OpensWithin plan voc events (l ++ e ∷ [])) in
      record {
        event = e;
        tried = tried;
        lost = lost;
        few = omega (arith, few);
        now = λ bytes told. let run = any bytes told in subst as_after (sym same) (λ c left. run.each c (counts_now new (disk.moment old) c run.later left));
        any_moment = λ bytes told.
            subst within_after (sym same) (weaker disk old new (OpensWithOrWithout plan voc events e) (OpensWithin plan voc events (events ++ e ∷ [])) (any bytes told)
            (λ c w. within_one plan voc events e c w));
      }

  module _ {K : Type 0} (keep : KeepOf K D) where
    -- A keeper that was asked to put a question, or wasn't called, and a disk that wasn't touched.
    pub keeps_still : (has_failed : Type 0) (is_lost : Event → Type 0) (old new : K) (d : D) → (has_failed → ⊥) → keep.plan new ≡ keep.plan old → keep.voc new ≡ keep.voc old → keep.record_of new ≡ keep.record_of old → keep.writes new ≡ keep.writes old → keep.raised new ≡ keep.raised old → keep.live new ≡ keep.live old →
        IsTrue (keep.live old) → keep.sits new d → (IsTrue (keep.writes old) → ForSome (disk.content d) (λ _. (c : List ℕ) → disk.may_leave d c → OpensWith (keep.plan old) (keep.voc old) (keep.record_of old) c)) →
        Keeps keep disk has_failed is_lost old new d d
    keeps_still has_failed is_lost old new d well same_plan same_voc same_record same_writes same_raised same_live is_live belongs lasts = record {
      same_voc = same_voc;
      same_writes = same_writes;
      belongs = belongs;
      later = omega arith;
      is_live = λ no. same_live ∙ is_live;
      not_live = λ failed. absurd (well failed);
      told = λ bytes is. ap is_some is;
      cause = λ failed. absurd (well failed);
      grown = grown_none (keep.record_of old) (keep.record_of new) same_record;
      calls = λ no. calls_none (keep.raised old) (keep.raised new) (keep.record_of old) (keep.record_of new) same_record d same_raised;
      unwritten = λ no. refl;
      persists = λ w bytes told no.
          let As : List Event → Type 0 = λ l. Persists disk (keep.plan old) (keep.voc old) (keep.record_of old) l d d in
          subst As (sym same_record) (persists_none (keep.plan old) (keep.voc old) (keep.record_of old) d bytes told (lasts w bytes told));
      fails = λ failed. absurd (well failed);
    }

    -- calls one after another
    pub keeps_then : (has_failed : Type 0) (is_lost is_then : Event → Type 0) (one two three : K) (x y z : D) → keep.plan two ≡ keep.plan one →
        ((e : Event) → is_lost e → is_then e) →
        Keeps keep disk ⊥ (λ e. ⊥) one two x y →
        Keeps keep disk has_failed is_lost two three y z →
        Keeps keep disk has_failed is_then one three x z
    keeps_then has_failed is_lost is_then one two three x y z same_plan known first second = record {
      same_voc = second.same_voc ∙ first.same_voc;
      same_writes = second.same_writes ∙ first.same_writes;
      belongs = second.belongs;
      later = omega (arith, first.later, second.later);
      is_live = second.is_live;
      not_live = second.not_live;
      told = λ bytes is. let mid = bytes_told (disk.content y) (first.told bytes is) in second.told mid.0 mid.1;
      cause = λ failed. (sym first.same_writes ∙ (second.cause failed).0, rose_later (disk.faults x) (disk.faults y) (disk.faults z) first.later (second.cause failed).1);
      grown = grown_then (keep.record_of one) (keep.record_of two) (keep.record_of three) first.grown second.grown;
      calls = λ no.
          calls_then (keep.raised one) (keep.raised two) (keep.raised three) (keep.record_of one) (keep.record_of two) (keep.record_of three) first.grown second.grown x y z (first.calls (λ bad. bad)) (second.calls no);
      unwritten = λ no. second.unwritten (first.same_writes ∙ no) ∙ first.unwritten no;
      persists = λ w bytes told no.
          let f = first.persists w bytes told (λ bad. bad) in
          let s = second.persists (first.same_writes ∙ w) f.now.bytes f.now.tells no in
          let As : Plan → List ℕ → Type 0 = λ p v. Persists disk p v (keep.record_of two) (keep.record_of three) y z in
          persists_then (keep.plan one) (keep.voc one) (keep.record_of one) (keep.record_of two) (keep.record_of three) x y z first.grown second.grown f (both_as As (keep.plan two) (keep.plan one) (keep.voc two) (keep.voc one) same_plan first.same_voc s);
      fails = λ failed.
          let w : IsTrue (keep.writes one) = sym first.same_writes ∙ (second.cause failed).0 in
          let As : Plan → List ℕ → Type 0 = λ p v. FailsWith disk (keep.raised two) second.grown.more p v (keep.record_of two) (keep.record_of three) (keep.question three) is_lost y z in
          fails_then (keep.raised one) (keep.raised two) (keep.plan one) (keep.voc one) (keep.record_of one) (keep.record_of two) (keep.record_of three) (keep.question three) is_lost is_then x y z first.grown second.grown known
          (first.calls (λ bad. bad)) (λ bytes told. first.persists w bytes told (λ bad. bad)) (both_as As (keep.plan two) (keep.plan one) (keep.voc two) (keep.voc one) same_plan first.same_voc (second.fails failed));
    }

    -- by another word for the failure
    pub keeps_as : (bad worse : Type 0) (is_lost is_then : Event → Type 0) (old new : K) (x y : D) → (worse → bad) → (bad → worse) →
        (worse → (e : Event) → is_lost e → is_then e) →
        Keeps keep disk bad is_lost old new x y →
        Keeps keep disk worse is_then old new x y
    keeps_as bad worse is_lost is_then old new x y to fro known keeps = record {
      same_voc = keeps.same_voc;
      same_writes = keeps.same_writes;
      belongs = keeps.belongs;
      later = keeps.later;
      is_live = λ no. keeps.is_live (λ b. no (fro b));
      not_live = λ failed. keeps.not_live (to failed);
      told = keeps.told;
      cause = λ failed. keeps.cause (to failed);
      grown = keeps.grown;
      calls = λ no. keeps.calls (λ b. no (fro b));
      unwritten = keeps.unwritten;
      persists = λ w bytes told no. keeps.persists w bytes told (λ b. no (fro b));
      fails = λ failed.
          let f = keeps.fails (to failed) in
          record { event = f.event; tried = f.tried; lost = known failed f.event f.lost; few = f.few; now = f.now; any_moment = f.any_moment };
    }

    -- calls of which the last has failed or hasn't
    pub loses_none : (has_failed : Type 0) (is_lost : Event → Type 0) (old new : K) (x y : D) → has_failed ⊎ (has_failed → ⊥) → Keeps keep disk has_failed is_lost old new x y →
        LosesNone keep disk old x y
    loses_none has_failed is_lost old new x y known keeps w bytes told =
        let plan : Plan = keep.plan old in
        let voc : List ℕ = keep.voc old in
        let before : List Event = keep.record_of old in
        let after : List Event = keep.record_of new in
        let Left : Type 0 = LeavesOnly disk x y (HoldsAtLeast plan voc before) in
        let failed : has_failed → Left = λ bad.
        let f = keeps.fails bad in
        weaker disk x y (OpensWithin plan voc before (after ++ f.event ∷ [])) (HoldsAtLeast plan voc before) (f.any_moment bytes told) (at_least plan voc before (after ++ f.event ∷ [])) in
        let went_on : (has_failed → ⊥) → Left = λ well.
        weaker disk x y (OpensWithin plan voc before after) (HoldsAtLeast plan voc before) (keeps.persists w bytes told well).any_moment (at_least plan voc before after) in
        ⊎_elim failed went_on known

    -- a disk that wasn't touched
    pub loses_nothing : (old : K) (d : D) → (IsTrue (keep.writes old) → ForSome (disk.content d) (λ _. (c : List ℕ) → disk.may_leave d c → OpensWith (keep.plan old) (keep.voc old) (keep.record_of old) c)) →
        LosesNone keep disk old d d
    loses_nothing old d lasts w bytes told =
        let plan : Plan = keep.plan old in
        let voc : List ℕ = keep.voc old in
        let events : List Event = keep.record_of old in
        weaker disk d d (OpensWithin plan voc events events) (HoldsAtLeast plan voc events) (persists_none plan voc events d bytes told (lasts w bytes told)).any_moment (at_least plan voc events events)

    -- of a keeper that was only asked to put a question
    pub loses_none_as : (one two : K) (x y : D) → OnlyPuts keep one two → LosesNone keep disk two x y → LosesNone keep disk one x y
    loses_none_as one two x y only none w bytes told =
        let Spoken : Plan → List ℕ → Type 0 = λ p v. LeavesOnly disk x y (HoldsAtLeast p v (keep.record_of two)) in
        let Left : List Event → Type 0 = λ es. LeavesOnly disk x y (HoldsAtLeast (keep.plan one) (keep.voc one) es) in
        subst Left only.events (both_as Spoken (keep.plan two) (keep.plan one) (keep.voc two) (keep.voc one) only.plan only.voc (none (only.writes ∙ w) bytes told))
