-- What `back` says of a session, and leaves of it.
use Rattle.acq_said.proofs.Prelude.{◌≡◌, ◌⊎◌, ◌∙◌, ℕ, zero, suc, ◌≤◌, ◌+◌, Bool, true, false, List, [], ◌∷◌, ◌++◌, Option, Some, None, Result, Ok, Err, refl, sym, ap, subst, inl, inr, ⊎_elim, arith, append-nil, append_cancel_left, IsSome, ForSome, ◌≢◌, LeavesNow, OpensWith, DiskOf, AreReadingCalls, Put, Assignment, Event, Plan, LeavesOnly, joined, weaker, AreEventCalls, IsGrown, Persists, FailsWith, both_as, calls_for, all_calls, within_more, OpensWithin, OpensWithOrWithout, bytes_told, Opened, OpensOnce, SFault, IsBrokenOff, EndsAsOpened, ended_as, HasWritten, SaysSo, Saying, EndsBack, SaysOver, back_on, back_said, Drove, Ending, Unsaid, MatchResult, IsSaid, SaysRefusal}
use Rattle.acq_io.specs.declared.streams.Put.TheVariants as put
use Rattle.assign.specs.declared.events.Event.TheVariants as event
use Rattle.acq_loop.specs.Due.{EventKept}
use Rattle.acq_loop.specs.declared.driving.Drove.TheVariants as drove
use Rattle.acq_loop.specs.declared.ending.Ending.TheVariants as ending
use Rattle.acq_said.specs.declared.said.Unsaid.TheVariants as unsaid
use Rattle.acq_said.specs.TakingBack.{HasTakenBack}
use Rattle.acq_said.proofs.Closings.{okay}
use Rattle.acq_said.proofs.SaidOver.{SaidEnds, broken_own, is_own, opening_own, own_said, said_end}
use Rattle.acq_said.proofs.Spoken.{SaysOpening, said_silent, same_why, silent, silently, so_not}

-- ---- what is said

back_own_on : (n : ℕ) (full : Bool) → is_own (back_on n full).ending ≡ true
back_own_on zero full = refl
back_own_on (suc n) true = refl
back_own_on (suc n) false = refl

-- ---- what is left

abbrev IsLost : Result Saying Unsaid → Type 0
IsLost said = said ≡ silent unsaid.DiskFault

pub disk_lost : (said : Result Saying Unsaid) → IsLost said ⊎ (IsLost said → ⊥)
disk_lost (Ok what) = inr (said_silent what unsaid.DiskFault)
disk_lost (Err unsaid.ReadFault) = inr (λ e. let no : unsaid.ReadFault ≡ unsaid.DiskFault = same_why unsaid.ReadFault unsaid.DiskFault e in cc)
disk_lost (Err unsaid.DiskFault) = inl refl
disk_lost (Err unsaid.Memory) = inr (λ e. let no : unsaid.Memory ≡ unsaid.DiskFault = same_why unsaid.Memory unsaid.DiskFault e in cc)

-- where the disk failed no event was added
back_same : (what : Saying) (events later : List Event) (said : Result Saying Unsaid) → EndsBack what events later said → IsLost said → later ≡ events
back_same what events later said (inl (is, told)) failed = absurd (so_not (λ s. s ≡ what) said unsaid.DiskFault (λ e. cc) told failed)
back_same what events later said (inr (same, rest)) failed = same

-- by what the keeper's call answered
pub ends_kept : (what : Saying) (events later : List Event) (kept : Option Drove) (said : Result Saying Unsaid) → EventKept event.Back events later kept → (kept ≡ None → IsSaid what said) → (kept ≡ Some drove.Memory → said ≡ Err unsaid.Memory) → (kept ≡ Some drove.DiskFault → said ≡ Err unsaid.DiskFault) →
    EndsBack what events later said
ends_kept what events later None said kept says wants fails = inl (kept, says refl)
ends_kept what events later (Some end) said (inl memory, same) says wants fails = inr (same, inl (wants (ap (λ (d : Drove). Some d) memory)))
ends_kept what events later (Some end) said (inr failed, same) says wants fails = inr (same, inr (fails (ap (λ (d : Drove). Some d) failed)))

module _ {D : Type 0} (disk : DiskOf D) where
  pub record LeavesBack (plan : Plan) (voc : List ℕ) (events later : List Event) (old new : D) (said : Result Saying Unsaid) : Type 0 where
    pub any_moment : ForSome (disk.content old) (λ _. LeavesOnly disk old new (λ c. disk.may_leave old c ⊎ OpensWithin plan voc events (events ++ event.Back ∷ []) c))
    pub now : (IsLost said → ⊥) → ForSome (disk.content old) (λ _. LeavesNow disk (OpensWith plan voc later) new)
    pub failed : IsLost said → ForSome (disk.content old) (λ _. LeavesNow disk (OpensWithOrWithout plan voc events event.Back) new)

  -- what a crash leaves of a take-back, of what the keeper's call left
  pub leaves_back : (was : Bool) (added : List Event) (plan : Plan) (voc : List ℕ) (what : Saying) (events later : List Event) (put : Option Assignment) (first old new : D) (said : Result Saying Unsaid) →
      disk.content old ≡ disk.content first → LeavesOnly disk first old (disk.may_leave first) → EndsBack what events later said → ForSome (disk.content old) (λ _. IsSome (disk.content new)) →
      ((IsLost said → ⊥) → ForSome (disk.content old) (λ _. Persists disk plan voc events later old new)) →
      (IsLost said → FailsWith disk was added plan voc events later put (λ lost. lost ≡ event.Back) old new) →
      LeavesBack plan voc events later first new said
  leaves_back was added plan voc what events later put first old new said still opening ends on persists fails =
      let more : List Event = events ++ event.Back ∷ [] in
      let Within : List ℕ → Type 0 = OpensWithin plan voc events more in
      let joins : (bytes : List ℕ) → disk.content first ≡ Some bytes → LeavesOnly disk old new Within → LeavesOnly disk first new (λ c. disk.may_leave first c ⊎ Within c) =
      λ bytes told any. joined disk first old new (disk.may_leave first) Within (λ c. disk.may_leave first c ⊎ Within c) opening any (λ c was. inl was) (λ c opens. inr opens) in
      record {
        any_moment = λ bytes told.
            ⊎_elim
            (λ is.
            let f = fails is in
            let As : List Event → Event → Type 0 = λ es e. LeavesOnly disk old new (OpensWithin plan voc events (es ++ e ∷ [])) in
            joins bytes told (both_as As later events f.event event.Back (back_same what events later said ends is) f.lost (f.any_moment bytes (still ∙ told))))
            (λ no. joins bytes told (weaker disk old new (OpensWithin plan voc events later) Within (persists no bytes (still ∙ told)).any_moment (λ c w. grows ends c w)))
            (disk_lost said);
        now = λ no bytes told. (persists no bytes (still ∙ told)).now;
        failed = λ is bytes told.
            let f = fails is in
            let t = bytes_told (disk.content new) (on bytes (still ∙ told)) in
            let As : List Event → Event → Type 0 = λ es e. (c : List ℕ) → disk.may_leave new c → OpensWithOrWithout plan voc es e c in
            record { bytes = t.0; tells = t.1; each = both_as As later events f.event event.Back (back_same what events later said ends is) f.lost (f.now bytes (still ∙ told)) };
      }
    where
      grows : EndsBack what events later said → (c : List ℕ) → OpensWithin plan voc events later c → OpensWithin plan voc events (events ++ event.Back ∷ []) c
      grows (inl (is, told)) c w = let P : List Event → Type 0 = λ es. OpensWithin plan voc events es c in subst P is w
      grows (inr (same, rest)) c w = within_more plan voc events later (events ++ event.Back ∷ []) (event.Back ∷ []) c (ap (λ (es : List Event). es ++ event.Back ∷ []) (sym same)) w

-- ---- how often the disk was called

-- the take-back alone was added, or nothing
calls_back : (what : Saying) (events later : List Event) (said : Result Saying Unsaid) (was : Bool) → EndsBack what events later said → (grown : IsGrown events later) → all_calls was grown.more ≤ calls_for was event.Back
calls_back what events later said was (inl (is, told)) grown =
    let Calls : List Event → Type 0 = λ l. all_calls was l ≤ calls_for was event.Back in
    subst Calls (sym (append_cancel_left events grown.more (event.Back ∷ []) (sym grown.is ∙ is))) (omega arith)
calls_back what events later said was (inr (same, rest)) grown =
    let Calls : List Event → Type 0 = λ l. all_calls was l ≤ calls_for was event.Back in
    subst Calls (sym (append_cancel_left events grown.more [] (sym grown.is ∙ same ∙ sym (append-nil events)))) (omega arith)

module _ {D : Type 0} (disk : DiskOf D) where
  -- where the disk failed nothing was added but what was lost
  lost_back : (plan : Plan) (voc : List ℕ) (events later : List Event) (put : Option Assignment) (was : Bool) (old new : D) (grown : IsGrown events later) → later ≡ events →
      FailsWith disk was grown.more plan voc events later put (λ lost. lost ≡ event.Back) old new → disk.calls new ≤ disk.calls old + calls_for was event.Back
  lost_back plan voc events later put was old new grown same f =
      let Calls : List Event → Event → Type 0 = λ l e. disk.calls new ≤ disk.calls old + all_calls was (l ++ e ∷ []) in
      let none : grown.more ≡ [] = append_cancel_left events grown.more [] (sym grown.is ∙ same ∙ sym (append-nil events)) in
      let few : Calls [] event.Back = both_as Calls grown.more [] f.event event.Back none f.lost f.few in omega (arith, few)

  pub back_calls : (plan : Plan) (voc : List ℕ) (events later : List Event) (what : Saying) (put : Option Assignment) (was is : Bool) (old new : D) (said : Result Saying Unsaid) → EndsBack what events later said → (grown : IsGrown events later) →
      ((IsLost said → ⊥) → AreEventCalls disk was is grown.more old new) → (IsLost said → FailsWith disk was grown.more plan voc events later put (λ lost. lost ≡ event.Back) old new) →
      (before : ℕ) (bytes : List ℕ) → AreReadingCalls 5 before (disk.calls old) bytes → AreReadingCalls (5 + calls_for was event.Back) before (disk.calls new) bytes
  back_calls plan voc events later what put was is old new said ends grown calls fails before bytes few =
      ⊎_elim
      (λ lost. let made = lost_back plan voc events later put was old new grown (back_same what events later said ends lost) (fails lost) in omega (arith, few, made))
      (λ no. let made = calls_back what events later said was ends grown in let all = (calls no).few in omega (arith, few, made, all))
      (disk_lost said)

-- ---- how it ends

-- why nothing was taken back
abbrev pub Untaken : Result Opened SFault → Result Saying Unsaid → Type 0
Untaken opening told = MatchResult opening (λ o. IsSaid (back_said o) told × ((back_said o).ending ≢ ending.Done)) (λ fault. SaysRefusal fault told)

untaken_said : (opening : Result Opened SFault) (said : Result Saying Unsaid) → Untaken opening said → SaysOpening back_said opening said
untaken_said (Ok o) said none = none.0
untaken_said (Err f) said none = none

module _ {D : Type 0} (disk : DiskOf D) (written written' : Option (List ℕ)) (old new : D) where
  abbrev TakesBack : Result Saying Unsaid → Type 0
  TakesBack said = SaysOver disk Untaken (λ o. Unit {0}) old new said ⊎ HasTakenBack disk old new said

  pub back_ends : OpensOnce → (got : Result Ending Put) → SaysSo TakesBack written written' got → SaidEnds back_said (disk.content old) (ended_as got)
  back_ends once (Err put.Failed) backs = λ file told. inl (inr (inl refl))
  back_ends once (Err put.Memory) backs = λ file told. inl (inr (inr (inr refl)))
  back_ends once (Ok end) (said, inl none, has) = λ file told. said_end once back_said file said written written' end none.opening (none.opens file told) (untaken_said none.opening said none.says) has
  back_ends once (Ok end) (said, inr taken, has) = λ file told. go file told taken.ends
    where
      go : (file : List ℕ) → disk.content old ≡ Some file → EndsBack (back_said taken.of) taken.of.events taken.later said → IsBrokenOff end ⊎ EndsAsOpened back_said file end
      go file told (inl (is, says)) = said_end once back_said file said written written' end (Ok taken.of) (taken.opens file told) says has
      go file told (inr (same, inl none)) = inl (silently unsaid.Memory said written written' end none has)
      go file told (inr (same, inr failed)) = inl (silently unsaid.DiskFault said written written' end failed has)

  pub back_own : (end : Ending) (said : Result Saying Unsaid) → TakesBack said → HasWritten said written written' (okay end) → is_own end ≡ true
  back_own end said (inl none) has = opening_own back_said own none.opening said written written' end (untaken_said none.opening said none.says) has
    where
      own : (o : Opened) → is_own (back_said o).ending ≡ true
      own o = back_own_on _ _
  back_own end said (inr taken) has = go taken.ends
    where
      go : EndsBack (back_said taken.of) taken.of.events taken.later said → is_own end ≡ true
      go (inl (is, says)) = own_said (back_said taken.of) said written written' end (back_own_on _ _) says has
      go (inr (same, inl none)) = broken_own end (silently unsaid.Memory said written written' end none has)
      go (inr (same, inr failed)) = broken_own end (silently unsaid.DiskFault said written written' end failed has)
