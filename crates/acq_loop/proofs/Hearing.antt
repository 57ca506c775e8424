-- A turn by what was heard of the teacher's word.
use Rattle.acq_loop.proofs.Prelude.{◌≡◌, ◌⊎◌, ◌∙◌, ◌+◌, ◌<◌, arith, ℕ, List, [], ◌∷◌, ◌++◌, length, true, false, is_some, ap, subst, refl, inl, inr, Option, Some, None, ◌≢◌, ForSome, Assignment, Event, Language, IsQuestion, variable_count, standing_on, Remembered, AreMarksFor, no_marks_hold, network_in, Turns, Reply, Said, TakenBack, Stopped, Ended, Overlong, Unread, Tells, Told, MayAdd, MayEnd, closing_of, ending_of, Closing, Puts, Suspended, LineTooLong, Unreadable, answer, next_on, number_on, event_heard, Point, HasEnded, IsPending, Remembers, EventKept, heard_of, event_on, MayKeep, Forgets, EndsAs, point_of, SaysNext, Terms, Drove, Entry}
use Rattle.acq_loop.proofs.Short.{MayFollow}
use Rattle.target_oracle.specs.declared.teacher.Told.TheVariants as told
use Rattle.acq_loop.specs.declared.driving.Drove.TheVariants as drove
use Rattle.acq_loop.specs.declared.driving.Entry.TheVariants as entry
use Rattle.acq_loop.specs.declared.driving.Heard.TheVariants as heard
use Rattle.acq_loop.proofs.Answered.{ends_closed, ends_failed, not_full_with}
use Rattle.acq_loop.proofs.Reached.{IsReached, some_there}
use Rattle.acq_loop.proofs.Running.{EndsSo, next_put, room_not_full}
use Rattle.acq_loop.proofs.Standings.{AtQuestion, marks_after, run_laws, within}
use Rattle.acq_loop.proofs.Turning.{AskedSo, ToldSo, FrontSo, ran_closed, cut_turn}
use Rattle.target_oracle.proofs.Fronts.{front_whole}

-- the reply of which an entry is kept
abbrev pub reply_of : Entry → Reply
reply_of (entry.Answer reply) = Said reply
reply_of entry.Back = TakenBack

pub entry_gives : (q : Assignment) (e : Entry) → event_heard q (reply_of e) ≡ Some (event_on e (Some q))
entry_gives q (entry.Answer reply) = refl
entry_gives q entry.Back = refl

-- an entry was heard in these words alone
pub word_kept : (t : Told) (count : ℕ) (e : Entry) (P : Told → Entry → Type 0) → heard_of t count ≡ heard.Keep e → P told.Yes (entry.Answer true) → P told.No (entry.Answer false) → P told.Back entry.Back → P t e
word_kept told.Yes count e P is given denied back = let same : entry.Answer true ≡ e = cc in subst (P told.Yes) same given
word_kept told.No count e P is given denied back = let same : entry.Answer false ≡ e = cc in subst (P told.No) same denied
word_kept told.Back count e P is given denied back = let same : entry.Back ≡ e = cc in subst (P told.Back) same back
word_kept t count e P is given denied back = absurd (let bad : ⊥ = cc in bad)

-- and an end in these
pub word_ended : (t : Told) (count : ℕ) (d : Drove) (P : Told → Drove → Type 0) → heard_of t count ≡ heard.End d → P told.Stop (drove.Suspended count) → P told.End (drove.Suspended count) → P told.TooLong drove.LineTooLong →
    P told.Unreadable drove.Unreadable → P told.ReadFault drove.ReadFault → P told.WriteFault drove.WriteFault → P told.Memory drove.Memory → P t d
word_ended told.Stop count d P is stop end long unread read write memory = let same : drove.Suspended count ≡ d = cc in subst (P told.Stop) same stop
word_ended told.End count d P is stop end long unread read write memory = let same : drove.Suspended count ≡ d = cc in subst (P told.End) same end
word_ended told.TooLong count d P is stop end long unread read write memory = let same : drove.LineTooLong ≡ d = cc in subst (P told.TooLong) same long
word_ended told.Unreadable count d P is stop end long unread read write memory = let same : drove.Unreadable ≡ d = cc in subst (P told.Unreadable) same unread
word_ended told.ReadFault count d P is stop end long unread read write memory = let same : drove.ReadFault ≡ d = cc in subst (P told.ReadFault) same read
word_ended told.WriteFault count d P is stop end long unread read write memory = let same : drove.WriteFault ≡ d = cc in subst (P told.WriteFault) same write
word_ended told.Memory count d P is stop end long unread read write memory = let same : drove.Memory ≡ d = cc in subst (P told.Memory) same memory
word_ended t count d P is stop end long unread read write memory = absurd (let bad : ⊥ = cc in bad)

-- whether the disk failed
pub disk_failed : (e : Event) (before after : List Event) (end : Option Drove) → EventKept e before after end → (end ≡ Some drove.DiskFault) ⊎ (end ≡ Some drove.DiskFault → ⊥)
disk_failed e before after None kept = inr (λ is. cc)
disk_failed e before after (Some end) (inl memory, _) = inr (λ is. let same : end ≡ drove.DiskFault = cc in let bad : ⊥ = cc in bad)
disk_failed e before after (Some end) (inr failed, _) = inl (ap (λ (d : Drove). Some d) failed)

pub kept_calm : (e : Event) (before after : List Event) (end : Option Drove) (d : Drove) → EventKept e before after end → d ≢ drove.Memory → d ≢ drove.DiskFault → end ≡ Some d → ⊥
kept_calm e before after None d kept memory disk is = cc
kept_calm e before after (Some end) d (inl same, _) memory disk is = memory (let so : d ≡ end = cc in so ∙ same)
kept_calm e before after (Some end) d (inr same, _) memory disk is = disk (let so : d ≡ end = cc in so ∙ same)

-- an end that isn't of the disk
pub word_not_disk : (t : Told) (count : ℕ) (d : Drove) → heard_of t count ≡ heard.End d → Some d ≡ Some drove.DiskFault → ⊥
word_not_disk t count d is = word_ended t count d (λ w e. Some e ≡ Some drove.DiskFault → ⊥) is (λ e. cc) (λ e. cc) (λ e. cc) (λ e. cc) (λ e. cc) (λ e. cc) (λ e. cc)

-- it may be said
pub word_may_end : (t : Told) (count : ℕ) (d : Drove) (may : Assignment → Told → Type 0) (q : Assignment) → heard_of t count ≡ heard.End d → may q t → MayEnd may (ending_of d)
word_may_end t count d may q is =
    word_ended t count d (λ w e. may q w → MayEnd may (ending_of e)) is (λ m. (q, inl m)) (λ m. (q, inr m)) (λ m. (q, m)) (λ m. (q, m)) (λ m. (q, m)) (λ m. tt) (λ m. tt)

pub word_may_add : (l : Language) (t : Told) (count : ℕ) (e : Entry) (may : Assignment → Told → Type 0) (q : Assignment) → heard_of t count ≡ heard.Keep e → IsQuestion l q → may q t → MayAdd l may (event_on e (Some q))
word_may_add l t count e may q is fits =
    word_kept t count e (λ w n. may q w → MayAdd l may (event_on n (Some q))) is
    (λ m. inl (answer q true, refl, fits, m)) (λ m. inl (answer q false, refl, fits, m)) (λ m. inr (q, refl, m))

-- an answer is taken back where one stands
pub word_follows : (l : Language) (events : List Event) (t : Told) (count : ℕ) (e : Entry) (q : Assignment) → heard_of t count ≡ heard.Keep e → count ≡ length (standing_on l events) → (t ≡ told.Back → 1 < count + 1) → MayFollow events q (event_on e (Some q))
word_follows l events t count e q is number =
    word_kept t count e (λ w n. (w ≡ told.Back → 1 < count + 1) → MayFollow events q (event_on n (Some q))) is
    (λ back. inl (true, refl)) (λ back. inl (false, refl)) (λ back. inr (refl, some_there l events count number (let some = back refl in omega (arith, some))))

pub may_keep : (events : List Event) (q : Assignment) (put : Option Assignment) (e : Entry) → put ≡ Some q → MayFollow events q (event_on e (Some q)) → MayKeep events put e
may_keep events q put (entry.Answer reply) is follows = ap is_some is
may_keep events q put entry.Back is (inl (reply, other)) = absurd (let bad : ⊥ = cc in bad)
may_keep events q put entry.Back is (inr stands) = stands.1

-- the marks stay true, or there are none
pub hold_after : (l : Language) (terms : Terms) (events later : List Event) (q : Assignment) (e : Entry) (old new : Remembered) → IsReached l terms.plan (standing_on l events) → length q ≡ variable_count l →
    later ≡ events ++ event_on e (Some q) ∷ [] → Forgets e old new → Remembers l terms (standing_on l events) old → Remembers l terms (standing_on l later) new
hold_after l terms events later q (entry.Answer reply) old new reached size is same remembers = rw same (marks_after l terms events later q reply old reached size is remembers)
hold_after l terms events later q entry.Back old new reached size is none remembers = λ state at. no_marks_hold l (network_in state) terms.budget new none

-- ---- a turn at which this question is put, by what the teacher told of it
module _ (l : Language) (terms : Terms) (events : List Event) (q : Assignment) (asked : AtQuestion l terms events q) (turns : Turns) (left written left' written' : Option (List ℕ)) where
  abbrev here : Point
  here = point_of events left written

  abbrev there : Point
  there = point_of events left' written'

  -- what the teacher's call says of the word
  abbrev pub Spoken : Told → Type 0
  Spoken t = ForSome left (λ bytes. Tells (turns l (number_on l events) q bytes) written left' written' t)

  comes : next_on l terms events ≡ Some (Puts q)
  comes = next_put l terms events q asked.puts (room_not_full events asked.room)

  pub word_told : (t : Told) (count : ℕ) (e : Entry) → heard_of t count ≡ heard.Keep e → Spoken t → ToldSo turns l q here there (reply_of e)
  word_told t count e is = word_kept t count e (λ w n. Spoken w → ToldSo turns l q here there (reply_of n)) is (λ said. said) (λ said. said) (λ said. said)

  -- what was written goes no further than the question's lines, whatever was said
  word_front : (t : Told) → Spoken t → FrontSo turns l q here there
  word_front told.ReadFault said = said
  word_front told.WriteFault said = said
  word_front told.Memory said = said
  word_front t said = λ bytes is. front_whole written written' (turns l (number_on l events) q bytes).text (said bytes is).text

  pub word_says_next : (t : Told) → Spoken t → SaysNext turns l terms events left written written'
  word_says_next t said bytes is = rw comes (word_front t said bytes is)

  -- how the loop ends
  pub word_ends : (t : Told) (d : Drove) (marks : Remembered) → AreMarksFor l marks → heard_of t (length (standing_on l events)) ≡ heard.End d → AskedSo turns l q here there → Spoken t → EndsAs turns l terms here there marks d
  word_ends t d marks made is first =
      word_ended t _ d (λ w e. Spoken w → EndsAs turns l terms here there marks e) is (suspends Stopped (λ again rest. refl)) (suspends Ended (λ again rest. refl))
      (λ said. closes drove.LineTooLong LineTooLong Overlong refl (λ e. cc) (λ m e. cc) (record { number = tt; found = due }) (λ again rest. refl) said)
      (λ said. closes drove.Unreadable Unreadable Unread refl (λ e. cc) (λ m e. cc) (record { number = tt; found = due }) (λ again rest. refl) said)
      (fails drove.ReadFault refl (λ e. cc) (record { number = tt; found = tt }))
      (fails drove.WriteFault refl (λ e. cc) (record { number = tt; found = tt }))
      (fails drove.Memory refl (λ e. cc) (record { number = tt; found = tt }))
    where
      due : IsPending l terms (standing_on l events)
      due = (q, asked.puts)

      closes : (how : Drove) (closing : Closing) (reply : Reply) → closing_of how ≡ Some closing → how ≢ drove.JournalFull → ((m : ℕ) → how ≢ drove.Undecided m) → HasEnded l terms (standing_on l events) how →
          EndsSo reply closing events q → ToldSo turns l q here there reply → EndsAs turns l terms here there marks how
      closes how closing reply is room decided says ends said =
          ends_closed turns l terms here there marks made how closing is says (λ m e. absurd (decided m e)) (ran_closed turns l terms q here there comes reply closing refl ends said) (not_full_with l terms events how room asked.room)

      suspends : (reply : Reply) → EndsSo reply Suspended events q → ToldSo turns l q here there reply → EndsAs turns l terms here there marks (drove.Suspended (length (standing_on l events)))
      suspends reply = closes (drove.Suspended (length (standing_on l events))) Suspended reply refl (λ e. cc) (λ m e. cc) (record { number = refl; found = due })

      fails : (how : Drove) → closing_of how ≡ None → how ≢ drove.DiskFault → HasEnded l terms (standing_on l events) how → FrontSo turns l q here there → EndsAs turns l terms here there marks how
      fails how failed other says front =
          ends_failed turns l terms here there marks made how failed says (λ e. absurd (other e)) due (cut_turn turns l terms q here there comes run_laws asked.lawful (within l terms events q asked) refl front first) asked.room
