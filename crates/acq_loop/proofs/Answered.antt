-- A turn whose question was answered.
use Rattle.acq_loop.proofs.Prelude.{◌≡◌, ◌∙◌, true, ℕ, ◌+◌, ◌<◌, List, [], ◌∷◌, ◌++◌, length, sym, refl, ap, Option, Some, None, ⊎_elim, arith, ◌≢◌, IfSome, Assignment, Event, Language, standing_on, Turns, Reply, Told, MayEnd, closing_of, ending_of, Closing, JournalFull, Undecided, Puts, Ends, next_after, next_on, event_heard, Terms, Remembered, AreMarksFor, Point, HasEnded, IsPending, Loses, TellsOpen, EndsAs, EndsUnasked, HasTurned, is_unasked, EventKept, point_of, Drove}
use Rattle.acq_loop.proofs.Short.{RanTo, CutOff, UnkeptTo, MayFollow, TellsFull}
use Rattle.acq_loop.specs.declared.driving.Drove.TheVariants as drove
use Rattle.acq_loop.proofs.Running.{next_ends, next_put, room_not_full}
use Rattle.acq_loop.proofs.Standings.{AtQuestion, run_laws, within}
use Rattle.acq_loop.proofs.Turning.{AskedSo, ToldSo, ran_end, step_heard, cut_turn, lost_turn}
use Rattle.target_oracle.proofs.Fronts.{front_whole}

-- ---- where the journal isn't full

-- there is room
pub not_full_with : (l : Language) (terms : Terms) (events : List Event) (how : Drove) → how ≢ drove.JournalFull → length events + 1 < 1000000 → TellsFull l terms events how
not_full_with l terms events how other room = (λ is. absurd (other is), λ full. absurd (let all = full.1 in omega (arith, all, room)))

-- no question is due
not_full_ended : (l : Language) (terms : Terms) (events : List Event) (how : Drove) (closing : Closing) → how ≢ drove.JournalFull → next_after l terms (standing_on l events) ≡ Some (Ends closing) → TellsFull l terms events how
not_full_ended l terms events how closing other ends =
    (λ is. absurd (other is), λ full. absurd (let e : Some (Ends closing) ≡ Some (Puts full.0.0) = sym ends ∙ full.0.1 in let no : ⊥ = cc in no))

none_some : (closing : Closing) → Some closing ≡ None → ⊥
none_some closing e = cc

module _ (turns : Turns) (l : Language) (terms : Terms) (a b : Point) (marks : Remembered) (made : AreMarksFor l marks) where
  -- a run was closed
  pub ends_closed : (how : Drove) (closing : Closing) → closing_of how ≡ Some closing → HasEnded l terms (standing_on l b.events) how → ((m : ℕ) → how ≡ drove.Undecided m → TellsOpen l terms (standing_on l b.events) marks) →
      RanTo turns l terms closing a b → TellsFull l terms b.events how → EndsAs turns l terms a b marks how
  ends_closed how closing is says opens ran full =
      let closed : closing_of how ≢ None = (λ none. none_some closing (sym is ∙ none)) in
      record {
        ends = record { says = says; closed = rw is ran; pending = λ none. absurd (closed none); broken = λ none. absurd (closed none); unkept = λ failed. absurd (closed (ap closing_of failed)); full = full };
        tells = record { made = made; undecided = opens };
      }

  -- something failed
  pub ends_failed : (how : Drove) → closing_of how ≡ None → HasEnded l terms (standing_on l b.events) how → (how ≡ drove.DiskFault → UnkeptTo turns l terms a b) →
      IsPending l terms (standing_on l b.events) → CutOff turns l terms a b → length b.events + 1 < 1000000 → EndsAs turns l terms a b marks how
  ends_failed how failed says lost due cut room = record {
    ends = record { says = says; closed = rw failed tt; pending = λ none. due; broken = λ none. cut; unkept = lost; full = not_full_with l terms b.events how (λ is. none_some JournalFull (sym (ap closing_of is) ∙ failed)) room };
    tells = record { made = made; undecided = λ m is. absurd (none_some Undecided (sym (ap closing_of is) ∙ failed)) };
  }

-- no question comes after these events, so nothing more is written
pub ends_here : (l : Language) (terms : Terms) (events : List Event) (marks : Remembered) → AreMarksFor l marks → (how : Drove) (closing : Closing) → closing_of how ≡ Some closing → how ≢ drove.JournalFull → next_after l terms (standing_on l events) ≡ Some (Ends closing) →
    HasEnded l terms (standing_on l events) how → ((m : ℕ) → how ≡ drove.Undecided m → TellsOpen l terms (standing_on l events) marks) → is_unasked how ≡ true → EndsUnasked l terms events marks how
ends_here l terms events marks made how closing is other comes says opens unasked = record {
  ends = λ turns left written.
      let a : Point = point_of events left written in
      ends_closed turns l terms a a marks made how closing is says opens (ran_end turns l terms closing a (next_ends l terms events closing comes)) (not_full_ended l terms events how closing other comes);
  unasked = unasked;
}

-- it is no word of the teacher
pub unasked_may : (may : Assignment → Told → Type 0) (how : Drove) → is_unasked how ≡ true → MayEnd may (ending_of how)
unasked_may may (drove.Converged m) is = tt
unasked_may may (drove.Collapsed m) is = tt
unasked_may may (drove.Undecided m) is = tt
unasked_may may how is = absurd (let no : ⊥ = cc in no)

-- what was kept where the loop goes on
pub kept_on : (e : Event) (events after : List Event) (end : Option Drove) → EventKept e events after end → end ≡ None → after ≡ events ++ e ∷ []
kept_on e events after None kept none = kept
kept_on e events after (Some end) kept none = absurd (let no : ⊥ = cc in no)

-- A reply to the question that comes next, and the event that it gives, which is kept or isn't.
module _ (l : Language) (terms : Terms) (events : List Event) (q : Assignment) (asked : AtQuestion l terms events q) (turns : Turns) (after : List Event) (reply : Reply) (e : Event)
    (gives : event_heard q reply ≡ Some e) (left written left' written' : Option (List ℕ)) (told : ToldSo turns l q (point_of events left written) (point_of events left' written') reply) where
  abbrev here : Point
  here = point_of events left written

  abbrev there : Point
  there = point_of after left' written'

  comes : next_on l terms events ≡ Some (Puts q)
  comes = next_put l terms events q asked.puts (room_not_full events asked.room)

  -- the loop goes on
  pub turned : (end : Option Drove) → EventKept e events after end → end ≡ None → HasTurned turns l terms here there
  turned end kept none =
      let is = kept_on e events after end kept none in
      record { steps = step_heard turns l terms q here there comes reply e gives is told; one_more = record { more = e; is = is } }

  -- the event that is lost
  pub loses : (end : Option Drove) (how : Drove) → MayFollow events q e → EventKept e events after end → end ≡ Some how → Loses turns l terms here there e
  loses None how follows kept is = absurd (let no : ⊥ = cc in no)
  loses (Some end) how follows kept is = lost_turn turns l terms q here there comes reply e gives follows asked.fits kept.1 told

  -- or there was no memory, or the disk failed
  pub ends : (end : Option Drove) (marks : Remembered) → AreMarksFor l marks → MayFollow events q e → EventKept e events after end → AskedSo turns l q here there → IfSome end (EndsAs turns l terms here there marks)
  ends None marks made follows kept heard = tt
  ends (Some end) marks made follows kept heard =
      let cut = cut_turn turns l terms q here there comes run_laws asked.lawful (within l terms events q asked) kept.1 (λ bytes is. front_whole written written' _ (told bytes is).text) heard in
      let due : IsPending l terms (standing_on l after) = rw kept.1 (q, asked.puts) in
      let room : length after + 1 < 1000000 = rw kept.1 asked.room in
      ⊎_elim (λ memory. rw memory (ends_failed turns l terms here there marks made drove.Memory refl (record { number = tt; found = tt }) (λ is. absurd (let no : ⊥ = cc in no)) due cut room))
      (λ failed. rw failed (ends_failed turns l terms here there marks made drove.DiskFault refl (record { number = tt; found = tt }) (λ is. (e, loses (Some end) end follows kept refl)) due cut room)) kept.0
