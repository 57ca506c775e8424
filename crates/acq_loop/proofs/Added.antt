-- Events that were added, and their places.
use Rattle.acq_loop.proofs.Prelude.{◌≡◌, List, [], ◌∷◌, ◌++◌, Option, Some, None, Result, Ok, sym, ◌∙◌, ap, inl, inr, append_assoc, IfSome, append-nil, All-nil, All-cons, All-append, Assignment, Event, Plan, Language, IsLanguage, IsQuestion, standing_on, Told, MayAdd, IsAdded, IsTaught, MayEnd, ending_of, EventKept, Puts, next_after, Drove, Terms}
use Rattle.acq_loop.proofs.Short.{MayFollow}
use Rattle.session_store.specs.Replay.{HavePlaces}
use Rattle.session_store.proofs.Fronts.{replay_is_state}
use Rattle.session_store.proofs.Placing.{answer_has_place, back_has_place}
use Rattle.target_oracle.specs.NetTurns.{told_of_answer}
use Rattle.acq_loop.specs.declared.ending.Ending.{Ending}
use Rattle.acq_loop.specs.declared.ending.Ending.TheVariants as ending
use Rattle.acq_io.specs.declared.streams.Put.{Put}
use Rattle.acq_loop.proofs.Running.{RunLaws, asked_after}

-- ---- places

-- what is said to the question that comes next has a place behind events that have one
pub placed_event : RunLaws → (l : Language) → IsLanguage l → (terms : Terms) (past : List Event) (q : Assignment) (e : Event) → next_after l terms (standing_on l past) ≡ Some (Puts q) → IsQuestion l q → MayFollow past q e →
    HavePlaces l terms.plan past → HavePlaces l terms.plan (past ++ e ∷ [])
placed_event laws l lawful terms past q e due fits (inl (reply, is)) places =
    let asked = asked_after laws l lawful terms (standing_on l past) q (places.0, replay_is_state l terms.plan past places.0 places.1) due in
    rw is (answer_has_place l terms.plan past q reply fits.size places asked)
placed_event laws l lawful terms past q e due fits (inr (is, some)) places = rw is (back_has_place l terms.plan past places some)

-- ---- what was added

pub added_none : (l : Language) (plan : Plan) (may : Assignment → Told → Type 0) (before after : List Event) → after ≡ before → IsAdded l plan may before after
added_none l plan may before after same = record {
  more = [];
  is = same ∙ sym (append-nil before);
  each = All-nil (MayAdd l may);
  places = λ places. rw same places;
}

-- and then more, where what may be given then might be given before
pub added_then : (l : Language) (plan : Plan) (more may : Assignment → Told → Type 0) (one two three : List Event) → ((q : Assignment) (told : Told) → may q told → more q told) → IsAdded l plan more one two → IsAdded l plan may two three → IsAdded l plan more one three
added_then l plan more may one two three weaker first second = record {
  more = first.more ++ second.more;
  is = second.is ∙ ap (λ (x : List Event). x ++ second.more) first.is ∙ append_assoc one first.more second.more;
  each = All-append (MayAdd l more) first.more second.more first.each (λ k d low. may_more _ (second.each k d low));
  places = λ places. second.places (first.places places);
}
  where
    may_more : (e : Event) → MayAdd l may e → MayAdd l more e
    may_more e (inl (a, is, fits, said)) = inl (a, is, fits, weaker a.question (told_of_answer a.yes) said)
    may_more e (inr (q, is, said)) = inr (q, is, weaker q _ said)

-- what was kept of an event
pub adds : RunLaws → (l : Language) → IsLanguage l → (terms : Terms) (may : Assignment → Told → Type 0) (events after : List Event) (q : Assignment) (e : Event) (end : Option Drove) → next_after l terms (standing_on l events) ≡ Some (Puts q) → IsQuestion l q → MayFollow events q e → EventKept e events after end → MayAdd l may e →
    IsAdded l terms.plan may events after
adds laws l lawful terms may events after q e None due fits follows is said = record {
  more = e ∷ [];
  is = is;
  each = All-cons (MayAdd l may) e [] said (All-nil (MayAdd l may));
  places = λ places. rw is (placed_event laws l lawful terms events q e due fits follows places);
}
adds laws l lawful terms may events after q e (Some end) due fits follows kept said = added_none l terms.plan may events after kept.1

-- ---- how it ended

-- an event that wasn't kept is no word of the teacher
pub taught_kept : (may : Assignment → Told → Type 0) (e : Event) (old new : List Event) (got : Option Drove) → EventKept e old new got → IfSome got (λ (how : Drove). MayEnd may (ending_of how))
taught_kept may e old new None kept = tt
taught_kept may e old new (Some end) (inl is, same) = rw is tt
taught_kept may e old new (Some end) (inr is, same) = rw is tt

-- nothing was added, and it ended so
pub taught_none : (l : Language) (plan : Plan) (may : Assignment → Told → Type 0) (before after : List Event) {ended : Type 0} → after ≡ before → ended → IsTaught l plan may before after ended
taught_none l plan may before after same said = record { added = added_none l plan may before after same; said = said }

pub ends_more : (more may : Assignment → Told → Type 0) → ((q : Assignment) (told : Told) → may q told → more q told) → (got : Result Ending Put) → MayEnd may got → MayEnd more got
ends_more more may weaker (Ok (ending.Suspended m)) (q, inl said) = (q, inl (weaker q _ said))
ends_more more may weaker (Ok (ending.Suspended m)) (q, inr said) = (q, inr (weaker q _ said))
ends_more more may weaker (Ok ending.LineTooLong) (q, said) = (q, weaker q _ said)
ends_more more may weaker (Ok ending.Unreadable) (q, said) = (q, weaker q _ said)
ends_more more may weaker (Ok ending.ReadFault) (q, said) = (q, weaker q _ said)
ends_more more may weaker got said = tt
