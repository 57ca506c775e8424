-- What is said of a session at its end.
use Rattle.acq_said.proofs.Prelude.{◌≡◌, ◌∙◌, ◌++◌, ℕ, List, flat_map, network_text, Option, Some, None, Result, Ok, Err, sym, ap, subst, refl, filter, IfOk, OnErr, IsErr, Put, Answer, Candidate, Language, candidates, Remembered, is_open, Idle, At, state_after, Session, Stands, knowledge_of, closing_of, ending_of, HasEnded, TellsOpen, Says, SaysEnd, SaysPart, terms_with, Closing, Converged, Undecided, HasWritten, IsSaid, MatchOption, silent_end, Saying, saying, closing_text, ending_line, open_candidates, open_line, learned_in, learned_after, Drove, Ending, Unsaid, Terms, learned_is}
use Rattle.session_laws.specs.Walk.{WalkEnd}
use Rattle.acq_loop.specs.declared.driving.Drove.TheVariants as drove
use Rattle.acq_said.proofs.Closings.{AddsLast, AddsLastFront, failed, okay}
use Rattle.acq_loop.proofs.OpenCandidates.{opens_are}
use Rattle.acq_said.proofs.Parts.{ends_part}
use Rattle.acq_said.proofs.Spoken.{ends_as}

-- ---- the text

module _ (session : Session) (budget : ℕ) (t : List Answer) (stands : Stands session t) where
  abbrev l : Language
  l = (knowledge_of session).lang

  abbrev terms : Terms
  terms = terms_with (knowledge_of session).plan budget

  -- the session's network is the one that the answers lead to
  learned : (network : List Candidate) (ended : Option WalkEnd) → state_after l (knowledge_of session).plan t ≡ At (Idle network ended) → (knowledge_of session).network.list ≡ learned_after l terms t
  learned network ended at = learned_is session t network ended stands at ∙ sym (ap learned_in at)

  pub converged_so : (m : ℕ) → HasEnded l terms t (drove.Converged m) → ending_line Converged m ++ network_text l (knowledge_of session).network.list ≡ closing_text l terms t Converged
  converged_so m done = let net = learned done.found.network done.found.end done.found.idle in (λ i. ending_line Converged (done.number i) ++ network_text l (net i))

  pub undecided_so : (screen : Remembered) (m : ℕ) → HasEnded l terms t (drove.Undecided m) → TellsOpen l terms t screen →
      ending_line Undecided m ++ (network_text l (knowledge_of session).network.list ++ flat_map (open_line l) (filter (is_open l screen) (candidates l))) ≡ closing_text l terms t Undecided
  undecided_so screen m done tells =
      let net = learned done.found.network done.found.end done.found.idle in
      let opens : filter (is_open l screen) (candidates l) ≡ open_candidates l terms t (learned_after l terms t) =
      opens_are l terms t done.found.network done.found.end screen done.found.idle tells ∙ ap (open_candidates l terms t) (sym (ap learned_in done.found.idle)) in
      (λ i. ending_line Undecided (done.number i) ++ (network_text l (net i) ++ flat_map (open_line l) (opens i)))

-- ---- what was written of it

module _ (l : Language) (terms : Terms) (t : List Answer) (said : Result Saying Unsaid) (written written' : Option (List ℕ)) (how : Drove) where
  -- whole, and in part
  written_by : (o : Option Closing) (got : Result Ending Put) → MatchOption o ((why : Unsaid) × (said ≡ Err why) × (ending_of how ≡ silent_end why)) (λ closing. (end : Ending) × (ending_of how ≡ Ok end) × IsSaid (saying (closing_text l terms t closing) end) said) →
      HasWritten said written written' got → IfOk got (λ e. (ending_of how ≡ Ok e) × AddsLast l terms t written written' o) × OnErr got (AddsLastFront l terms t written written' (ending_of how) o)
  written_by (Some closing) (Ok e) (end, is, says) has = let ends = ends_as (saying (closing_text l terms t closing) end) said written written' (okay e) says has in ((is ∙ ap okay (sym ends.0), ends.1), tt)
  written_by (Some closing) (Err e) (end, is, says) has = (tt, ends_part end (closing_text l terms t closing) written written' (failed e) (ends_as (saying (closing_text l terms t closing) end) said written written' (failed e) says has))
  written_by None (Ok e) (why, none, is) has = let silent = subst (λ (s : Result Saying Unsaid). HasWritten s written written' (okay e)) none has in ((is ∙ sym silent.0, silent.1), tt)
  written_by None (Err e) (why, none, is) has = let silent = subst (λ (s : Result Saying Unsaid). HasWritten s written written' (failed e)) none has in (tt, (silent.1, subst IsErr (silent.0 ∙ sym is) refl))

  pub says_so : (got : Result Ending Put) → SaysEnd l terms t how said → HasWritten said written written' got → IfOk got (Says l terms t written written' how)
  says_so got says has = (written_by (closing_of how) got says has).0

  pub part_so : (got : Result Ending Put) → SaysEnd l terms t how said → HasWritten said written written' got → OnErr got (SaysPart l terms t written written' how)
  part_so got says has = (written_by (closing_of how) got says has).1
