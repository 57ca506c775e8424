-- The open candidates.
use Rattle.acq_loop.proofs.Prelude.{◌≡◌, ◌<◌, Bool, true, List, [], ◌∷◌, get_or, refl, ◌∙◌, ap, Option, ◌≢◌, inl, inr, cases_Bool, ◌==◌, ◌&&◌, IsTrue, All, Any, filter, list_any, and_from, eq-eqb, All-filter, All-head, All-tail, filter_passes, list_any_at, Answer, Candidate, Language, IsCandidate, candidates, kept, outcome_of_candidate, is_among, is_spent, IsUndecided, Remembered, is_open, WalkEnd, Idle, At, state_after, all_candidates, Terms, TellsOpen}
use Rattle.language.specs.Search.{plain_size}
use Rattle.fd_solver.specs.declared.outcome.Outcome.{Outcome}
use Rattle.fd_solver.specs.declared.outcome.Outcome.TheVariants.{Spent}
use Rattle.acq_loop.specs.Texts.{open_candidates}
use Rattle.shared_lemmas.proofs.Lists.{filter_and}
use Rattle.query_gen.proofs.Among.{picked_are_in_order}

-- ---- lists

filter_alike : {X : Type 0} (P : X → Type 0) (p q : X → Bool) (xs : List X) → All P xs → ((x : X) → P x → p x ≡ q x) → filter p xs ≡ filter q xs
filter_alike P p q [] all same = refl
filter_alike P p q (x ∷ xs) all same = rw (same x (All-head P x xs all), filter_alike P p q xs (All-tail P x xs all) same)

filter_some : {X : Type 0} (p : X → Bool) (xs : List X) → list_any p xs ≡ true → filter p xs ≢ []
filter_some p [] some = cc
filter_some p (x ∷ xs) some = elim (cases_Bool (p x)) [ inl on ↦ rw on (λ e. cc) | inr off ↦ rw off (filter_some p xs (rw off at some)) ]

-- ---- what the screen tells

pub opens_are : (l : Language) (terms : Terms) (t : List Answer) (network : List Candidate) (end : Option WalkEnd) (screen : Remembered) → state_after l terms.plan t ≡ At (Idle network end) → TellsOpen l terms t screen →
    filter (is_open l screen) (candidates l) ≡ open_candidates l terms t network
opens_are l terms t network end screen idle tells =
    let live : List Candidate = kept l t network in
    let spent : Candidate → Bool = λ c. is_spent (outcome_of_candidate l network c terms.budget) in
    filter_alike (IsCandidate l) (is_open l screen) (λ c. is_among live c && spent c) (candidates l) (all_candidates l) (λ c is. tells network end idle c is)
    ∙ filter_and (is_among live) spent (candidates l)
    ∙ ap (filter spent) (picked_are_in_order l _)

is_spent_true : (o : Outcome) → is_spent o ≡ true → o ≡ Spent
is_spent_true Spent h = refl
is_spent_true o h = cc

among_itself : (cs : List Candidate) → All (λ c. IsTrue (is_among cs c)) cs
among_itself cs k d low =
    list_any_at (λ e. (e.scope == (get_or cs k d).scope) && (e.rel == (get_or cs k d).rel)) cs k d low (and_from _ _ (eq-eqb (get_or cs k d).scope (get_or cs k d).scope refl) (eq-eqb (get_or cs k d).rel (get_or cs k d).rel refl))

-- what the budget was too small for
module _ (l : Language) (terms : Terms) (t : List Answer) (network : List Candidate) (undecided : IsUndecided l network (kept l t network) terms.budget) where
  abbrev live : List Candidate
  live = kept l t network

  abbrev spent : Candidate → Bool
  spent c = is_spent (outcome_of_candidate l network c terms.budget)

  pub some_open : open_candidates l terms t network ≢ []
  some_open =
      let any : Any (λ c. outcome_of_candidate l network c terms.budget ≡ Spent) live = undecided.some in
      filter_some spent live (list_any_at spent live any.0 any.1 any.2 (ap spent any.3 ∙ ap is_spent any.4))

  pub each_open : All (λ c. IsTrue (is_among live c) × (terms.budget < plain_size l network c)) (open_candidates l terms t network)
  each_open =
      let Long : Candidate → Type 0 = λ c. outcome_of_candidate l network c terms.budget ≡ Spent → terms.budget < plain_size l network c in
      λ k d low. (
        All-filter spent (λ c. IsTrue (is_among live c)) live (among_itself live) k d low,
        All-filter spent Long live undecided.each k d low (is_spent_true _ (filter_passes spent live k d low)),
      )
