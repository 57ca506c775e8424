-- The answers that have places are answers to questions of the language.
use Rattle.acq_said.proofs.Prelude.{◌≡◌, ◌+◌, true, List, [], ◌∷◌, ◌++◌, length, refl, ap, Option, Some, None, is_some, All, list_any, All-cons, All-nil, All-weaker, Assignment, Answer, Plan, HaveValues, Language, IsLanguage, IsQuestion, IsAskable, State, Idle, Halving, Choosing, Walking, Over, At, is_just, open_question, read_on, state_after, step, lead_on, some_of, IsReached}
use Rattle.session_laws.proofs.Askable.{questions_have_values}
use Rattle.session_laws.proofs.Folds.{one_answer_more, passed, same_assignment}

just_is : (o : Option Assignment) (q : Assignment) → is_just o q ≡ true → o ≡ Some q
just_is None q h = absurd (let no : ⊥ = cc in no)
just_is (Some e) q h = ap some_of (same_assignment e q h)

module _ (l : Language) (plan : Plan) (lawful : IsLanguage l) where
  opened_question : (t : List Answer) (state : State) (q : Assignment) → state_after l plan t ≡ At state → is_just (open_question l state) q ≡ true → IsAskable l q
  opened_question t state q at just = questions_have_values.opened l plan t state q lawful at (just_is (open_question l state) q just)

  step_question : (t : List Answer) (a : Answer) (state next : State) → state_after l plan t ≡ At state → step l plan t a state ≡ Some next → IsAskable l a.question
  step_question t a (Idle network end) next at h = questions_have_values.put l plan t network a.question lawful (passed _ _ next h).0
  step_question t a (Halving e set replies network walk) next at h = opened_question t (Halving e set replies network walk) a.question at (passed _ _ next h).0
  step_question t a (Choosing s choices network walk) next at h = opened_question t (Choosing s choices network walk) a.question at (passed _ _ next h).0
  step_question t a (Walking set walk network) next at h = opened_question t (Walking set walk network) a.question at (passed _ _ next h).0
  step_question t a (Over network) next at h = absurd (let none : ⊥ = cc in none)

  questions_from : (before : List Answer) (state : State) (t : List Answer) (final : State) → state_after l plan before ≡ At state → read_on l plan before state t ≡ At final → All (λ (a : Answer). IsAskable l a.question) t
  unfolding read_on
  questions_from before state [] final at h = All-nil (λ (a : Answer). IsAskable l a.question)
  questions_from before state (a ∷ t) final at h =
      go (step l plan before a state) refl h (λ next moved rest. questions_from (before ++ a ∷ []) next t final (one_answer_more l plan before a state next at moved) rest)
    where
      go : (o : Option State) → step l plan before a state ≡ o → lead_on (length before + 1) o (λ next. read_on l plan (before ++ a ∷ []) next t) ≡ At final →
          ((next : State) → step l plan before a state ≡ Some next → read_on l plan (before ++ a ∷ []) next t ≡ At final → All (λ (b : Answer). IsAskable l b.question) t) → All (λ (b : Answer). IsAskable l b.question) (a ∷ t)
      go None e rest others = absurd (let no : ⊥ = cc in no)
      go (Some next) e rest others = All-cons (λ (b : Answer). IsAskable l b.question) a t (step_question before a state next at e) (others next e rest)

  all_askable : (t : List Answer) → IsReached l plan t → All (λ (a : Answer). IsAskable l a.question) t
  unfolding read_on
  all_askable t (state, at) = questions_from [] (Idle [] None) t state refl at

  pub all_questions : (t : List Answer) → IsReached l plan t → All (λ (a : Answer). IsQuestion l a.question) t
  all_questions t there = All-weaker (λ (a : Answer). IsAskable l a.question) (λ (a : Answer). IsQuestion l a.question) (λ a is. is.fits) t (all_askable t there)

  pub all_valued : (t : List Answer) → IsReached l plan t → HaveValues t
  all_valued t there = All-weaker (λ (a : Answer). IsAskable l a.question) (λ (a : Answer). list_any is_some a.question ≡ true) (λ a is. is.some) t (all_askable t there)
