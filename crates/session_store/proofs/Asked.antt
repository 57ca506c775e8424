-- A question that is asked gives a value to some variable, so that a record can hold it.
use Rattle.session_store.proofs.Prelude.{◌≡◌, ◌-◌, ◌≤◌, false, true, List, [], ◌∷◌, length, replicate, Some, None, ◌∙◌, arith, is_some, or_left, Assignment, widened, Answer, Plan, Language, IsLanguage, IsQuestion, State, Idle, Halving, Choosing, Walking, Over, At, state_after, IsAskedAfter, IsAskedIn}
use Rattle.std.proofs.lemmas.List.Folds.{list_any-append}
use Rattle.session_laws.specs.Laws.{has_value, IsAskable}
use Rattle.session_laws.proofs.Askable.{questions_have_values}
use Rattle.answer_journal.specs.Format.{valued_count}

pub widened_has : (q : Assignment) → has_value q ≡ true → has_value (widened q) ≡ true
widened_has q h = list_any-append is_some q (replicate (128 - length q) None) ∙ or_left _ _ h

pub value_counts : (q : Assignment) → has_value q ≡ true → 1 ≤ valued_count q
value_counts [] h = absurd (let bad : false ≡ true = h in cc)
value_counts (None ∷ q) h = value_counts q h
value_counts (Some x ∷ q) h = omega arith

module _ (l : Language) (lawful : IsLanguage l) where
  asked_in : (plan : Plan) (t : List Answer) (q : Assignment) (state : State) → state_after l plan t ≡ At state → IsAskedIn l plan t q state → IsAskable l q
  asked_in plan t q (Idle network end) at asked = questions_have_values.put l plan t network q lawful asked
  asked_in plan t q (Halving e set replies network walk) at asked = questions_have_values.opened l plan t (Halving e set replies network walk) q lawful at asked
  asked_in plan t q (Choosing s choices network walk) at asked = questions_have_values.opened l plan t (Choosing s choices network walk) q lawful at asked
  asked_in plan t q (Walking set walk network) at asked = questions_have_values.opened l plan t (Walking set walk network) q lawful at asked
  asked_in plan t q (Over network) at asked = absurd asked

  pub asked_has : (plan : Plan) (t : List Answer) (q : Assignment) → IsAskedAfter l plan t q → has_value q ≡ true
  asked_has plan t q asked = (asked_in plan t q asked.state asked.at asked.asked).some

  pub asked_fits : (plan : Plan) (t : List Answer) (q : Assignment) → IsAskedAfter l plan t q → IsQuestion l q
  asked_fits plan t q asked = (asked_in plan t q asked.state asked.at asked.asked).fits
