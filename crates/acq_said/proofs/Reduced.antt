-- What `reduce` says of a session's network.
use Rattle.acq_said.proofs.Prelude.{◌≡◌, ◌⊎◌, ◌∙◌, ℕ, zero, suc, ◌<◌, ◌≤◌, List, [], length, Some, None, Result, refl, sym, ap, subst, inl, inr, arith, IfOk, cases_lt, Candidate, Language, standing_on, Opened, first_spent, network_led_to, reduced_said, Saying, saying, Option, if◌then◌else◌}
use Rattle.std.specs.Option.{option_map_or, option_or}
use Rattle.query_gen.specs.Questions.{is_spent}
use Rattle.fd_solver.specs.declared.outcome.Outcome.{Outcome}
use Rattle.fd_solver.specs.declared.outcome.Outcome.TheVariants.{Found, Absent, Spent}
use Rattle.net_reduce.specs.Reduction.{IsReduction, Sifts}
use Rattle.net_reduce.specs.Searched.{AreDecided, IsReducedBySearch, IsSpentAt, left_at, outcome_at}
use Rattle.net_reduce.specs.Texts.{reduced_text, spent_text}
use Rattle.net_reduce.proofs.Sifting.{reduced_is_target}
use Rattle.acq_said.specs.Asks.{SaysAsked}
use Rattle.acq_said.specs.Reducing.{HasLearned}
use Rattle.acq_said.specs.declared.ask.Ask.TheVariants as ask
use Rattle.acq_said.proofs.Moved.{moved, says_asked}
use Rattle.acq_loop.specs.declared.ending.Ending.TheVariants as ending

-- ---- the first item whose search is spent

-- the number of an item, where its search was spent, unless there is one already
abbrev spent_first : Option ℕ → Outcome → ℕ → Option ℕ
spent_first o outcome number = option_or o (if is_spent outcome then Some number else None)

abbrev pub sifted_said : Language → List Candidate → ℕ → Option ℕ → Saying
sifted_said l network budget o = option_map_or (λ i. saying (spent_text i) (ending.ReduceSpent i)) o (saying (reduced_text l (left_at l network budget (length network)) (length network)) ending.Done)

abbrev network_said : ℕ → Language → List Candidate → Saying
network_said budget l network = sifted_said l network budget (first_spent l network budget (length network))

module _ (l : Language) (network : List Candidate) (budget : ℕ) where
  none_spent : (i : ℕ) → AreDecided l network budget i → first_spent l network budget i ≡ None
  none_spent zero decided = refl
  none_spent (suc i) decided =
      ap (λ o. spent_first o (outcome_at l network budget i) i) (none_spent i (λ k low. decided k (omega (arith, low)))) ∙ by (outcome_at l network budget i) refl
    where
      by : (outcome : Outcome) → outcome_at l network budget i ≡ outcome → spent_first None outcome i ≡ None
      by (Found e) is = refl
      by Absent is = refl
      by Spent is = absurd (decided i (omega arith) is)

  spent_is : (i n : ℕ) → AreDecided l network budget i → outcome_at l network budget i ≡ Spent → i < n → first_spent l network budget n ≡ Some i
  spent_is i zero decided spent low = absurd (omega (arith, low))
  spent_is i (suc n) decided spent low = by (cases_lt i n) (λ less. spent_is i n decided spent less)
    where
      by : (i < n) ⊎ (n ≤ i) → (i < n → first_spent l network budget n ≡ Some i) → first_spent l network budget (suc n) ≡ Some i
      by (inl less) before = ap (λ o. spent_first o (outcome_at l network budget n) n) (before less)
      by (inr more) before =
          let same : i ≡ n = omega (arith, low, more) in
          subst (λ k. first_spent l network budget (suc k) ≡ Some i) same
          (ap (λ o. spent_first o (outcome_at l network budget i) i) (none_spent i decided) ∙ ap (λ outcome. spent_first None outcome i) spent)

  part_here : (part : List Candidate) → IsReducedBySearch l network budget part → saying (reduced_text l part (length network)) ending.Done ≡ network_said budget l network
  part_here part searched =
      (λ i. saying (reduced_text l (searched.remains i) (length network)) ending.Done) ∙ ap (sifted_said l network budget) (sym (none_spent (length network) searched.decided))

  spent_here : (number : ℕ) → IsSpentAt l network budget number → saying (spent_text number) (ending.ReduceSpent number) ≡ network_said budget l network
  spent_here number at = ap (sifted_said l network budget) (sym (spent_is number (length network) at.first at.spent at.known))

-- ---- of a session

-- its language and network are these
module _ (budget : ℕ) (o : Opened) (m : Language) (list : List Candidate) (has : HasLearned o m list) {E : Type 0} (r : Result Saying E) where
  there : network_said budget m list ≡ reduced_said budget o
  there = λ i. network_said budget (has.lang i) (has.same i)

  -- this part of it remains
  pub part_said : (part slice : List Candidate) (of : ℕ) → slice ≡ part → of ≡ length list → IsReducedBySearch m list budget part → Sifts m [] list part → IsReduction m list part →
      IfOk r (λ said. said ≡ saying (reduced_text m slice of) ending.Done) → IfOk r (SaysAsked (ask.Reduce budget) o)
  part_said part slice of sliced count searched sifted reduction =
      let here = moved has (λ l n. IsReducedBySearch l n budget part) searched in
      let whole = moved has (λ l n. IsReduction l n part) reduction in
      says_asked (ask.Reduce budget) o r (saying (reduced_text m slice of) ending.Done) ((λ i. saying (reduced_text m (sliced i) (count i)) ending.Done) ∙ part_here m list budget part searched ∙ there)
      (inl (record {
        part = part;
        searched = here;
        sifted = moved has (λ l n. Sifts l [] n part) sifted;
        reduction = whole;
        targets = λ target converged legal agreeing. reduced_is_target o.lang (network_led_to o) part target (standing_on o.lang o.events) converged whole legal agreeing;
        said = sym (part_here o.lang (network_led_to o) budget part here);
      }))

  -- the search of this item is spent
  pub spent_said : (number : ℕ) → IsSpentAt m list budget number → IfOk r (λ said. said ≡ saying (spent_text number) (ending.ReduceSpent number)) → IfOk r (SaysAsked (ask.Reduce budget) o)
  spent_said number at =
      let here = moved has (λ l n. IsSpentAt l n budget number) at in
      says_asked (ask.Reduce budget) o r (saying (spent_text number) (ending.ReduceSpent number)) (spent_here m list budget number at ∙ there) (inr (number, here, sym (spent_here o.lang (network_led_to o) budget number here)))
