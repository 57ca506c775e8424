-- Of each network the searches are decided, or a first one is spent.
use Rattle.net_reduce.proofs.Prelude.{◌≡◌, ℕ, zero, suc, ◌≤◌, List, length, ◌⊎◌, inl, inr, refl, sym, ◌∙◌, arith, Candidate, Language, IsLanguage, IsNetwork, Outcome, Found, Absent, Spent, EachIsSearchedOrSpent, left_at, outcome_at, AreDecided, IsReducedBySearch, IsSpentAt}
use Rattle.net_reduce.proofs.Searching.{decided_none, decided_on, spent_at}

module _ (l : Language) (network : List Candidate) (budget : ℕ) (lawful : IsLanguage l) (known : IsNetwork l network) where
  abbrev IsSpent : Type 0
  IsSpent = (i : ℕ) × IsSpentAt l network budget i

  first_items : (i : ℕ) → i ≤ length network → AreDecided l network budget i ⊎ IsSpent
  first_items zero low = inl (decided_none l network budget)
  first_items (suc i) low = go (first_items i (omega arith)) (outcome_at l network budget i) refl
    where
      go : AreDecided l network budget i ⊎ IsSpent → (o : Outcome) → outcome_at l network budget i ≡ o → AreDecided l network budget (suc i) ⊎ IsSpent
      go (inr spent) o is = inr spent
      go (inl before) Spent is = inr (i, spent_at l network budget lawful known i (omega arith) before is)
      go (inl before) Absent is = inl (decided_on l network budget i before (λ spent. let e = sym is ∙ spent in let no : ⊥ = cc in no))
      go (inl before) (Found q) is = inl (decided_on l network budget i before (λ spent. let e = sym is ∙ spent in let no : ⊥ = cc in no))

  whole : AreDecided l network budget (length network) ⊎ IsSpent → ((part : List Candidate) × IsReducedBySearch l network budget part) ⊎ IsSpent
  whole (inl decided) = inl (left_at l network budget (length network), record { decided = decided; remains = refl })
  whole (inr spent) = inr spent

pub each_network : EachIsSearchedOrSpent
each_network l network budget lawful known = whole l network budget lawful known (first_items l network budget lawful known (length network) (omega arith))
