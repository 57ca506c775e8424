-- What searches say of a network's items, each against the others that remain.
use Rattle.std.specs.Prelude.{ℕ, zero, suc, ◌≡◌, ◌≢◌, ◌<◌, List, [], ◌∷◌, ◌++◌, length, drop}
use Rattle.std.specs.Prelude.{slice_index_or}
use Rattle.language.specs.declared.candidates.Candidate.{Candidate}
use Rattle.language.specs.Language.{Language}
use Rattle.language.specs.Search.{plain_size}
use Rattle.fd_solver.specs.declared.outcome.Outcome.{Outcome}
use Rattle.fd_solver.specs.declared.outcome.Outcome.TheVariants.{Found, Absent, Spent}
use Rattle.fd_solver.specs.Outcomes.{outcome_of_candidate}
use Rattle.net_reduce.specs.declared.fault.ReduceFault.{ReduceFault}
use Rattle.net_reduce.specs.declared.fault.ReduceFault.TheVariants as fault

abbrev pub item_at : List Candidate → ℕ → Candidate
item_at network i = slice_index_or network i (record { scope = 0; rel = 0 })

-- an item is dropped where its search ends with nothing
abbrev pub unless_absent : Outcome → List Candidate → Candidate → List Candidate
unless_absent Absent left c = left
unless_absent (Found e) left c = left ++ c ∷ []
unless_absent Spent left c = left ++ c ∷ []

-- what remains of the first i items, where each is searched against those that remain before it and
-- all behind it
abbrev pub left_at : Language → List Candidate → ℕ → ℕ → List Candidate
left_at l network budget zero = []
left_at l network budget (suc i) =
    unless_absent (outcome_of_candidate l (left_at l network budget i ++ drop (suc i) network)
    (item_at network i) budget) (left_at l network budget i) (item_at network i)

-- the others that remain when item i comes
abbrev pub others_at : Language → List Candidate → ℕ → ℕ → List Candidate
others_at l network budget i = left_at l network budget i ++ drop (suc i) network

abbrev pub outcome_at : Language → List Candidate → ℕ → ℕ → Outcome
outcome_at l network budget i =
    outcome_of_candidate l (others_at l network budget i) (item_at network i) budget

-- no search of the first i items is spent
abbrev pub AreDecided : Language → List Candidate → ℕ → ℕ → Type 0
AreDecided l network budget i = (k : ℕ) → k < i → outcome_at l network budget k ≢ Spent

-- no search is spent, and what remains are the items whose search finds something
pub record IsReducedBySearch (l : Language) (network : List Candidate) (budget : ℕ)
    (part : List Candidate) : Type 0 where
  pub decided : AreDecided l network budget (length network)
  pub remains : part ≡ left_at l network budget (length network)

-- Item i is the first whose search is spent. Then it has more plain prefixes than the budget.
pub record IsSpentAt (l : Language) (network : List Candidate) (budget i : ℕ) : Type 0 where
  pub known : i < length network
  pub first : AreDecided l network budget i
  pub spent : outcome_at l network budget i ≡ Spent
  pub long : budget < plain_size l (others_at l network budget i) (item_at network i)

-- why a network isn't reduced
abbrev pub HasReduceCause : Language → List Candidate → ℕ → ReduceFault → Type 0
HasReduceCause l network budget (fault.Spent i) = IsSpentAt l network budget i
HasReduceCause l network budget fault.Memory = Unit {0}
