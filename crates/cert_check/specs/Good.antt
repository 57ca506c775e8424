-- What makes a certificate good.
use Rattle.std.specs.Prelude.{ℕ, ◌==◌, ◌≡◌, ◌⊎◌, Bool, false, IsTrue, List, All, Any, AllPairs}
use Rattle.std.specs.Prelude.{slice_index_or}
use Rattle.std.specs.List.{list_any}
use Rattle.assign.specs.Events.{Answer}
use Rattle.language.specs.declared.candidates.Candidate.{Candidate}
use Rattle.language.specs.Language.{Language, IsCandidate, candidates, number_of, violates}
use Rattle.language.specs.Answers.{agrees, is_struck, has_scope, IsNoOn}
use Rattle.cert_check.specs.Certificate.{Refutation}
use Rattle.cert_check.specs.Refuting.{refutes}

-- the candidate of this number
abbrev pub candidate_at : Language → ℕ → Candidate
candidate_at l number = slice_index_or (candidates l) number (record { scope = 0; rel = 0 })

-- whether the tokens refute the candidate of that number
abbrev pub is_earned : Language → List Candidate → Refutation → Bool
is_earned l network refutation =
    refutes l network (candidate_at l refutation.candidate) refutation.tokens

-- whether a candidate's number is listed
abbrev pub has_refutation : List Refutation → ℕ → Bool
has_refutation refutations number = list_any (λ (r : Refutation). r.candidate == number) refutations

-- The answers and the refutations show that the answers converge on the network.
pub record IsGood (l : Language) (network : List Candidate) (t : List Answer)
    (refutations : List Refutation) : Type 0 where
  pub agreeing : IsTrue (agrees l network t)
  pub one_a_scope : AllPairs (λ c d. (c.scope ≡ d.scope) → ⊥) network
  -- each learned candidate has a no entry about exactly its scope
  pub begun : All (λ c. Any (IsNoOn l c) t) network
  -- each other candidate on its scope is violated by a yes entry, or accepts the tuple of such a no
  -- entry
  pub told : All (λ c. (d : Candidate) → IsCandidate l d →
      d.scope ≡ c.scope → (d.rel ≡ c.rel → ⊥) → IsTrue (is_struck l t d)
      ⊎ Any (λ a. IsNoOn l c a × (violates l d a.question ≡ false)) t) network
  -- each listed candidate's tokens refute it
  pub earned : All (λ r. IsTrue (is_earned l network r)) refutations
  -- each candidate on a scope where nothing is learned is violated by a yes entry, or is listed
  pub rest : (c : Candidate) → IsCandidate l c → has_scope network c.scope ≡ false →
      IsTrue (is_struck l t c) ⊎ IsTrue (has_refutation refutations (number_of l c))
