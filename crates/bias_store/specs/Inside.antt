-- The candidates that the fields stand for.
use Rattle.std.specs.Prelude.{ℕ, ◌+◌, ◌≡◌, List, [], ◌∷◌, ◌++◌, length, map}
use Rattle.language.specs.declared.candidates.Candidate.{Candidate}
use Rattle.bias_store.specs.KeptSet.{KeptSet}
use Rattle.bias_store.specs.declared.kept.Kept.TheInside.{Inside}
use Rattle.assign.specs.Sets.{ones_of}

-- the candidates of a scope with these relations
abbrev pub candidates_at : ℕ → List ℕ → List Candidate
candidates_at s relations = map (λ r. record { scope = s; rel = r }) relations

-- the candidates of masks, one for each scope from s on
abbrev pub members_from : ℕ → List ℕ → List Candidate
members_from s [] = []
members_from s (mask ∷ masks) = candidates_at s (ones_of mask) ++ members_from (s + 1) masks

abbrev pub seen : Inside → KeptSet
seen a = record {
  scopes = length a.relations;
  members = members_from 0 a.relations;
  accepting = a.tables;
}

-- the count is that of the candidates
abbrev pub CountsCandidates : Inside → Type 0
CountsCandidates a = a.count ≡ length (members_from 0 a.relations)
