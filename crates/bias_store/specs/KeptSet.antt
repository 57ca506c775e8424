-- The kept candidates.
use Rattle.std.specs.Prelude.{ℕ, ◌≡◌, ◌<◌, ◌==◌, ◌&&◌, Bool, true, List, length, map}
use Rattle.std.specs.List.{filter, list_any}
use Rattle.language.specs.declared.candidates.Candidate.{Candidate}
use Rattle.assign.specs.Assignment.{Assignment, covers}
use Rattle.assign.specs.Sets.{is_within}
use Rattle.language.specs.Language.{Language, scope_at, scope_of, violates}
use Rattle.language.specs.Answers.{IsNetwork}
use Rattle.bias_store.specs.Accepting.{Accepting, IsAcceptingOf}

-- how many scopes there are, the kept candidates by scope and then by relation, and which relations
-- accept which tuples
pub record KeptSet : Type 0 where
  pub scopes : ℕ
  pub members : List Candidate
  pub accepting : Accepting

-- the language's scopes, candidates of it, and what its relations accept
pub record IsMadeFor (l : Language) (k : KeptSet) : Type 0 where
  pub scopes : k.scopes ≡ length l.scopes
  pub known : IsNetwork l k.members
  pub accepting : IsAcceptingOf l k.accepting

-- the relations that are kept on a scope, by number, rising
abbrev pub kept_relations : List Candidate → ℕ → List ℕ
kept_relations members s = map (λ c. c.rel) (filter (λ c. c.scope == s) members)

-- no other scope than this one has values for all its variables
abbrev pub CoversOnly : Language → ℕ → Assignment → Type 0
CoversOnly l s q = (k : ℕ) → k < length l.scopes → covers q (scope_at l k) ≡ true → k ≡ s

-- whether the assignment violates one of these candidates whose scope lies within a set
abbrev pub is_struck_within : Language → List Candidate → Assignment → List ℕ → Bool
is_struck_within l members q set =
    list_any (λ c. is_within (scope_of l c) set && violates l c q) members
