-- The search for a complete question that the network accepts and that violates a candidate.
use Rattle.std.specs.Prelude.{ℕ, zero, suc, ◌<◌, ◌≡◌, ◌≢◌, Bool, not, ◌&&◌, List, [], ◌∷◌, ◌++◌}
use Rattle.std.specs.Prelude.{length, map, filter, All, AllPairs}
use Rattle.std.specs.List.{flat_map, list_all}
use Rattle.language.specs.declared.candidates.Candidate.{Candidate}
use Rattle.assign.specs.Sets.{numbers, has}
use Rattle.assign.specs.Assignment.{Assignment, value_of, assigned, covers, tuple_on}
use Rattle.rel_table.specs.Relation.{holds}
use Rattle.language.specs.Language.{Language, variable_count, scope_of, relation_of, accepts}
use Rattle.language.specs.Language.{is_ranged}

-- each of n variables once
pub record IsOrder (n : ℕ) (order : List ℕ) : Type 0 where
  pub size : length order ≡ n
  pub known : All (λ v. v < n) order
  pub different : AllPairs (λ v w. v ≢ w) order

-- the candidate's variables, and then the others in vocabulary order
abbrev pub order_of : Language → Candidate → List ℕ
order_of l c = scope_of l c ++ filter (λ v. not (has (scope_of l c) v)) (numbers (variable_count l))

-- values for the first variables of an order: those lists of at most k values below d, each before
-- its extensions, values rising
abbrev pub prefixes : ℕ → ℕ → List (List ℕ)
prefixes d zero = [] ∷ []
prefixes d (suc k) = [] ∷ flat_map (λ x. map (λ p. x ∷ p) (prefixes d k)) (numbers d)

-- the assignment of a prefix
abbrev pub assignment_of : Language → Candidate → List ℕ → Assignment
assignment_of l c prefix = assigned (variable_count l) (order_of l c) prefix

-- whether e covers the candidate's scope and satisfies it
abbrev pub satisfies : Language → Candidate → Assignment → Bool
satisfies l c e =
    covers e (scope_of l c) && holds l.value_count (relation_of l c) (tuple_on e (scope_of l c))

-- whether each value that an assignment has is one of its variable's
abbrev pub are_ranged : Language → Assignment → Bool
are_ranged l e = list_all (λ v. is_ranged l v (value_of e v)) (numbers (variable_count l))

-- a prefix whose values are their variables', that violates nothing learned and doesn't satisfy the
-- candidate
abbrev pub is_plain : Language → List Candidate → Candidate → List ℕ → Bool
is_plain l network c prefix =
    let e : Assignment = assignment_of l c prefix in
    are_ranged l e && (accepts l network e && not (satisfies l c e))

-- ---- The walk and its outcome

-- the prefixes that pass a test, in preorder
abbrev pub walk_by : (List ℕ → Bool) → Language → List (List ℕ)
walk_by test l = filter test (prefixes l.value_count (variable_count l))

abbrev pub plain_walk : Language → List Candidate → Candidate → List (List ℕ)
plain_walk l network c = walk_by (is_plain l network c) l

-- how many plain prefixes there are
abbrev pub plain_size : Language → List Candidate → Candidate → ℕ
plain_size l network c = length (plain_walk l network c)
