-- The clauses of a network, as DIMACS has them: lists of literals, each a number with or without a
-- sign.
use Rattle.std.specs.Prelude.{ℕ, ◌-◌, Bool, true, false, not, List, [], ◌∷◌, ◌++◌, map}
use Rattle.std.specs.Prelude.{slice_index_or}
use Rattle.std.specs.Bool.{beq}
use Rattle.std.specs.List.{list_any, list_all, filter, flat_map}
use Rattle.assign.specs.Sets.{numbers}
use Rattle.rel_table.specs.Relation.{holds}
use Rattle.language.specs.declared.candidates.Candidate.{Candidate}
use Rattle.language.specs.Language.{Language, variable_count, scope_of, relation_of}
use Rattle.net_cnf.specs.Booleans.{Boolean, booleans_of, boolean_number}
use Rattle.net_cnf.specs.declared.literal.Literal.{Literal}

abbrev pub Clause : Type 0
Clause = List Literal

-- ---- What satisfies them

-- whether the literal is true where the Booleans have these truth values
abbrev pub is_met : List Bool → Literal → Bool
is_met truths literal = beq (slice_index_or truths (literal.number - 1) false) literal.positive

-- some literal of each clause is true
abbrev pub satisfies_clauses : List Bool → List Clause → Bool
satisfies_clauses truths clauses = list_all (list_any (is_met truths)) clauses

-- ---- The clauses of a network

abbrev pub literal : Language → Bool → Boolean → Literal
literal l positive b = record { number = boolean_number l b; positive = positive }

-- the variable has a value
abbrev pub some_value : Language → ℕ → Clause
some_value l v = map (literal l true) (booleans_of l v)

-- one of each two of a list: the first with each behind it, the second with each behind it, and so
-- on
abbrev pub each_two : {X Y : Type 0} → (X → X → Y) → List X → List Y
each_two f [] = []
each_two f (x ∷ xs) = map (f x) xs ++ each_two f xs

abbrev pub not_both : Language → Boolean → Boolean → Clause
not_both l a b = literal l false a ∷ literal l false b ∷ []

-- the variable has no two values
abbrev pub no_two_values : Language → ℕ → List Clause
no_two_values l v = each_two (not_both l) (booleans_of l v)

-- the tuples of a scope, as lists of Booleans, in table order
abbrev pub tuples_on : Language → List ℕ → List (List Boolean)
tuples_on l [] = [] ∷ []
tuples_on l (v ∷ scope) =
    flat_map (λ b. map (λ tuple. b ∷ tuple) (tuples_on l scope)) (booleans_of l v)

abbrev pub values_in : List Boolean → List ℕ
values_in tuple = map (λ (b : Boolean). b.value) tuple

-- the tuples that a candidate rejects
abbrev pub rejected : Language → Candidate → List (List Boolean)
rejected l c = filter (λ tuple. not (holds l.value_count (relation_of l c) (values_in tuple)))
    (tuples_on l (scope_of l c))

-- none of them is given
abbrev pub none_rejected : Language → Candidate → List Clause
none_rejected l c = map (λ tuple. map (literal l false) tuple) (rejected l c)

abbrev pub clauses : Language → List Candidate → List Clause
clauses l network =
    map (some_value l) (numbers (variable_count l))
    ++ (flat_map (no_two_values l) (numbers (variable_count l))
    ++ flat_map (none_rejected l) network)
