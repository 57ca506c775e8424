-- Trees of tokens by which each assignment that the network accepts satisfies a candidate.
use Rattle.std.specs.Prelude.{ℕ, nat_lt, Bool, true, false, ◌&&◌, List, [], ◌∷◌, ◌++◌, length, map}
use Rattle.std.specs.Prelude.{slice_get, slice_index_or}
use Rattle.std.specs.Option.{option_map_or}
use Rattle.assign.specs.Assignment.{Assignment}
use Rattle.language.specs.declared.candidates.Candidate.{Candidate}
use Rattle.language.specs.Language.{Language, variable_count, values_of, violates}
use Rattle.language.specs.Search.{order_of, assignment_of, satisfies}
use Rattle.cert_check.specs.declared.token.Token.{Token}
use Rattle.cert_check.specs.declared.token.Token.TheVariants.{Branch, Holds, Item}

-- whether the network has an item of this number, and it is violated
abbrev pub violates_item : Language → List Candidate → Assignment → ℕ → Bool
violates_item l network e i = option_map_or (λ c. violates l c e) (slice_get network i) false

-- Whether a node of a candidate's tree is lawful at a prefix. A branch is so where a variable has
-- no value yet. A leaf is so where the prefix satisfies the candidate, or violates the item that it
-- names.
abbrev pub is_lawful_node : Language → List Candidate → Candidate → List ℕ → Token → Bool
is_lawful_node l network c prefix Branch = nat_lt (length prefix) (variable_count l)
is_lawful_node l network c prefix Holds = satisfies l c (assignment_of l c prefix)
is_lawful_node l network c prefix (Item i) = violates_item l network (assignment_of l c prefix) i

-- the prefixes at which a node's children stand: those of a branch have each value of the next
-- variable, rising
abbrev pub children : Language → Candidate → List ℕ → Token → List (List ℕ)
children l c prefix Branch =
    map (λ x. prefix ++ x ∷ []) (values_of l (slice_index_or (order_of l c) (length prefix) 0))
children l c prefix Holds = []
children l c prefix (Item i) = []

-- whether the tokens are the lawful nodes, in preorder, of trees that stand at these prefixes, and
-- none is left
unfoldable pub are_trees : Language → List Candidate → Candidate → List (List ℕ) → List Token → Bool
are_trees l network c [] [] = true
are_trees l network c (prefix ∷ later) [] = false
are_trees l network c [] (token ∷ tokens) = false
are_trees l network c (prefix ∷ later) (token ∷ tokens) =
    is_lawful_node l network c prefix token && are_trees l network c
    (children l c prefix token ++ later) tokens

-- whether the tokens are the lawful nodes of one tree, which stands at the empty prefix
abbrev pub refutes : Language → List Candidate → Candidate → List Token → Bool
refutes l network c tokens = are_trees l network c ([] ∷ []) tokens
