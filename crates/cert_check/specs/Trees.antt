-- The tree that is listed for a candidate which the network implies.
use Rattle.std.specs.Prelude.{ℕ, zero, suc, List, [], ◌∷◌, length, Bool, true, false, Option, Some}
use Rattle.std.specs.Prelude.{None, position}
use Rattle.std.specs.List.{filter, flat_map}
use Rattle.language.specs.declared.candidates.Candidate.{Candidate}
use Rattle.language.specs.Language.{Language, variable_count, violates}
use Rattle.language.specs.Search.{assignment_of, satisfies}
use Rattle.cert_check.specs.declared.token.Token.{Token}
use Rattle.cert_check.specs.declared.token.Token.TheVariants.{Branch, Holds, Item}
use Rattle.cert_check.specs.Refuting.{children}

-- the first violated item, if there is one; else whether the candidate is satisfied
abbrev pub node_of : Option ℕ → Bool → Token
node_of (Some i) holds = Item i
node_of None true = Holds
node_of None false = Branch

-- the node at a prefix: the first item in learning order that the prefix violates; where there is
-- none, that the prefix satisfies the candidate; where it doesn't, a branch
abbrev pub node_at : Language → List Candidate → Candidate → List ℕ → Token
node_at l network c prefix =
    node_of (position (λ d. violates l d (assignment_of l c prefix)) network)
    (satisfies l c (assignment_of l c prefix))

-- the nodes, in preorder, of the tree that stands at a prefix behind which k variables have no
-- value yet
unfoldable pub tree_from : Language → List Candidate → Candidate → ℕ → List ℕ → List Token
tree_from l network c zero prefix = node_at l network c prefix ∷ []
tree_from l network c (suc k) prefix = node_at l network c prefix
    ∷ flat_map (tree_from l network c k) (children l c prefix (node_at l network c prefix))

-- the nodes of the whole tree
abbrev pub tree_of : Language → List Candidate → Candidate → List Token
tree_of l network c = tree_from l network c (variable_count l) []

abbrev pub is_branch : Token → Bool
is_branch Branch = true
is_branch Holds = false
is_branch (Item i) = false

-- how many branches there are
abbrev pub branches : List Token → ℕ
branches tokens = length (filter is_branch tokens)
