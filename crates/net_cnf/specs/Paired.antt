-- Clauses by the numbers of variables, values and places, as the code has them.
use Rattle.std.specs.Prelude.{ℕ, Bool, false, List, [], ◌∷◌, length, map, slice_index_or}
use Rattle.std.specs.Prelude.{if◌then◌else◌}
use Rattle.std.specs.List.{flat_map}
use Rattle.rel_table.specs.Relation.{tuple_at}
use Rattle.language.specs.declared.candidates.Candidate.{Candidate}
use Rattle.language.specs.Language.{Language, scope_of, relation_of}
use Rattle.net_cnf.specs.Booleans.{Boolean, boolean}
use Rattle.net_cnf.specs.Clauses.{literal, none_rejected}
use Rattle.net_cnf.specs.Texts.{clause_text}

-- the Booleans of variables and their values
abbrev pub paired : List ℕ → List ℕ → List Boolean
paired [] values = []
paired (v ∷ scope) [] = []
paired (v ∷ scope) (x ∷ values) = boolean v x ∷ paired scope values

-- the Booleans of the tuple at a place
abbrev pub tuple_there : Language → Candidate → ℕ → List Boolean
tuple_there l c at = paired (scope_of l c) (tuple_at l.value_count (length (scope_of l c)) at)

abbrev pub accepts_there : Language → Candidate → ℕ → Bool
accepts_there l c at = slice_index_or (relation_of l c) at false

-- the line of a place: none where the tuple there is accepted
abbrev pub place_piece : Language → Candidate → ℕ → List ℕ
place_piece l c at =
    if accepts_there l c at then [] else clause_text (map (literal l false) (tuple_there l c at))

-- the lines of the item of this number
abbrev pub item_piece : Language → List Candidate → ℕ → List ℕ
item_piece l network i = flat_map clause_text
    (none_rejected l (slice_index_or network i (record { scope = 0; rel = 0 })))
