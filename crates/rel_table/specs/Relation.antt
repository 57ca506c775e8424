-- Relations: a relation of arity a over d values is the list of its d^a truth values, one for each
-- tuple.
use Rattle.std.specs.Prelude.{ℕ, ◌+◌, ◌*◌, ◌/◌, ◌%◌, ◌^◌, zero, suc, Bool, true, false, ◌&&◌}
use Rattle.std.specs.Prelude.{IsTrue, ◌≡◌, List, [], ◌∷◌, map, slice_index_or, All, Contains}
use Rattle.std.specs.Prelude.{AllPairs}
use Rattle.std.specs.List.{fold, flat_map, range_with_len, zip}

abbrev pub Relation : Type 0
Relation = List Bool

-- where a tuple stands: t0·d^(a-1) + t1·d^(a-2) and so on
abbrev pub place : ℕ → List ℕ → ℕ
place d tuple = fold (λ at x. at * d + x) 0 tuple

-- whether the tuple is in the relation
abbrev pub holds : ℕ → Relation → List ℕ → Bool
holds d r tuple = slice_index_or r (place d tuple) false

-- all tuples of an arity, in the order of their places
abbrev pub tuples : ℕ → ℕ → List (List ℕ)
tuples d zero = [] ∷ []
tuples d (suc a) = flat_map (λ x. map (λ tuple. x ∷ tuple) (tuples d a)) (range_with_len 0 d)

-- the tuple of an arity that stands at a place, its first value first
abbrev pub tuple_at : ℕ → ℕ → ℕ → List ℕ
tuple_at d zero at = []
tuple_at d (suc a) at = (at / d ^ a) ∷ tuple_at d a (at % d ^ a)

-- the tuples that are in both
abbrev pub meet : Relation → Relation → Relation
meet r q = map (λ both. both.0 && both.1) (zip r q)

-- the tuples that are in each of r and more
abbrev pub meet_all : Relation → List Relation → Relation
meet_all r more = fold meet r more

-- r comes before q: where they first differ, r holds
abbrev pub is_above : Relation → Relation → Bool
is_above (true ∷ r) (true ∷ q) = is_above r q
is_above (true ∷ r) (false ∷ q) = true
is_above (false ∷ r) (true ∷ q) = false
is_above (false ∷ r) (false ∷ q) = is_above r q
is_above [] q = false
is_above (x ∷ r) [] = false

-- a relation is an intersection of relations of the file, one at least
pub record IsIntersection (file : List Relation) (r : Relation) : Type 0 where
  pub first : Relation
  pub more : List Relation
  pub first_given : Contains file first
  pub more_given : All (Contains file) more
  pub is : r ≡ meet_all first more

-- all intersections of relations of the file, no two the same, in falling order of their truth
-- values
pub record IsClosing (file closed : List Relation) : Type 0 where
  pub each : All (IsIntersection file) closed
  pub every : (r : Relation) → IsIntersection file r → Contains closed r
  pub falling : AllPairs (λ r q. IsTrue (is_above r q)) closed
