-- Relations in falling order of their truth values.
use Rattle.std.specs.Prelude.{◌<◌, List, [], ◌∷◌, length, IsTrue, All, AllPairs, Contains}
use Rattle.rel_table.specs.Relation.{Relation, is_above}

abbrev pub Above : Relation → Relation → Type 0
Above r q = IsTrue (is_above r q)

-- the first of the relations, if there is one, comes after this one
abbrev pub IsBelow : Relation → List Relation → Type 0
IsBelow r [] = Unit {0}
IsBelow r (q ∷ relations) = Above r q

-- the relations, each once, in falling order
pub record IsInOrder (relations ordered : List Relation) : Type 0 where
  pub each : All (Contains relations) ordered
  pub every : All (Contains ordered) relations
  pub falling : AllPairs Above ordered

-- more than 64 of the relations in falling order
pub record Overflows (relations : List Relation) : Type 0 where
  pub some : List Relation
  pub many : 64 < length some
  pub each : All (Contains relations) some
  pub falling : AllPairs Above some
