-- The parts that a language is built of.
use Rattle.std.specs.Prelude.{ℕ, ◌<◌, ◌≤◌, List, length, map, All, AllPairs, IsTrue}
use Rattle.rel_table.specs.Relation.{Relation, IsClosing}
use Rattle.rel_table.specs.Table.{TruthTable}
use Rattle.rel_table.specs.Closing.{IsOfKind}
use Rattle.language.specs.declared.ranges.ValueRange.{ValueRange}
use Rattle.language.specs.Ranges.{widened, IsRange}
use Rattle.language.specs.Language.{Given, IsScope, AreApart}
use Rattle.language.specs.Building.{relations_of_arity, has_arity}
use Rattle.language.specs.Scopes.{variables_in}
use Rattle.language.specs.Inside.{chosen_on, scope_in, relations_at, AreParts}
use Rattle.language.specs.declared.scopes.Scope.{Scope}

-- what a language asks of its scopes
pub record AreScopes (n : ℕ) (given : List Given) (scopes : List Scope) : Type 0 where
  pub few : length scopes ≤ 8192
  pub sized : All (λ (scope : Scope). (1 ≤ scope.size) × (scope.size ≤ 4)) scopes
  pub lawful : All (IsScope n) (map variables_in scopes)
  pub apart : AllPairs AreApart (map variables_in scopes)
  pub used : All (λ scope. IsTrue (has_arity given (length scope))) (map variables_in scopes)

-- the tables of an arity over d values: the intersections of the vocabulary's relations of this
-- arity, at most 64
pub record IsClosedOf (d arity : ℕ) (given : List Given) (tables : List TruthTable) : Type 0 where
  pub closing : IsClosing (relations_of_arity given arity)
      (map (λ (t : TruthTable). t.truth) tables)
  pub kinds : All (IsOfKind arity d) tables
  pub few : length tables ≤ 64

-- ranges of some of d values, for variables of d values
pub record AreRanges (d : ℕ) (ranges : List ValueRange) : Type 0 where
  pub some_value : 1 ≤ d
  pub few_values : d ≤ 64
  pub some : All (IsRange d) ranges

-- the vocabulary's relations of a scope's length on it
abbrev pub given_at : List ValueRange → ℕ → List Given → List ℕ → List Relation
given_at ranges d given scope =
    map (widened ranges d scope) (relations_of_arity given (length scope))

-- the numbered tables are those of the intersections of the vocabulary's relations on a scope
pub record AreChosen (ranges : List ValueRange) (d : ℕ) (given : List Given)
    (tables : List TruthTable) (scope : List ℕ) (chosen : List ℕ) : Type 0 where
  pub closing : IsClosing (given_at ranges d given scope) (chosen_on ranges d tables scope chosen)
  pub known : All (λ k. k < length tables) chosen
  pub few : length chosen ≤ 64

-- on each scope, the numbered tables are those of the intersections there
pub record AreAll (ranges : List ValueRange) (d : ℕ) (given : List Given)
    (tables : List (List TruthTable)) (scopes : List Scope) (on starts : List ℕ) : Type 0 where
  pub parts : AreParts tables scopes on starts
  pub closing : (s : ℕ) → s < length scopes →
      IsClosing (given_at ranges d given (variables_in (scope_in scopes s)))
      (relations_at ranges d tables scopes on starts s)
  pub few : (s : ℕ) → s < length scopes →
      length (relations_at ranges d tables scopes on starts s) ≤ 64
