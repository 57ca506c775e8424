-- The language that the fields stand for.
use Rattle.std.specs.Prelude.{ℕ, ◌+◌, ◌-◌, ◌<◌, ◌≤◌, ◌≡◌, List, [], length, map, take, All}
use Rattle.std.specs.Prelude.{slice_index_or, String, string_bytes}
use Rattle.std.specs.declared.alloc.Global.{Global}
use Rattle.rel_table.specs.Relation.{Relation}
use Rattle.rel_table.specs.Table.{TruthTable}
use Rattle.rel_table.specs.Closing.{IsOfKind}
use Rattle.language.specs.Language.{Language, Given, IsLanguage}
use Rattle.language.specs.declared.parts.RelPart.{RelPart}
use Rattle.language.specs.declared.scopes.Scope.{Scope}
use Rattle.std.specs.List.{range_with_len, list_all}
use Rattle.assign.specs.Sets.{numbers}
use Rattle.language.specs.declared.ranges.ValueRange.{ValueRange}
use Rattle.language.specs.Ranges.{is_whole_range, widened}
use Rattle.language.specs.Scopes.{variables_in}
use Rattle.language.specs.Pairs.{ArePairTables}
use Rattle.language.specs.PairMasks.{ArePairMasks}
use Rattle.language.specs.declared.lang.Language.TheInside.{Inside}

-- a relation of the vocabulary, with its name
abbrev pub given_by : RelPart → Given
given_by part =
    record { name = string_bytes part.name; arity = part.table.arity; relation = part.table.truth }

-- the relations that tables hold
abbrev pub truths : List TruthTable → List Relation
truths tables = map (λ (t : TruthTable). t.truth) tables

-- the tables of a scope's arity
abbrev pub tables_for : List (List TruthTable) → Scope → List TruthTable
tables_for tables scope = slice_index_or tables (scope.size - 1) []

-- the relations of the numbered tables on a scope: each true outside the ranges
abbrev pub chosen_on : List ValueRange → ℕ → List TruthTable → List ℕ → List ℕ → List Relation
chosen_on ranges d tables scope chosen =
    map (λ k. widened ranges d scope (slice_index_or (truths tables) k [])) chosen

-- the numbers that stand from one place on and before another
abbrev pub between : List ℕ → ℕ → ℕ → List ℕ
between on first next = map (λ at. slice_index_or on at 0) (range_with_len first (next - first))

-- the scope of a number
abbrev pub scope_in : List Scope → ℕ → Scope
scope_in scopes s = slice_index_or scopes s (record { size = 0; variables = [] })

-- the relations on the scope of a number: those of the tables whose numbers stand from its first
-- candidate's on
abbrev pub relations_at : List ValueRange → ℕ → List (List TruthTable) → List Scope → List ℕ →
    List ℕ → ℕ → List Relation
relations_at ranges d tables scopes on starts s =
    chosen_on ranges d (tables_for tables (scope_in scopes s)) (variables_in (scope_in scopes s))
    (between on (slice_index_or starts s 0) (slice_index_or starts (s + 1) 0))

-- the ranges of the variables
abbrev pub ranges_in : Inside → List ValueRange
ranges_in a = take (length a.names.items) a.ranges

abbrev pub seen : Inside → Language
seen a = record {
  names = map (λ (s : String Global). string_bytes s) a.names.items;
  least_value = a.least_value;
  value_count = a.value_count;
  ranges = ranges_in a;
  given = map given_by a.given.items;
  scopes = map variables_in a.scopes.items;
  relations = map (relations_at (ranges_in a) a.value_count a.relations a.scopes.items a.on.items
      a.numbers.items) (numbers (length a.scopes.items));
}

-- the tables are of the arities 1, 2, 3 and 4, in this order
abbrev pub AreByArity : ℕ → List (List TruthTable) → Type 0
AreByArity d tables = (arity : ℕ) → 1 ≤ arity → arity ≤ 4 →
    All (IsOfKind arity d) (slice_index_or tables (arity - 1) [])

-- from one place on and before another numbers of tables stand
pub record IsPart (tables : List TruthTable) (on : List ℕ) (first next : ℕ) : Type 0 where
  pub rises : first ≤ next
  pub within : next ≤ length on
  pub known : (at : ℕ) → first ≤ at → at < next → slice_index_or on at 0 < length tables

-- there are numbers of tables for each scope, one scope after another
pub record AreParts (tables : List (List TruthTable)) (scopes : List Scope) (on starts : List ℕ) :
    Type 0 where
  pub long : length starts ≡ length scopes + 1
  pub first : slice_index_or starts 0 0 ≡ 0
  pub part : (s : ℕ) → s < length scopes → IsPart (tables_for tables (scope_in scopes s)) on
      (slice_index_or starts s 0) (slice_index_or starts (s + 1) 0)

-- the relations of two variables that tables hold
abbrev pub pairs_in : Inside → List Relation
pairs_in a = truths (slice_index_or a.relations 1 [])

pub record IsSound (a : Inside) : Type 0 where
  pub lawful : IsLanguage (seen a)
  pub sized : All (λ (scope : Scope). length (variables_in scope) ≡ scope.size) a.scopes.items
  pub kinds : AreByArity a.value_count a.relations
  pub is_whole : a.is_whole ≡ list_all (is_whole_range a.value_count) (ranges_in a)
  pub parts : AreParts a.relations a.scopes.items a.on.items a.numbers.items
  pub pairs : ArePairTables (seen a) (pairs_in a)
  pub masks : ArePairMasks a.value_count (pairs_in a) a.pairs
