-- Tables closed under intersection, arity by arity.
use Rattle.std.specs.Prelude.{◌≡◌, ◌≢◌, ℕ, ◌^◌, ◌<◌, ◌≤◌, List, length, map, nat_eq, All, AllPairs}
use Rattle.std.specs.List.{filter}
use Rattle.rel_table.specs.Relation.{Relation, IsIntersection, IsClosing}
use Rattle.rel_table.specs.Table.{TruthTable}
use Rattle.rel_table.specs.declared.table.CloseFault.{CloseFault}
use Rattle.rel_table.specs.declared.table.CloseFault.TheVariants.{TooMany, Memory}

-- the relations of tables
abbrev pub relations_in : List TruthTable → List Relation
relations_in tables = map (λ (t : TruthTable). t.truth) tables

-- the relations of those tables that have this arity
abbrev pub relations_of : ℕ → List TruthTable → List Relation
relations_of arity tables = relations_in (filter (λ (t : TruthTable). nat_eq t.arity arity) tables)

-- a table of this arity over so many values
pub record IsOfKind (arity d : ℕ) (table : TruthTable) : Type 0 where
  pub long : table.arity ≡ arity
  pub values : table.value_count ≡ d
  pub size : length table.truth ≡ d ^ arity

-- the tables of this arity that stand for all intersections of the file's ones, at most 64
pub record IsClosed (arity d : ℕ) (file closed : List TruthTable) : Type 0 where
  pub closing : IsClosing (relations_of arity file) (relations_in closed)
  pub kinds : All (IsOfKind arity d) closed
  pub few : length closed ≤ 64

-- relations with more than 64 intersections
pub record HasTooMany (file : List Relation) : Type 0 where
  pub some : List Relation
  pub many : 64 < length some
  pub each : All (IsIntersection file) some
  pub apart : AllPairs (λ r q. r ≢ q) some

-- relations with 64 intersections at most
pub record HasFew (file : List Relation) : Type 0 where
  pub all : List Relation
  pub closing : IsClosing file all
  pub few : length all ≤ 64

-- the least arity of which there are too many intersections
pub record IsFirstTooMany (file : List TruthTable) (arity : ℕ) : Type 0 where
  pub some : 1 ≤ arity
  pub short : arity ≤ 4
  pub many : HasTooMany (relations_of arity file)
  pub before : (less : ℕ) → 1 ≤ less → less < arity → HasFew (relations_of less file)

-- why tables aren't closed
abbrev pub IsRefused : List TruthTable → CloseFault → Type 0
IsRefused file (TooMany arity) = IsFirstTooMany file arity
IsRefused file Memory = Unit {0}
