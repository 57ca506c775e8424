-- What a table is seen as: a relation with its arity and how many values there are.
use Rattle.std.specs.Prelude.{◌≡◌, ℕ, ◌^◌, ◌≤◌, length, Bool, false, slice_index_or}
use Rattle.rel_table.specs.Relation.{Relation}

pub record TruthTable : Type 0 where
  pub arity : ℕ
  pub value_count : ℕ
  pub truth : Relation

-- the truth value at a place
abbrev pub truth_at : TruthTable → ℕ → Bool
truth_at table at = slice_index_or table.truth at false

-- there is a truth value for each of the value_count^arity tuples, and there are at most 65,536
pub record IsTable (table : TruthTable) : Type 0 where
  pub some : 1 ≤ table.arity
  pub few : table.arity ≤ 4
  pub values : 1 ≤ table.value_count
  pub small : table.value_count ≤ 64
  pub each : length table.truth ≡ table.value_count ^ table.arity
  pub fits : length table.truth ≤ 65536
