use Rattle.bias_store.proofs.Prelude.{ℕ, ◌≡◌, ◌<◌, length, get_or, All, IsPairTableOn}
use Rattle.language.specs.Pairs.{IsPairTable}
use Rattle.bias_store.proofs.tables.tables_on.Given as goal

abbrev pub invariant-loop-r : goal.invariant-loop-r
invariant-loop-r l = record {
  long : length l.tables.items ≡ l.r;
  on : (k : ℕ) → k < l.r → IsPairTableOn l.lang l.s k (get_or l.tables.items k 0);
  known : All (IsPairTable l.lang) l.tables.items;
}
