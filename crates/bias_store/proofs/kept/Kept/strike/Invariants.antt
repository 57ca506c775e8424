use Rattle.bias_store.proofs.Prelude.{◌≡◌, ◌-◌, ◌≤◌, length, violates}
use Rattle.bias_store.proofs.Struck.{IsStruck}
use Rattle.bias_store.proofs.kept.Kept.strike.Given as goal

abbrev pub invariant-loop-found : goal.invariant-loop-found
invariant-loop-found l = record {
  struck : IsStruck (λ c. violates l.fn.lang c l.fn.q) l.initial.self-inside.relations l.self-inside.relations l.from l.count_before l.self-inside.count;
  within : l.from ≤ length l.lang.scopes;
  tables : l.self-inside.tables ≡ l.initial.self-inside.tables;
}

abbrev pub decreases-loop-found : goal.decreases-loop-found
decreases-loop-found l = length l.lang.scopes - l.from
