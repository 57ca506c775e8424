use Rattle.language.proofs.Prelude.{◌≡◌, map, take, All, meet, TruthTable, truths}
use Rattle.language.proofs.narrow.tables_under.Given as goal

abbrev pub invariant-loop-table : goal.invariant-loop-table
invariant-loop-table l = record {
  are : truths l.under.items ≡ map (λ r. meet r l.mask.truth) (truths (take l.table-index l.tables));
  arity : All (λ (t : TruthTable). t.arity ≡ l.mask.arity) l.under.items;
  values : All (λ (t : TruthTable). t.value_count ≡ l.mask.value_count) l.under.items;
}
