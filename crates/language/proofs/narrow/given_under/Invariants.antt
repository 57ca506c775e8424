use Rattle.language.proofs.Prelude.{◌≡◌, map, take, All, meet, TruthTable, given_by, truths, relations_of_arity}
use Rattle.language.proofs.narrow.given_under.Given as goal

abbrev pub invariant-loop-part : goal.invariant-loop-part
invariant-loop-part l = record {
  are : truths l.under.items ≡ map (λ r. meet r l.mask.truth) (relations_of_arity (map given_by (take l.part-index l.rels)) l.mask.arity);
  arity : All (λ (t : TruthTable). t.arity ≡ l.mask.arity) l.under.items;
  values : All (λ (t : TruthTable). t.value_count ≡ l.mask.value_count) l.under.items;
}
