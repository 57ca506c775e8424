use Rattle.voc_read.proofs.Prelude.{◌≡◌, ◌++◌, Ok, drop, length, items_view, then_on, scopes_from, texts_of}
use Rattle.voc_read.proofs.ScopeSteps.{variables}
use Rattle.voc_read.proofs.scopes.scopes_in.Given as goal

abbrev pub invariant-loop-i : goal.invariant-loop-i
invariant-loop-i l = record {
  each : length l.scopes.items ≡ l.i;
  rest : then_on (scopes_from l.i (texts_of l.names.keys) (items_view (drop l.i l.list))) (λ more. Ok (variables l.scopes.items ++ more)) ≡ scopes_from 0 (texts_of l.names.keys) (items_view l.list);
}
