use Rattle.cert_check.proofs.Prelude.{◌≡◌, take, false, ◌==◌, list_any, Refutation}
use Rattle.cert_check.proofs.telling.has_refutation.Given as goal

abbrev pub invariant-loop-item : goal.invariant-loop-item
invariant-loop-item l = list_any (λ (r : Refutation). r.candidate == l.fn.number) (take l.item-index l.items) ≡ false
