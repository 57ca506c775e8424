use Rattle.cert_check.proofs.Prelude.{sym, ◌∙◌, below_more, arith, repeats_scope}
use Rattle.cert_check.proofs.Finding.{number_found, no_number}
use Rattle.cert_check.proofs.telling.first_repeated.Goals as goal

pub loop-i-preserved : goal.loop-i-preserved
loop-i-preserved c = below_more _ _ c.loop-i.invariant (sym c.has_scope.ensures ∙ c.if-has_scope.false)

pub returns-then-has_scope : goal.returns-then-has_scope
returns-then-has_scope c = sym (number_found (repeats_scope c.args.net.now) _ c.loop-i.i c.loop-i-test.true (sym c.has_scope.ensures ∙ c.if-has_scope.true) c.loop-i.invariant)

pub returns : goal.returns
returns c = sym (no_number (repeats_scope c.args.net.now) _ (λ k low. c.loop-i.invariant k (omega (arith, c.loop-i-test.false, low))))
