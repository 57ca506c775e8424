use Rattle.cert_check.proofs.Prelude.{sym, ◌∙◌, is_other}
use Rattle.cert_check.proofs.Finding.{fails_more, found_read, none_through}
use Rattle.cert_check.proofs.telling.first_other.Goals as goal

pub loop-i-preserved : goal.loop-i-preserved
loop-i-preserved c = fails_more (is_other c.args.lang.now c.args.net.now) c.args.answers.now c.loop-i.i c.index-answers-i.result c.loop-i-test.true c.index-answers-i.is (sym c.is_other.ensures ∙ c.if-is_other.false) c.loop-i.invariant

pub returns-then-is_other : goal.returns-then-is_other
returns-then-is_other c = sym (found_read (is_other c.args.lang.now c.args.net.now) c.args.answers.now c.loop-i.i c.index-answers-i.result c.loop-i-test.true c.index-answers-i.is (sym c.is_other.ensures ∙ c.if-is_other.true) c.loop-i.invariant)

pub returns : goal.returns
returns c = sym (none_through (is_other c.args.lang.now c.args.net.now) c.args.answers.now c.loop-i.i c.loop-i-test.false c.loop-i.invariant)
