use Rattle.cert_check.proofs.Prelude.{sym, ◌∙◌, ap, not, is_unearned}
use Rattle.cert_check.proofs.Finding.{fails_more, found_read, none_through}
use Rattle.cert_check.proofs.checking.first_unearned.Goals as goal

pub loop-i-preserved : goal.loop-i-preserved
loop-i-preserved c = fails_more (is_unearned c.args.lang.now c.args.net.now) c.args.items.now c.loop-i.i c.index-items-i.result c.loop-i-test.true c.index-items-i.is (ap not (sym c.is_earned.ensures ∙ c.if-not-is_earned.false)) c.loop-i.invariant

pub returns-then-not-is_earned : goal.returns-then-not-is_earned
returns-then-not-is_earned c = sym (found_read (is_unearned c.args.lang.now c.args.net.now) c.args.items.now c.loop-i.i c.index-items-i.result c.loop-i-test.true c.index-items-i.is (ap not (sym c.is_earned.ensures ∙ c.if-not-is_earned.true)) c.loop-i.invariant)

pub returns : goal.returns
returns c = sym (none_through (is_unearned c.args.lang.now c.args.net.now) c.args.items.now c.loop-i.i c.loop-i-test.false c.loop-i.invariant)
