use Rattle.cert_check.proofs.Prelude.{sym, ◌∙◌, ap, not, get_or, Candidate, has_own_no}
use Rattle.cert_check.proofs.Finding.{within, fails_more, found_read, none_through}
use Rattle.cert_check.proofs.telling.first_without_no.Goals as goal

pub loop-i-preserved : goal.loop-i-preserved
loop-i-preserved c = λ t told.
    let d : Candidate = get_or c.args.net.now c.loop-i.i (record { scope = 0; rel = 0 }) in
    fails_more (λ e. not (has_own_no c.args.lang.now t e)) c.args.net.now c.loop-i.i d c.loop-i-test.true
    (within c.args.net.now c.loop-i.i (record { scope = 0; rel = 0 }) d c.loop-i-test.true)
    (ap not (sym (c.has_own_no.ensures c.args.lang.now t told (c.requires.network c.loop-i.i (record { scope = 0; rel = 0 }) c.loop-i-test.true)) ∙ c.if-not-has_own_no.false)) (c.loop-i.invariant t told)

pub returns-then-not-has_own_no : goal.returns-then-not-has_own_no
returns-then-not-has_own_no c = λ t told.
    let d : Candidate = get_or c.args.net.now c.loop-i.i (record { scope = 0; rel = 0 }) in
    sym (found_read (λ e. not (has_own_no c.args.lang.now t e)) c.args.net.now c.loop-i.i d c.loop-i-test.true
    (within c.args.net.now c.loop-i.i (record { scope = 0; rel = 0 }) d c.loop-i-test.true)
    (ap not (sym (c.has_own_no.ensures c.args.lang.now t told (c.requires.network c.loop-i.i (record { scope = 0; rel = 0 }) c.loop-i-test.true)) ∙ c.if-not-has_own_no.true)) (c.loop-i.invariant t told))

pub returns : goal.returns
returns c = λ t told. sym (none_through (λ e. not (has_own_no c.args.lang.now t e)) c.args.net.now c.loop-i.i c.loop-i-test.false (c.loop-i.invariant t told))
