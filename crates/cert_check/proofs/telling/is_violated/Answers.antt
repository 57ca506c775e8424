use Rattle.cert_check.proofs.Prelude.{sym, ◌∙◌, is_within}
use Rattle.cert_check.proofs.ByScope.{open_holds}
use Rattle.cert_check.proofs.telling.is_violated.Goals as goal

pub returns-else-within : goal.returns-else-within
returns-else-within c =
    c.if-within.false
    ∙ sym (open_holds c.args.lang.now c.requires.lawful c.args.c c.requires.candidate c.args.q.now ((λ i. is_within (sym c.requires.scope i) (sym c.requires.vars i)) ∙ sym c.within.ensures ∙ c.if-within.false))
