use Rattle.cert_check.proofs.Prelude.{refl, sym, ◌∙◌}
use Rattle.cert_check.proofs.ByScope.{unviolated_at, unviolated_bare}
use Rattle.cert_check.proofs.told.unviolated.Goals as goal

pub returns-in-None : goal.returns-in-None
returns-in-None c = unviolated_bare c.args.lang.now c.args.s c.args.q.now 18446744073709551615 (c.requires.lawful.few_relations c.args.s c.requires.scope) (sym c.in-None.is ∙ c.place_on.ensures.is) refl

pub returns-in-Some : goal.returns-in-Some
returns-in-Some c = unviolated_at c.args.lang.now c.args.s c.args.q.now c.accepting.result c.in-Some.place (sym c.in-Some.is ∙ c.place_on.ensures.is) c.accepting.ensures.is
