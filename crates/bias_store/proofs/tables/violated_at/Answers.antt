use Rattle.bias_store.proofs.Prelude.{◌∙◌, sym, violates, nothing_passes, ones_of, ones_of-zero}
use Rattle.bias_store.proofs.Picked.{bare}
use Rattle.bias_store.proofs.Bits.{without_accepting}
use Rattle.bias_store.proofs.tables.violated_at.Goals as goal

pub returns-in-None : goal.returns-in-None
returns-in-None c = λ q fits at.
    ones_of-zero ∙ sym (nothing_passes (λ r. violates c.args.lang.now (record { scope = c.args.s; rel = r }) q) (ones_of c.args.relations) (bare c.args.lang.now c.args.s q (sym c.in-None.is ∙ at)))

pub returns-in-Some : goal.returns-in-Some
returns-in-Some c = λ q fits at.
    without_accepting c.args.lang.now c.args.s q c.in-Some.place c.args.relations c.accepting_asked.result c.accepting_asked.type_inv (sym c.in-Some.is ∙ at) (c.accepting_asked.ensures q fits (sym c.in-Some.is ∙ at))
