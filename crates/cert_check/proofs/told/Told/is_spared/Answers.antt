use Rattle.cert_check.proofs.Prelude.{rules, ◌≡◌, Some, None, ◌∙◌, ap, ◌==◌, slice_index_or, shr_and_one}
use Rattle.cert_check.proofs.ByScope.{mask_tells, none_tells}
use Rattle.cert_check.proofs.told.Told.is_spared.Goals as goal

pub returns-then-c-lt64 : goal.returns-then-c-lt64
returns-then-c-lt64 c = λ l t told is.
    let there : slice_index_or c.args.self.now.spared.items c.args.c.scope None ≡ Some c.in-Some-Some.relations = search rules in
    ap (λ x. x == 1) (shr_and_one c.in-Some-Some.relations c.args.c.rel) ∙ mask_tells l t c.args.self.now.spared.items c.args.c told.spared is c.in-Some-Some.relations there

pub returns-in-Some-None : goal.returns-in-Some-None
returns-in-Some-None c = λ l t told is.
    let there : slice_index_or c.args.self.now.spared.items c.args.c.scope None ≡ None = search rules in
    none_tells l t c.args.self.now.spared.items c.args.c told.spared is there
