use Rattle.cert_check.proofs.Prelude.{refl, sym, ◌∙◌}
use Rattle.cert_check.proofs.Verdicts.{flaw_of_told, none_where}
use Rattle.cert_check.proofs.checking.flaw_told.Goals as goal

pub returns-in-Some : goal.returns-in-Some
returns-in-Some c = λ t told. flaw_of_told c.args.lang.now c.args.net.now t c.args.items.now _ _ _ (sym c.in-Some.is ∙ c.first_without_no.ensures t told) refl refl

pub returns-in-Some-first_rival : goal.returns-in-Some-first_rival
returns-in-Some-first_rival c = λ t told.
    flaw_of_told c.args.lang.now c.args.net.now t c.args.items.now _ _ _ (sym (none_where _ c.in_default.not-Some) ∙ c.first_without_no.ensures t told) (sym c.in-Some-first_rival.is ∙ c.first_rival.ensures t told) refl

pub returns-in_err-number : goal.returns-in_err-number
returns-in_err-number c = λ t told.
    c.from_residual.ensures
    ∙ flaw_of_told c.args.lang.now c.args.net.now t c.args.items.now _ _ _ (sym (none_where _ c.in_default.not-Some) ∙ c.first_without_no.ensures t told)
    (sym (none_where _ c.in_default-first_rival.not-Some) ∙ c.first_rival.ensures t told) (sym c.in_err-number.was ∙ c.first_uncovered.ensures t told)

pub returns : goal.returns
returns c = λ t told.
    flaw_of_told c.args.lang.now c.args.net.now t c.args.items.now _ _ _ (sym (none_where _ c.in_default.not-Some) ∙ c.first_without_no.ensures t told)
    (sym (none_where _ c.in_default-first_rival.not-Some) ∙ c.first_rival.ensures t told) (sym c.in_ok-number.was ∙ c.first_uncovered.ensures t told)
