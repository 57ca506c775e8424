use Rattle.voc_read.proofs.Prelude.{◌≡◌, None, rules, sym, ◌∙◌, numbers_of, texts_of}
use Rattle.voc_read.proofs.NumberSteps.{unknown, one_more, none_of_err, some_of_ok}
use Rattle.voc_read.proofs.scopes.numbers_of.Goals as goal

pub returns-in_err-number : goal.returns-in_err-number
returns-in_err-number c =
    let missed = sym c.number_of.ensures ∙ none_of_err c.number_of.result _ _ (sym c.ok_or.ensures.value ∙ c.in_err-number.was) in
    let none : numbers_of (texts_of c.args.names.now.keys) (texts_of c.args.listed.now) ≡ None = unknown _ _ _ _ _ _ c.loop-name-test.true missed c.loop-name.invariant in
    rw none (search rules)

pub loop-name-preserved : goal.loop-name-preserved
loop-name-preserved c =
    let found = sym c.number_of.ensures ∙ some_of_ok c.number_of.result _ _ (sym c.ok_or.ensures.value ∙ c.in_ok-number.was) in
    rw c.in_ok-push.ensures.ok (one_more _ _ _ _ _ _ _ c.loop-name-test.true found c.loop-name.invariant)
