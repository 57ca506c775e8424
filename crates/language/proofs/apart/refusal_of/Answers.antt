use Rattle.language.proofs.Prelude.{sym, ◌∙◌, rules}
use Rattle.language.proofs.Pairs.{none_repeated}
use Rattle.language.proofs.apart.refusal_of.Goals as goal

pub returns-in_err-unused : goal.returns-in_err-unused
returns-in_err-unused c = search (rules, none_repeated c.args.sets.now (sym c.first_nested.ensures.is ∙ c.in_default.is))

pub returns : goal.returns
returns c = search (rules, none_repeated c.args.sets.now (sym c.first_nested.ensures.is ∙ c.in_default.is))
