use Rattle.bias_store.proofs.Prelude.{◌∷◌, ◌∙◌, ap, sym, ones_of}
use Rattle.bias_store.proofs.masks.split_first.Goals as goal
use Rattle.assign.proofs.Ones.{ones_of-first_and_others}

pub returns : goal.returns
returns c =
    let least = c.take_least.ensures in
    ones_of-first_and_others c.args.relations _ least.within least.one least.before ∙ ap (λ m. c.take_least.result.0 ∷ ones_of m) (sym least.without)
