use Rattle.std.proofs.Common.{rules, tests}
use Rattle.std.proofs.lemmas.Iterator.{YieldsList-from_slice}
use Rattle.std.proofs.lemmas.Iterator.Search.{position_from_yields_List}
use Rattle.language.specs.Building.{are_nested}
use Rattle.language.proofs.apart.nested_before.Goals as goal

pub returns : goal.returns
returns c =
    position_from_yields_List (λ earlier. are_nested earlier c.args.set) c.position.new.self _ c.position.result c.position.ensures.ran (YieldsList-from_slice c.args.sets.now cc) (λ x b q k. search (rules, tests))
