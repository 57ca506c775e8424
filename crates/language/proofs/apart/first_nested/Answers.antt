use Rattle.language.proofs.Prelude.{◌∙◌, sym, are_nested}
use Rattle.language.proofs.Pairs.{pair_found, pair_later, no_pair}
use Rattle.language.proofs.apart.first_nested.Goals as goal

pub returns-in-Some-clause-is : goal.returns-in-Some-clause-is
returns-in-Some-clause-is c =
    pair_found are_nested c.args.sets.now c.index-sets-j.result c.in-Some.i c.loop-j.j c.loop-j-test.true c.index-sets-j.is c.loop-j.invariant (sym c.nested_before.ensures ∙ c.in-Some.is)

pub loop-j-preserved : goal.loop-j-preserved
loop-j-preserved c =
    pair_later are_nested c.args.sets.now c.index-sets-j.result c.loop-j.j c.loop-j-test.true c.index-sets-j.is c.loop-j.invariant (sym c.nested_before.ensures ∙ c.in_default.is)

pub returns-clause-is : goal.returns-clause-is
returns-clause-is c = no_pair are_nested c.args.sets.now c.loop-j.j c.loop-j-test.false c.loop-j.invariant
