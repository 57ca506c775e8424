use Rattle.language.proofs.Prelude.{◌∙◌, sym}
use Rattle.language.proofs.InOrder.{digits_on, shorter, none_left}
use Rattle.language.proofs.apart.number_in.Goals as goal

pub loop-rest-preserved : goal.loop-rest-preserved
loop-rest-preserved c =
    digits_on c.loop-rest.number c.in-Some.v c.from.result c.loop-rest.rest c.without-rest.result c.len.ensures.set (sym c.least.ensures.least ∙ c.in-Some.is) c.from.ensures c.without-rest.ensures
    ∙ c.loop-rest.invariant

pub loop-rest-smaller : goal.loop-rest-smaller
loop-rest-smaller c = shorter c.in-Some.v c.loop-rest.rest c.without-rest.result c.len.ensures.set (sym c.least.ensures.least ∙ c.in-Some.is) c.without-rest.ensures

pub returns : goal.returns
returns c = sym (none_left c.loop-rest.number c.loop-rest.rest (sym c.len.ensures.count ∙ c.loop-rest-test.false)) ∙ c.loop-rest.invariant
