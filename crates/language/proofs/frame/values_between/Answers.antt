use Rattle.language.proofs.Prelude.{arith, ints}
use Rattle.language.proofs.Domains.{domain_is}
use Rattle.language.proofs.frame.values_between.Goals as goal

pub overflow_sub-result : goal.overflow_sub-result
overflow_sub-result c = let domain = domain_is c.args.lo c.args.hi c.requires in omega (arith, ints)

pub overflow_cast-result : goal.overflow_cast-result
overflow_cast-result c = let domain = domain_is c.args.lo c.args.hi c.requires in omega (arith, ints)

pub overflow_add-result : goal.overflow_add-result
overflow_add-result c = let domain = domain_is c.args.lo c.args.hi c.requires in omega (arith, ints)

pub returns-clause-is : goal.returns-clause-is
returns-clause-is c = let domain = domain_is c.args.lo c.args.hi c.requires in omega (arith, ints)

pub returns-clause-few : goal.returns-clause-few
returns-clause-few c = let domain = domain_is c.args.lo c.args.hi c.requires in omega (arith, ints)

pub returns-clause-low : goal.returns-clause-low
returns-clause-low c = (domain_is c.args.lo c.args.hi c.requires).low

pub returns-clause-high : goal.returns-clause-high
returns-clause-high c = let domain = domain_is c.args.lo c.args.hi c.requires in omega (arith, ints)
