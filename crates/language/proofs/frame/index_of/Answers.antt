use Rattle.language.proofs.Prelude.{arith, ints}
use Rattle.language.proofs.Domains.{domain_is}
use Rattle.language.proofs.frame.index_of.Goals as goal

pub overflow_sub-result : goal.overflow_sub-result
overflow_sub-result c = let domain = domain_is c.args.lo c.args.shown c.requires in omega (arith, ints)

pub overflow_cast-result : goal.overflow_cast-result
overflow_cast-result c = let domain = domain_is c.args.lo c.args.shown c.requires in omega (arith, ints)

pub returns-clause-is : goal.returns-clause-is
returns-clause-is c = let domain = domain_is c.args.lo c.args.shown c.requires in omega (arith, ints)

pub returns-clause-shown : goal.returns-clause-shown
returns-clause-shown c = let domain = domain_is c.args.lo c.args.shown c.requires in omega (arith, ints)
