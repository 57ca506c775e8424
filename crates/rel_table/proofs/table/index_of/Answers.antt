use Rattle.rel_table.proofs.Prelude.{arith, ints}
use Rattle.rel_table.proofs.Shown.{shown_is}
use Rattle.rel_table.proofs.table.index_of.Goals as goal

pub overflow_sub-result : goal.overflow_sub-result
overflow_sub-result c = let x = shown_is c.args.lo c.args.d c.args.x c.requires.shown in omega (arith, ints)

pub overflow_cast-result : goal.overflow_cast-result
overflow_cast-result c = let x = shown_is c.args.lo c.args.d c.args.x c.requires.shown in omega (arith, ints)

pub returns-clause-is : goal.returns-clause-is
returns-clause-is c = let x = shown_is c.args.lo c.args.d c.args.x c.requires.shown in omega (arith, ints)

pub returns-clause-below : goal.returns-clause-below
returns-clause-below c = let x = shown_is c.args.lo c.args.d c.args.x c.requires.shown in omega (arith, ints)
