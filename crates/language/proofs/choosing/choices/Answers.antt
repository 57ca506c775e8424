use Rattle.language.proofs.Prelude.{arith}
use Rattle.language.proofs.Pascal.{few_at, pascal}
use Rattle.language.proofs.choosing.choices.Goals as goal

pub overflow_add-fours : goal.overflow_add-fours
overflow_add-fours c = let is = c.loop.invariant in let few = few_at c.loop.counter c.args.n c.loop-test.true c.requires in omega (arith, few.triples, few.fours, is.triples, is.fours)

pub overflow_add-triples : goal.overflow_add-triples
overflow_add-triples c = let is = c.loop.invariant in let few = few_at c.loop.counter c.args.n c.loop-test.true c.requires in omega (arith, few.triples, few.pairs, is.triples, is.pairs)

pub overflow_add-pairs : goal.overflow_add-pairs
overflow_add-pairs c = let is = c.loop.invariant in let few = few_at c.loop.counter c.args.n c.loop-test.true c.requires in omega (arith, few.pairs, few.ones, is.pairs, is.ones)

pub overflow_add-ones : goal.overflow_add-ones
overflow_add-ones c = let is = c.loop.invariant in let few = few_at c.loop.counter c.args.n c.loop-test.true c.requires in omega (arith, few.ones, is.ones)

pub loop-preserved : goal.loop-preserved
loop-preserved c = let is = c.loop.invariant in record {
  ones = let next = pascal c.loop.counter 0 in let now = is.ones in omega (arith, next, now);
  pairs = let next = pascal c.loop.counter 1 in let more = is.ones in let now = is.pairs in omega (arith, next, more, now);
  triples = let next = pascal c.loop.counter 2 in let more = is.pairs in let now = is.triples in omega (arith, next, more, now);
  fours = let next = pascal c.loop.counter 3 in let more = is.triples in let now = is.fours in omega (arith, next, more, now);
}
