use Rattle.query_gen.proofs.Prelude.{length, arith, number_of}
use Rattle.query_gen.proofs.Numbers.{first_on, one_more, all_numbers}
use Rattle.query_gen.proofs.screen.first_numbers.Goals as goal

pub loop-scope-preserved : goal.loop-scope-preserved
loop-scope-preserved c =
    one_more (λ scope. number_of c.args.lang.now (first_on scope)) (length c.args.lang.now.scopes) c.loop-scope.scope c.number_of.result c.loop-scope.first.items c.push.new.self.items
    (let all = c.scopes-scope-end.ensures.is in omega arith) c.number_of.ensures.is c.in_ok-push.ensures.items c.loop-scope.invariant

pub returns : goal.returns
returns c = all_numbers (λ scope. number_of c.args.lang.now (first_on scope)) (length c.args.lang.now.scopes) c.loop-scope.scope c.loop-scope.first.items (let all = c.scopes-scope-end.ensures.is in omega arith) c.loop-scope.invariant
