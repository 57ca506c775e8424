use Rattle.bias_store.proofs.Prelude.{arith}
use Rattle.bias_store.proofs.Within.{hits_none, hits_more, hits_some, hits_all}
use Rattle.bias_store.proofs.tables.Tables.list_violated.Goals as goal

pub loop-found-init : goal.loop-found-init
loop-found-init c = hits_none c.args.lang.now c.args.q.now c.args.left.now c.args.sets.now

pub overflow_add-from : goal.overflow_add-from
overflow_add-from c =
    let within = c.in-Some.ensures.found.within in
    let few = c.in-Some.ensures.found.lawful.few_scopes in
    omega (arith, within, few)

pub loop-found-preserved : goal.loop-found-preserved
loop-found-preserved c =
    let room = c.loop-found.invariant.room in
    hits_more c.args.lang.now c.args.q.now c.args.left.now c.loop-found.sets c.loop-found.count c.loop-found.from c.in-Some.found c.scope_set.result c.loop-found.invariant c.in-Some.ensures.found (omega arith) c.scope_set.ensures

pub returns-then-count-sets : goal.returns-then-count-sets
returns-then-count-sets c = hits_some c.args.lang.now c.args.q.now c.args.left.now c.loop-found.sets c.loop-found.count c.loop-found.from c.loop-found.invariant

pub returns : goal.returns
returns c = hits_all c.args.lang.now c.args.q.now c.args.left.now c.loop-found.sets c.loop-found.count c.loop-found.from c.loop-found.invariant c.in_default.ensures.none
