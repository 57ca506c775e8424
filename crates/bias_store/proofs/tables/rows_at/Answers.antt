use Rattle.bias_store.proofs.Prelude.{◌∙◌, arith, length-set}
use Rattle.bias_store.proofs.RowMasks.{rows_more}
use Rattle.bias_store.proofs.tables.rows_at.Goals as goal

pub loop-r-preserved : goal.loop-r-preserved
loop-r-preserved c =
    let few = c.relations_on-r-end.ensures.few in
    let low = c.loop-r-test.true in
    let long = c.loop-r.invariant.0 in (
      length-set c.loop-r.rows c.from.result c.row_on.result ∙ long,
      rows_more c.args.lang.now c.args.s c.args.place c.loop-r.r c.from.result c.row_on.result c.loop-r.rows (omega arith) c.from.ensures c.row_on.ensures c.loop-r.invariant.1,
    )

pub returns-clause-rows : goal.returns-clause-rows
returns-clause-rows c = λ r y low below.
    let all = c.relations_on-r-end.ensures.is in
    let end = c.loop-r-test.false in
    c.loop-r.invariant.1 r y (omega arith) below

pub returns-clause-long : goal.returns-clause-long
returns-clause-long c = c.loop-r.invariant.0
