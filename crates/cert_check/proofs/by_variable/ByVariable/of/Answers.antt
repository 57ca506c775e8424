use Rattle.cert_check.proofs.Prelude.{items_on}
use Rattle.cert_check.proofs.Firsts.{rows_more}
use Rattle.cert_check.proofs.by_variable.ByVariable.of.Goals as goal

pub loop-v-preserved : goal.loop-v-preserved
loop-v-preserved c = rows_more (items_on c.args.lang.now c.args.net.now) c.loop-v.rows.items c.push.new.self.items c.in_ok-row.row c.loop-v.v c.in_ok-push.ensures.items c.in_ok-row.ensures c.loop-v.invariant
