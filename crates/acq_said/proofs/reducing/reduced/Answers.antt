use Rattle.acq_said.proofs.Moved.{of_keeper}
use Rattle.acq_said.proofs.Reduced.{part_said, spent_said}
use Rattle.acq_said.proofs.reducing.reduced.Goals as goal

pub returns-in-Ok-reduce : goal.returns-in-Ok-reduce
returns-in-Ok-reduce g c =
    let reduced = c.in-Ok-reduce.ensures in
    part_said c.args.budget (of_keeper g.P.Keep c.args.keep.now) _ _ c.learned_by.ensures c.said_part.result c.in-Ok-reduce.part.items c.deref.result.now c.len.result c.deref.ensures.value c.len.ensures.is
    reduced.searched reduced.sifted reduced.reduction c.said_part.ensures

pub returns-in-Err-Spent : goal.returns-in-Err-Spent
returns-in-Err-Spent g c =
    let spent = rw c.in-Err-Spent.field-0-is at c.in-Err-Spent.ensures.spent in
    spent_said c.args.budget (of_keeper g.P.Keep c.args.keep.now) _ _ c.learned_by.ensures c.said_spent.result c.in-Err-Spent.number spent (rw c.in-Err-Spent.field-0-is at c.said_spent.ensures)
