use Rattle.query_gen.proofs.Among.{picked_are_in_order}
use Rattle.query_gen.proofs.laws.picked_are_in_order.Goals as goal

pub returns : goal.returns
returns c = picked_are_in_order
