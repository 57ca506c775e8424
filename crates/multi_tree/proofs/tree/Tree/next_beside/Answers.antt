use Rattle.multi_tree.proofs.Prelude.{Turns}
use Rattle.multi_tree.proofs.Moves.{move_stands}
use Rattle.multi_tree.proofs.tree.Tree.next_beside.Goals as goal

pub returns-clause-stands : goal.returns-clause-stands
returns-clause-stands c = λ e moves. move_stands c.args.lang.now e c.args.self.now c.turn.new.self moves (Turns c.args.net.now.list c.args.kept.now.members) c.turn.ensures.stage
