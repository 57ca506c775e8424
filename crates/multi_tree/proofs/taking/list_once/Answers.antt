use Rattle.multi_tree.proofs.Prelude.{arith}
use Rattle.multi_tree.proofs.Barren.{barren_nowhere}
use Rattle.multi_tree.proofs.taking.list_once.Goals as goal

pub returns-clause-struck : goal.returns-clause-struck
returns-clause-struck c = record { some = c.list_struck-count.ensures.some; all = c.list_struck-count.ensures.all }

pub returns-clause-barren : goal.returns-clause-barren
returns-clause-barren c = λ waiting few at. barren_nowhere _ 1024 waiting (omega arith)
