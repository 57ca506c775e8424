use Rattle.cert_check.proofs.Prelude.{◌≡◌, ◌<◌, ◌≤◌, ◌-◌, length, ◌∙◌, arith}
use Rattle.cert_check.proofs.Levels.{item_last}
use Rattle.cert_check.proofs.siblings.first_violated.Goals as goal

pub returns-in_default : goal.returns-in_default
returns-in_default c = c.item.ensures ∙ item_last c.args.levels.now c.args.values.now (length c.args.values.now) _ (omega arith) c.requires.deep
