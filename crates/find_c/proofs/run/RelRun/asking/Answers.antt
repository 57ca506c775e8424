use Rattle.find_c.proofs.Prelude.{◌∙◌}
use Rattle.find_c.proofs.Starting.{free_marked}
use Rattle.find_c.proofs.run.RelRun.asking.Goals as goal

pub returns-clause-choices : goal.returns-clause-choices
returns-clause-choices c = c.new.ensures ∙ free_marked c.args.kept.now.members c.args.s c.on_scope-relations.result c.on_scope-relations.ensures
