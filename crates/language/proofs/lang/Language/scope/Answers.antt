use Rattle.language.proofs.Prelude.{sym, subst, variable_count, IsScope}
use Rattle.language.proofs.Fields.{scope_here, room_here}
use Rattle.language.proofs.lang.Language.scope.Goals as goal

pub as_slice-requires : goal.as_slice-requires
as_slice-requires c = room_here c.self.inside c.self.invariant c.args.self.now c.self.view_is c.args.s c.index.result.now c.requires c.index.ensures

pub returns-clause-scope : goal.returns-clause-scope
returns-clause-scope c =
    subst (IsScope (variable_count c.args.self.now)) (sym c.as_slice.ensures.is)
    (scope_here c.self.inside c.self.invariant c.args.self.now c.self.view_is c.args.s c.index.result.now c.requires c.index.ensures)
