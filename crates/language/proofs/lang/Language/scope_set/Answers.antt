use Rattle.language.proofs.Prelude.{sym, subst, IsSet, variable_count}
use Rattle.language.proofs.Fields.{lawful_here, room_here, scope_here, scope_is_set}
use Rattle.language.proofs.lang.Language.scope_set.Goals as goal

pub as_slice-requires : goal.as_slice-requires
as_slice-requires c = room_here c.self.inside c.self.invariant c.args.self.now c.self.view_is c.args.s c.index.result.now c.requires c.index.ensures

pub set_of-requires : goal.set_of-requires
set_of-requires c =
    let lawful = lawful_here c.self.inside c.self.invariant c.args.self.now c.self.view_is in
    subst IsSet (sym c.as_slice.ensures.is)
    (scope_is_set (variable_count c.args.self.now) _ lawful.few_variables
    (scope_here c.self.inside c.self.invariant c.args.self.now c.self.view_is c.args.s c.index.result.now c.requires c.index.ensures))
