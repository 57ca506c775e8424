use Rattle.language.proofs.Prelude.{[], arith, below_more, sym, ◌∙◌, has_names, texts_of}
use Rattle.language.proofs.Fields.{length-scopes}
use Rattle.language.proofs.ByNames.{position_here, position_nowhere}
use Rattle.language.proofs.lang.Language.scope_named.Goals as goal

pub returns-then-has_names-clause-is : goal.returns-then-has_names-clause-is
returns-then-has_names-clause-is c =
    sym (position_here (has_names c.args.self.now (texts_of c.args.names.now)) c.args.self.now.scopes c.loop-s.s [] (omega (arith, length-scopes c.self.inside c.args.self.now c.self.view_is))
    c.loop-s.invariant (sym c.has_names.ensures ∙ c.if-has_names.true))

pub loop-s-preserved : goal.loop-s-preserved
loop-s-preserved c = below_more _ _ c.loop-s.invariant (sym c.has_names.ensures ∙ c.if-has_names.false)

pub returns-clause-is : goal.returns-clause-is
returns-clause-is c =
    sym (position_nowhere (has_names c.args.self.now (texts_of c.args.names.now)) c.args.self.now.scopes c.loop-s.s []
    (omega (arith, c.loop-s-test.false, length-scopes c.self.inside c.args.self.now c.self.view_is)) c.loop-s.invariant)
