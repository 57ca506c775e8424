use Rattle.language.proofs.Prelude.{refl, sym, ◌∙◌, arith, scope_at}
use Rattle.language.proofs.Fields.{length-scopes, found_scope, no_scope}
use Rattle.language.proofs.Pairs.{same_is}
use Rattle.language.proofs.lang.Language.scope_of.Goals as goal

pub returns-then-has_variables-clause-is : goal.returns-then-has_variables-clause-is
returns-then-has_variables-clause-is c =
    (found_scope c.args.self.now c.args.w (scope_at c.args.self.now c.loop-s.s) c.loop-s.s c.has_variables.result (c.has_variables.ensures ∙ sym (same_is c.args.w (scope_at c.args.self.now c.loop-s.s)))
    c.if-has_variables.true refl (omega (arith, length-scopes c.self.inside c.args.self.now c.self.view_is)) c.loop-s.invariant).0

pub returns-then-has_variables-clause-scope : goal.returns-then-has_variables-clause-scope
returns-then-has_variables-clause-scope c =
    (found_scope c.args.self.now c.args.w (scope_at c.args.self.now c.loop-s.s) c.loop-s.s c.has_variables.result (c.has_variables.ensures ∙ sym (same_is c.args.w (scope_at c.args.self.now c.loop-s.s)))
    c.if-has_variables.true refl (omega (arith, length-scopes c.self.inside c.args.self.now c.self.view_is)) c.loop-s.invariant).1

pub returns-clause-is : goal.returns-clause-is
returns-clause-is c =
    no_scope c.args.self.now c.args.w c.loop-s.s (omega (arith, c.loop-s-test.false, length-scopes c.self.inside c.args.self.now c.self.view_is)) c.loop-s.invariant
