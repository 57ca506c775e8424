use Rattle.language.proofs.Prelude.{arith}
use Rattle.language.proofs.Fields.{lawful_here, length-scopes}
use Rattle.language.proofs.lang.Language.scopes.Goals as goal

pub overflow_cast-result : goal.overflow_cast-result
overflow_cast-result c =
    let few = (lawful_here c.self.inside c.self.invariant c.args.self.now c.self.view_is).few_scopes in
    omega (arith, few, length-scopes c.self.inside c.args.self.now c.self.view_is)

pub returns-clause-is : goal.returns-clause-is
returns-clause-is c = omega (arith, length-scopes c.self.inside c.args.self.now c.self.view_is)

pub returns-clause-lawful : goal.returns-clause-lawful
returns-clause-lawful c = lawful_here c.self.inside c.self.invariant c.args.self.now c.self.view_is
