use Rattle.language.proofs.Prelude.{arith}
use Rattle.language.proofs.Fields.{numbers_at}
use Rattle.language.proofs.lang.Language.number_of.Goals as goal

pub index-requires : goal.index-requires
index-requires c = let at = numbers_at c.self.inside c.self.invariant c.args.self.now c.self.view_is c.args.c.scope c.requires.scope in omega arith

pub overflow_add-result : goal.overflow_add-result
overflow_add-result c =
    let at = numbers_at c.self.inside c.self.invariant c.args.self.now c.self.view_is c.args.c.scope c.requires.scope in
    let first = at.first c.index.result.now c.index.ensures in omega arith

pub returns-clause-is : goal.returns-clause-is
returns-clause-is c =
    let at = numbers_at c.self.inside c.self.invariant c.args.self.now c.self.view_is c.args.c.scope c.requires.scope in
    let first = at.first c.index.result.now c.index.ensures in omega arith

pub returns-clause-below : goal.returns-clause-below
returns-clause-below c =
    let at = numbers_at c.self.inside c.self.invariant c.args.self.now c.self.view_is c.args.c.scope c.requires.scope in
    let first = at.first c.index.result.now c.index.ensures in omega arith
