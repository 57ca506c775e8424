use Rattle.language.proofs.Prelude.{◌≡◌, ◌≤◌, ◌-◌, length, arith, relations_on}
use Rattle.language.proofs.Fields.{count_here, few_here, lawful_here}
use Rattle.language.proofs.lang.Language.relations_on.Goals as goal
use Rattle.language.proofs.lang.Language.relations_on.Goals.{After-index-2}

count : (c : After-index-2) → c.index.result.now - c.index-2.result.now ≡ length (relations_on c.args.self.now c.args.s)
count c = count_here c.self.inside c.self.invariant c.args.self.now c.self.view_is c.args.s c.index-2.result.now c.index.result.now c.requires c.index-2.ensures c.index.ensures

few : (c : After-index-2) → length (relations_on c.args.self.now c.args.s) ≤ 64
few c = few_here c.args.self.now (lawful_here c.self.inside c.self.invariant c.args.self.now c.self.view_is) c.args.s c.requires

pub overflow_cast-result : goal.overflow_cast-result
overflow_cast-result c = let at = (goal.at.overflow_cast-result c).After-index-2 in omega (arith, count at, few at)

pub returns-clause-is : goal.returns-clause-is
returns-clause-is c = count (goal.at.returns-clause-is c).After-index-2

pub returns-clause-few : goal.returns-clause-few
returns-clause-few c = let at = (goal.at.returns-clause-few c).After-index-2 in omega (arith, count at, few at)
