use Rattle.propagators.proofs.constraints.Constraints.condition.Goals as goal

pub returns-clause-candidate : goal.returns-clause-candidate
returns-clause-candidate c = c.requires.constraints.against c.in-Some.c c.in-Some.is
