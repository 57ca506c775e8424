use Rattle.propagators.proofs.constraints.Constraints.satisfies_against.Goals as goal

pub place_on-requires-clause-scope : goal.place_on-requires-clause-scope
place_on-requires-clause-scope c = (c.requires.constraints.against c.in-Some.c c.in-Some.is).scope

pub holds-requires-clause-scope : goal.holds-requires-clause-scope
holds-requires-clause-scope c = (c.requires.constraints.against c.in-Some.c c.in-Some.is).scope
