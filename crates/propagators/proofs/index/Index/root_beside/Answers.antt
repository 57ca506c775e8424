use Rattle.propagators.proofs.index.Index.root_beside.Goals as goal

pub returns-then-narrow-clause-left : goal.returns-then-narrow-clause-left
returns-then-narrow-clause-left c = c.narrow.ensures.alive c.if-narrow.true

pub returns-else-narrow-clause-nothing : goal.returns-else-narrow-clause-nothing
returns-else-narrow-clause-nothing c = λ _. c.narrow.ensures.dead c.if-narrow.false
