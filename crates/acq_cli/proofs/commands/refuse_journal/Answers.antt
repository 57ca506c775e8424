use Rattle.acq_loop.specs.declared.ending.Ending.TheVariants as ending
use Rattle.acq_cli.proofs.Causes.{never_ends}
use Rattle.acq_cli.proofs.commands.refuse_journal.Goals as goal

pub returns-clause-refuses : goal.returns-clause-refuses
returns-clause-refuses g c = (c.refused.result, c.refused.ensures.refuses, c.put.ensures.writes)

pub returns-clause-no_read : goal.returns-clause-no_read
returns-clause-no_read g c = never_ends c.put.result ending.ReadFault (λ is. c.refused.ensures.no_read (c.put.ensures.read is))

pub returns-clause-lost : goal.returns-clause-lost
returns-clause-lost g c is = c.refused.ensures.lost (c.put.ensures.lost is)
