use Rattle.acq_loop.proofs.next.idle_next.Goals as goal

pub returns-in-Scopes-clause-next : goal.returns-in-Scopes-clause-next
returns-in-Scopes-clause-next g c t stands = c.scoped_next.ensures.next t c.args.budget stands
