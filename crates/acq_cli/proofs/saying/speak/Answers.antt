use Rattle.acq_cli.proofs.saying.speak.Goals as goal

pub returns-in-Show-clause-spoke : goal.returns-in-Show-clause-spoke
returns-in-Show-clause-spoke g c = rw c.in-Show.is c.say_over.ensures.says

pub returns-in-Reduce-clause-spoke : goal.returns-in-Reduce-clause-spoke
returns-in-Reduce-clause-spoke g c = rw c.in-Reduce.is c.say_over-in-Reduce.ensures.says

pub returns-in-Cnf-clause-spoke : goal.returns-in-Cnf-clause-spoke
returns-in-Cnf-clause-spoke g c = rw c.in-Cnf.is c.say_over-in-Cnf.ensures.says

pub returns-in-Model-clause-spoke : goal.returns-in-Model-clause-spoke
returns-in-Model-clause-spoke g c = rw c.in-Model.is c.solve_journal.ensures.says

pub returns-in-Certify-clause-spoke : goal.returns-in-Certify-clause-spoke
returns-in-Certify-clause-spoke g c = rw c.in-Certify.is c.say_over-in-Certify.ensures.says

pub returns-in-Check-clause-spoke : goal.returns-in-Check-clause-spoke
returns-in-Check-clause-spoke g c = rw c.in-Check.is c.check_input.ensures.confirms

pub returns-in-New-clause-spoke : goal.returns-in-New-clause-spoke
returns-in-New-clause-spoke g c = rw c.in-New.is c.new_journal.ensures.news

pub returns-in-Back-clause-spoke : goal.returns-in-Back-clause-spoke
returns-in-Back-clause-spoke g c = rw c.in-Back.is c.back_journal.ensures.backs
