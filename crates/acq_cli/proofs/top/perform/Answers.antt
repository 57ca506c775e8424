use Rattle.acq_cli.proofs.Prelude.{acquires_as, called_as, command_asked, map, string_bytes, terms_with}
use Rattle.acq_cli.proofs.Asked.{does_nothing, does_speak}
use Rattle.acq_cli.proofs.Causes.{ends_read, told_causes}
use Rattle.acq_cli.proofs.top.perform.Goals as goal

pub returns-in-Err-Memory-clause-does : goal.returns-in-Err-Memory-clause-does
returns-in-Err-Memory-clause-does g c =
    does_nothing g.D.Disk g.met.D.Disk.only_now (g.S.Source.left c.args.input.now) (g.K.Sink.written c.args.out.now) c.args.disk.now (command_asked (map string_bytes c.args.words.now))

pub returns-in-Run-clause-does : goal.returns-in-Run-clause-does
returns-in-Run-clause-does g c = rw (c.in-Ok.ensures.is, c.in-Run.is) c.run_journal.ensures.runs

pub returns-in-Try-clause-does : goal.returns-in-Try-clause-does
returns-in-Try-clause-does g c =
    rw (c.in-Ok.ensures.is, c.in-Try.is)
    (acquires_as (terms_with c.in-Try.plan c.in-Try.budget) (g.S.Source.left c.args.input.now) (g.K.Sink.written c.args.out.now) (g.S.Source.left c.try_input.new.input) (g.K.Sink.written c.try_input.new.out) c.try_input.result c.try_input.ensures.acquires c.try_input.ensures.part)

pub returns-in-Play-clause-does : goal.returns-in-Play-clause-does
returns-in-Play-clause-does g c = rw (c.in-Ok.ensures.is, c.in-Play.is) c.play_journal.ensures.plays

pub returns-in-Demo-clause-does : goal.returns-in-Demo-clause-does
returns-in-Demo-clause-does g c = rw (c.in-Ok.ensures.is, c.in-Demo.is) c.demo_number.ensures.demos

pub returns-in-New-clause-does : goal.returns-in-New-clause-does
returns-in-New-clause-does g c =
    rw c.in-Ok.ensures.is
    (does_speak g.D.Disk (g.S.Source.left c.args.input.now) (g.K.Sink.written c.args.out.now) (g.S.Source.left c.speak.new.input) (g.K.Sink.written c.put.new.out) c.args.disk.now c.speak.new.disk c.put.result c.in-Ok.command
    (c.speak.result, c.speak.ensures.spoke, c.put.ensures.writes))

pub returns-in-New-clause-spares : goal.returns-in-New-clause-spares
returns-in-New-clause-spares g c = rw c.in-Ok.ensures.is c.speak.ensures.spares

pub returns-in-New-clause-causes : goal.returns-in-New-clause-causes
returns-in-New-clause-causes g c =
    told_causes _ _ _ _ _ _ _ _ c.put.result
    (called_as _ _ _ _ _ _ (ends_read c.speak.result (g.K.Sink.written c.args.out.now) (g.K.Sink.written c.put.new.out) c.put.result c.put.ensures.writes) c.put.ensures.read c.speak.ensures.read)
    c.put.ensures.no_fault c.put.ensures.failed (λ is. c.speak.ensures.lost (c.put.ensures.lost is))
