use Rattle.acq_cli.proofs.Prelude.{ended, knowledge_of, terms_with}
use Rattle.acq_said.proofs.Sayings.{part_so, says_so}
use Rattle.acq_cli.proofs.top.say.Goals as goal

pub returns-in_default-clause-says : goal.returns-in_default-clause-says
returns-in_default-clause-says g c budget t stands ended tells =
    let k = knowledge_of c.args.session.now in
    says_so k.lang (terms_with k.plan budget) t c.closing.result (g.K.Sink.written c.args.out.now) (g.K.Sink.written c.put.new.out) c.args.drove c.put.result (c.closing.ensures budget t stands ended tells) c.put.ensures.writes

pub returns-in_default-clause-part : goal.returns-in_default-clause-part
returns-in_default-clause-part g c budget t stands ended tells =
    let k = knowledge_of c.args.session.now in
    part_so k.lang (terms_with k.plan budget) t c.closing.result (g.K.Sink.written c.args.out.now) (g.K.Sink.written c.put.new.out) c.args.drove c.put.result (c.closing.ensures budget t stands ended tells) c.put.ensures.writes
