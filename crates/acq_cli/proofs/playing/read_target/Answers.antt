use Rattle.acq_cli.proofs.Prelude.{◌≡◌, ◌∙◌, Ok, Err, ap, sym, refl, rules, network_of}
use Rattle.acq_io.specs.declared.whole.AllFault.TheVariants as all
use Rattle.acq_cli.proofs.playing.read_target.Goals as goal

pub returns-in-Err-TooLong-clause-lacks : goal.returns-in-Err-TooLong-clause-lacks
returns-in-Err-TooLong-clause-lacks g c = (Err all.TooLong, (search rules, c.untargeted.ensures.says))

pub returns-in-Err-Fault-clause-lacks : goal.returns-in-Err-Fault-clause-lacks
returns-in-Err-Fault-clause-lacks g c = (Err all.Fault, refl)

pub returns-in-Err-Memory-clause-lacks : goal.returns-in-Err-Memory-clause-lacks
returns-in-Err-Memory-clause-lacks g c = (Err all.Memory, refl)

pub returns-in-Err-Memory-read_network-clause-lacks : goal.returns-in-Err-Memory-read_network-clause-lacks
returns-in-Err-Memory-read_network-clause-lacks g c = (Err all.Memory, refl)

pub returns-clause-lacks : goal.returns-clause-lacks
returns-clause-lacks g c =
    let refused : network_of c.args.lang.now c.deref.result.now ≡ Err c.in-Err.fault = search rules in
    (Ok c.in-Ok.bytes.items, (c.in-Ok.ensures.all, (c.in-Err.fault, ap (network_of c.args.lang.now) (sym c.deref.ensures.value) ∙ refused, c.untargeted-in-Err.ensures.says)))
