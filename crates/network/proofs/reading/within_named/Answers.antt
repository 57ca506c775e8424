use Rattle.network.proofs.Prelude.{texts_of}
use Rattle.language.proofs.Fields.{few_here}
use Rattle.network.proofs.Joined.{begun, one_more}
use Rattle.network.proofs.reading.within_named.Goals as goal

pub loop-name-init : goal.loop-name-init
loop-name-init c = begun c.args.lang.now c.args.s (texts_of c.args.names.now) (few_here c.args.lang.now c.requires.lawful c.args.s c.requires.scope)

pub loop-name-preserved : goal.loop-name-preserved
loop-name-preserved c = one_more c.args.lang.now c.args.s (texts_of c.args.names.now) c.args.names.now c.loop-name.name-index _ c.loop-name.relations c.in_ok-relations.field-0 c.loop-name-test.true c.in_ok-relations.ensures c.loop-name.invariant
