use Rattle.acq_cli.proofs.Prelude.{ends_as, refl, said_as, saying, usage_text}
use Rattle.acq_loop.specs.declared.ending.Ending.TheVariants as ending
use Rattle.acq_cli.proofs.top.refuse_words.Goals as goal

pub returns-clause-tells : goal.returns-clause-tells
returns-clause-tells g c =
    let what = saying usage_text (ending.Usage c.args.fault) in
    ends_as what c.or_silent.result _ _ c.put.result (said_as c.fixed.result c.or_silent.result what what c.or_silent.ensures.is refl c.fixed.ensures) c.put.ensures.writes
