use Rattle.session_store.proofs.Prelude.{◌∙◌, ap}
use Rattle.std.proofs.Common.{not}
use Rattle.assign.specs.Sets.{is_within}
use Rattle.session_store.proofs.Past.{past_by_sets}
use Rattle.session_store.proofs.replay.is_past.Goals as goal

pub returns : goal.returns
returns c =
    ap not (c.within.ensures ∙ (λ i. is_within (c.vars.ensures i) (c.all.ensures i)))
    ∙ past_by_sets c.args.question.now c.args.n c.requires
