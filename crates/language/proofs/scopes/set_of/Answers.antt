use Rattle.language.proofs.Prelude.{◌∙◌, ap, with_member, slice_index_or}
use Rattle.language.proofs.Stated.{known_at, set_next}
use Rattle.language.proofs.scopes.set_of.Goals as goal

pub with-set-requires : goal.with-set-requires
with-set-requires c = known_at c.args.variables.now c.loop-v.v-index c.requires c.loop-v-test.true

pub loop-v-preserved : goal.loop-v-preserved
loop-v-preserved c =
    c.with-set.ensures ∙ ap (λ set. with_member set (slice_index_or c.args.variables.now c.loop-v.v-index 0)) c.loop-v.invariant
    ∙ set_next c.args.variables.now c.loop-v.v-index c.requires c.loop-v-test.true
