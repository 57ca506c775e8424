use Rattle.propagators.proofs.Prelude.{◌<◌, ◌∙◌, length, slice_index_or, ap, sym, arith, Arc, conditions, IsApart}
use Rattle.propagators.proofs.Parting.{noted_next}
use Rattle.propagators.proofs.arranging.note_rest.Goals as goal

pub loop-i-preserved : goal.loop-i-preserved
loop-i-preserved c = record {
  long = (let same = c.note.auto.sets in let long = c.loop-i.invariant.long in omega arith);
  noted = λ k v a b. noted_next (conditions c.args.cons.now) c.loop-i.i c.scope.result.now c.loop-i.sets c.note.new.sets
      (λ j. (j < length c.args.briefs.now) × IsApart (slice_index_or c.args.briefs.now j b)) (λ j. (j < length c.args.briefs.now) × IsApart (slice_index_or c.args.briefs.now j b))
      (λ a. ap (λ (b : Arc). b.scope) (c.condition-holding.ensures.is a) ∙ sym c.scope.ensures.is) c.note.ensures.grows c.note.ensures.there (λ j low h. h)
      (λ j v a. c.loop-i.invariant.noted j v a b) k v a;
}
