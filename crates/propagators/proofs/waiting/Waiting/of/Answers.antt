use Rattle.propagators.proofs.Prelude.{◌∙◌, ◌||◌, [], subst, sym, has, IsSet, ◌∷◌}
use Rattle.assign.proofs.Masks.{rises_where}
use Rattle.propagators.proofs.Words.{moved_over, all_moved}
use Rattle.propagators.proofs.waiting.Waiting.of.Goals as goal

pub loop-v-preserved : goal.loop-v-preserved
loop-v-preserved c = record {
  goes = λ u few. moved_over c.args.set c.loop-v.found c.loop-v.rest c.with-found.result c.pop_first.new.self c.in-Some.v (sym c.in-Some.ensures.first) c.in-Some.ensures.rest c.with-found.ensures c.loop-v.invariant.goes u few;
  found = subst IsSet (sym c.with-found.ensures) (rises_where (λ u. has c.loop-v.found u || has (c.in-Some.v ∷ []) u));
}

pub returns : goal.returns
returns c = all_moved c.args.set c.loop-v.found c.loop-v.rest (sym c.pop_first.ensures.first ∙ c.in_default.is) c.loop-v.invariant.found c.len-many.ensures.set c.loop-v.invariant.goes
