use Rattle.propagators.proofs.Prelude.{◌∙◌, arith, slice_index_or, length-set}
use Rattle.propagators.proofs.OnScope.{on_next, read_set}
use Rattle.propagators.proofs.domains.Domains.on.Goals as goal

pub loop-j-preserved : goal.loop-j-preserved
loop-j-preserved c =
    let known = c.requires.known c.loop-j.j 0 (omega arith) in
    let four = c.loop-j.invariant.0 in
    let short = c.requires.short in (
      length-set c.loop-j.sets c.loop-j.j _ ∙ four,
      on_next c.args.self.now c.args.scope.now c.loop-j.sets c.loop-j.j _ (omega arith) (omega arith) c.loop-j.invariant.1
          (read_set c.self.inside.sets c.self.inside.size c.args.self.now (slice_index_or c.args.scope.now c.loop-j.j 0) c.self.view_is known),
    )
