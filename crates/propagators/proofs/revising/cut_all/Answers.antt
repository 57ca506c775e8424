use Rattle.propagators.proofs.Prelude.{◌<◌, ◌+◌, ◌∙◌, sym, subst, arith, length}
use Rattle.propagators.proofs.Cutting.{IsCutting, cut_changed, cut_same}
use Rattle.propagators.proofs.revising.cut_all.Goals.{then-cut, else-cut}
use Rattle.propagators.proofs.revising.cut_all.Goals as goal

pub loop-j-preserved : goal.loop-j-preserved
loop-j-preserved c =
    let low : c.loop-j.j < length c.args.scope.now = omega arith in
    let room : c.loop-j.j < length c.args.found.now = (let four = c.told-found in let short = c.requires.short in omega arith) in
    elim c.if-cut.branch [
      | then-cut w ↦ subst (IsCutting c.args.scope.now c.args.found.now c.args.doms.now (c.loop-j.j + 1) c.cut.new.self) (sym (w.changed-is ∙ w.with-changed.ensures))
          (cut_changed c.args.scope.now c.args.found.now c.args.doms.now c.loop-j.j c.loop-j.doms c.loop-j.changed c.requires.different low room c.loop-j.invariant c.cut.new.self c.cut.ensures.is (c.cut.ensures.less w.if-cut.true))
      | else-cut w ↦ subst (IsCutting c.args.scope.now c.args.found.now c.args.doms.now (c.loop-j.j + 1) c.cut.new.self) (sym w.changed-is)
          (cut_same c.args.scope.now c.args.found.now c.args.doms.now c.loop-j.j c.loop-j.doms c.loop-j.changed c.requires.different low room c.loop-j.invariant c.cut.new.self c.cut.ensures.is (c.cut.ensures.same w.if-cut.false))
    ]
