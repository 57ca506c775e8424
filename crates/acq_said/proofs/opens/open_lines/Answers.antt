use Rattle.acq_said.proofs.Prelude.{◌∙◌, ◌++◌, ap, sym, candidates_on}
use Rattle.acq_said.proofs.OpenLines.{lines_of, one_scope}
use Rattle.acq_said.proofs.opens.open_lines.Goals as goal

pub loop-s-preserved : goal.loop-s-preserved
loop-s-preserved c =
    c.in_ok-push_open_on.ensures ∙ ap (λ x. x ++ lines_of c.args.lang.now c.args.screen.now (candidates_on c.args.lang.now c.loop-s.s)) c.loop-s.invariant
    ∙ sym (one_scope c.args.lang.now c.args.screen.now c.loop-s.s)
