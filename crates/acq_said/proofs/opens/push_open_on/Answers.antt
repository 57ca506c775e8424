use Rattle.acq_said.proofs.Prelude.{◌∙◌, ◌++◌, ap, sym, [], List, ℕ, if◌then◌else◌, string_bytes, append_assoc, is_open, open_line}
use Rattle.acq_said.proofs.OpenLines.{at, lines_before, one_line}
use Rattle.acq_said.proofs.opens.push_open_on.Goals as goal

pub loop-rel-preserved : goal.loop-rel-preserved
loop-rel-preserved c =
    let line : List ℕ = if is_open c.args.lang.now c.args.screen.now (at c.args.scope c.loop-rel.rel) then open_line c.args.lang.now (at c.args.scope c.loop-rel.rel) else [] in
    c.in_ok-push_open.ensures ∙ ap (λ x. x ++ line) c.loop-rel.invariant
    ∙ append_assoc (string_bytes c.args.text.now) (lines_before c.args.lang.now c.args.screen.now c.args.scope c.loop-rel.rel) line
    ∙ ap (λ x. string_bytes c.args.text.now ++ x) (sym (one_line c.args.lang.now c.args.screen.now c.args.scope c.loop-rel.rel))
