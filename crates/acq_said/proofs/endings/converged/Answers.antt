use Rattle.acq_said.proofs.Prelude.{◌≡◌, ◌∙◌, ap, ℕ, List, ◌++◌, codes, decimal, string_bytes, Language, network_text, knowledge_of, saying, Converged, ending_line}
use Rattle.acq_loop.specs.declared.ending.Ending.TheVariants as ending
use Rattle.acq_said.proofs.OpenLines.{line_then}
use Rattle.acq_said.proofs.endings.converged.Goals as goal

pub returns : goal.returns
returns c =
    let l : Language = (knowledge_of c.args.session.now).lang in
    let network : string_bytes c.in-Ok.network ≡ network_text l (knowledge_of c.args.session.now).network.list =
    c.in-Ok.ensures ∙ (λ i. network_text (c.lang.ensures.is i) (c.network.ensures.is i).list) in
    c.new.ensures ∙ ap (λ (text : List ℕ). saying text (ending.Converged c.args.m)) (c.in-Ok-format.ensures.ok ∙ line_then (codes "converged ") (decimal c.args.m) (string_bytes c.in-Ok.network) ∙ ap (λ (n : List ℕ). ending_line Converged c.args.m ++ n) network)
