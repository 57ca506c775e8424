use Rattle.acq_said.proofs.Prelude.{◌≡◌, ◌∙◌, ap, ℕ, List, ◌++◌, filter, codes, decimal, flat_map, string_bytes, Language, candidates, network_text, is_open, knowledge_of, saying, open_line, Undecided, ending_line}
use Rattle.acq_loop.specs.declared.ending.Ending.TheVariants as ending
use Rattle.acq_said.proofs.OpenLines.{line_then}
use Rattle.acq_said.proofs.endings.undecided.Goals as goal

pub returns : goal.returns
returns c =
    let l : Language = (knowledge_of c.args.session.now).lang in
    let network : string_bytes c.in-Ok.network ≡ network_text l (knowledge_of c.args.session.now).network.list =
    c.in-Ok.ensures ∙ (λ i. network_text (c.lang.ensures.is i) (c.network.ensures.is i).list) in
    let opens : string_bytes c.in-Ok-open_lines.opens ≡ flat_map (open_line l) (filter (is_open l c.args.screen.now) (candidates l)) =
    c.in-Ok-open_lines.ensures ∙ (λ i. flat_map (open_line (c.lang-2.ensures.is i)) (filter (is_open (c.lang-2.ensures.is i) c.args.screen.now) (candidates (c.lang-2.ensures.is i)))) in
    c.new.ensures ∙ ap (λ (text : List ℕ). saying text (ending.Undecided c.args.m)) (c.in-Ok-format.ensures.ok ∙ line_then (codes "undecided ") (decimal c.args.m) (string_bytes c.in-Ok.network ++ string_bytes c.in-Ok-open_lines.opens) ∙ (λ i. ending_line Undecided c.args.m ++ (network i ++ opens i)))
