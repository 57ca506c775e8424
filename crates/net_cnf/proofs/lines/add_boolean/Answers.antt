use Rattle.net_cnf.proofs.Prelude.{◌≡◌, ℕ, List, [], ◌∷◌, ◌++◌, get_or, set, replicate, Some, None, ◌∙◌, ap, subst, string_bytes, decimal, value_text, values_text, AddsText}
use Rattle.net_cnf.proofs.Pieces.{alone_shown}
use Rattle.net_cnf.proofs.lines.add_boolean.Goals as goal

pub returns : goal.returns
returns c =
    let l = c.args.lang.now in
    let values : c.as_str.result.now ≡ value_text l.least_value (get_or l.names c.args.v []) (Some c.args.x) =
    c.as_str.ensures.value ∙ c.in_ok-values.ensures
    ∙ ap (values_text l.least_value l.names) (c.set.ensures ∙ ap (λ e. set e c.args.v (Some c.args.x)) (c.blank-alone.ensures ∙ ap (λ n. replicate n None) c.n.ensures.is))
    ∙ alone_shown l.least_value l.names c.args.v c.args.x c.requires.variable in
    let P : List ℕ → Type 0 = λ piece. AddsText (string_bytes c.args.text.now) piece (string_bytes c.add_shown.new.text) c.add_shown.result in
    subst P (λ i. 99 ∷ (values i ++ 32 ∷ (decimal (c.number_of.ensures i) ++ 10 ∷ []))) c.add_shown.ensures
