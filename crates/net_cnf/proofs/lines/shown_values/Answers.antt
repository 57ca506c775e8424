use Rattle.net_cnf.proofs.Prelude.{List, ℕ, ◌∷◌, ◌++◌, ◌∙◌, ap, lit<, decimal_digit, values_text}
use Rattle.net_cnf.proofs.lines.shown_values.Goals as goal

pub returns : goal.returns
returns c =
    let values = values_text c.args.lang.now.least_value c.args.lang.now.names c.args.e.now in
    c.in_ok-text.ensures.ok
    ∙ c.values_behind.ensures values (c.as_str.ensures.value ∙ c.in_ok-question.ensures ∙ ap (λ (t : List ℕ). 113 ∷ (t ++ values)) (decimal_digit 0 (lit< tt)))
