use Rattle.acq_words.proofs.Prelude.{◌∙◌, ap₂, with_rule}
use Rattle.std.proofs.lemmas.Result.{IfOk-weaker}
use Rattle.acq_words.proofs.line.line.Goals as goal

pub returns : goal.returns
returns c =
    let one = c.in_ok-arg.ensures.shape c.journal_arg.ensures.local ∙ ap₂ with_rule c.bare_line.ensures c.journal_arg.ensures.rule in
    let two = c.in_ok-arg-2.ensures.shape c.command_arg.ensures.local ∙ ap₂ with_rule one c.command_arg.ensures.rule in
    let three = c.in_ok-arg-3.ensures.shape c.plan_arg.ensures.local ∙ ap₂ with_rule two c.plan_arg.ensures.rule in
    let four = c.in_ok-arg-4.ensures.shape c.budget_arg.ensures.local ∙ ap₂ with_rule three c.budget_arg.ensures.rule in
    IfOk-weaker c.arg-5.result _ _ (λ k h. h.shape c.number_arg.ensures.local ∙ ap₂ with_rule four c.number_arg.ensures.rule) c.arg-5.ensures
