use Rattle.cert_check.proofs.Prelude.{sym, ◌∙◌, ap, Candidate, refutes}
use Rattle.cert_check.proofs.Finding.{candidate_is}
use Rattle.cert_check.proofs.checking.is_earned.Goals as goal

pub returns : goal.returns
returns c =
    c.refutes.ensures
    ∙ ap (refutes c.args.lang.now c.args.net.now c.candidate-c.result) c.tokens.ensures
    ∙ ap (λ (d : Candidate). refutes c.args.lang.now c.args.net.now d c.args.item.now.tokens)
    (sym (candidate_is c.args.lang.now c.candidate-c.result c.args.item.now.candidate c.requires.known c.candidate-c.ensures.candidate (c.candidate-c.ensures.number ∙ c.candidate.ensures)))
