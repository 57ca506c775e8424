use Rattle.net_cnf.proofs.Prelude.{◌+◌, ◌∙◌}
use Rattle.net_cnf.proofs.Pieces.{length-clauses}
use Rattle.net_cnf.proofs.text.clause_count.Goals as goal

pub returns : goal.returns
returns c =
    (λ i. (c.from.ensures ∙ c.n.ensures.is) i + (c.from-2.ensures ∙ c.pair_count.ensures.is) i + c.rejected_count.ensures.is i)
    ∙ length-clauses c.args.lang.now c.args.net.now.list
