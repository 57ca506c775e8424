use Rattle.net_cnf.proofs.Prelude.{length, sym, ◌∙◌, ap, tuple_at, are_in}
use Rattle.net_cnf.proofs.Outside.{rejected_within}
use Rattle.net_cnf.proofs.text.add_place.Goals as goal

-- only tuples within the ranges are rejected
pub add_not_all-requires-clause-values : goal.add_not_all-requires-clause-values
add_not_all-requires-clause-values c =
    let l = c.args.lang.now in
    let scope = c.scope-scope.ensures.is in
    ap (are_in l.ranges c.scope-scope.result.now) c.tuple_of-tuple.ensures.values
    ∙ (λ i. are_in l.ranges (scope i) (tuple_at (c.d.ensures.is i) (length (scope i)) c.args.place))
    ∙ rejected_within l c.args.c c.args.place c.d.ensures.lawful c.requires.candidate c.requires.place (sym c.holds.ensures ∙ c.if-holds.false)
