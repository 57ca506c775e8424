use Rattle.net_cnf.proofs.Prelude.{◌≡◌, ◌+◌, ◌^◌, not, cond, Bool, length, sym, ◌∙◌, ap, arith, filter, range_with_len, scope_of, accepts_there}
use Rattle.net_cnf.proofs.Pieces.{failing_more, length-rejected}
use Rattle.net_cnf.proofs.text.rejected_by.Goals as goal
use Rattle.net_cnf.proofs.text.rejected_by.Goals.{then-not-holds, else-not-holds}

pub loop-place-preserved : goal.loop-place-preserved
loop-place-preserved c =
    let q = accepts_there c.args.lang.now c.args.c in
    let before = λ (s : Bool). length (filter (λ at. not (q at)) (range_with_len 0 c.loop-place.place)) + cond s 0 1 in
    elim c.if-not-holds.branch [
      | then-not-holds w ↦ record {
        is = (let more = failing_more q c.loop-place.place ∙ ap before (sym c.holds.ensures ∙ w.if-not-holds.true) in omega (arith, more, w.count-is, c.loop-place.invariant.is));
        few = omega (arith, w.count-is, c.loop-place.invariant.few);
      }
      | else-not-holds w ↦ record {
        is = (let more = failing_more q c.loop-place.place ∙ ap before (sym c.holds.ensures ∙ w.if-not-holds.false) in omega (arith, more, w.count-is, c.loop-place.invariant.is));
        few = omega (arith, w.count-is, c.loop-place.invariant.few);
      }
    ]

pub returns-clause-is : goal.returns-clause-is
returns-clause-is c =
    let l = c.args.lang.now in
    let all : c.loop-place.place ≡ l.value_count ^ length (scope_of l c.args.c) = omega arith in
    c.loop-place.invariant.is
    ∙ ap (λ n. length (filter (λ at. not (accepts_there l c.args.c at)) (range_with_len 0 n))) all
    ∙ sym (length-rejected l c.args.c c.places_on-place-end.ensures.lawful c.requires)
