use Rattle.voc_read.proofs.Prelude.{ap, sym, ◌∙◌, ok_or, err_from_is_err_and, WrongKind, whole_number}
use Rattle.voc_read.proofs.EachSteps.{reads_no_more, reads_all, refuses}
use Rattle.voc_read.proofs.values.numbers_of.Goals as goal

pub returns-in_err-number : goal.returns-in_err-number
returns-in_err-number c =
    let p = err_from_is_err_and c.from_residual.result c.from_residual.ensures.1 in
    rw (p.1, p.2) (λ real. refuses _ _ _ _ (sym c.whole_number.ensures ∙ c.in_err-number.was)
    (λ none. reads_no_more whole_number c.args.list.now c.loop-value.value-index _ c.loop-value.numbers.items _ c.loop-value-test.true c.value-item.is none c.loop-value.invariant))

pub returns : goal.returns
returns c =
    ap (λ o. ok_or o (WrongKind c.args.spot)) (reads_all whole_number c.args.list.now c.loop-value.value-index c.loop-value.numbers.items _ c.loop-value-test.false c.loop-value.invariant)
