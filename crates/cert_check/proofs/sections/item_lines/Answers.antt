use Rattle.cert_check.proofs.Prelude.{◌≡◌, ◌+◌, ◌-◌, sym, ◌∙◌, ap, subst, All-push, err_from_is_err_and, IsNetwork, IsCandidate, item_in, item_lines, unread}
use Rattle.cert_check.proofs.InTurn.{with_front, lines_go_on, lines_end, lines_done}
use Rattle.cert_check.proofs.sections.item_lines.Goals as goal

pub returns-in_err-item-clause-is : goal.returns-in_err-item-clause-is
returns-in_err-item-clause-is c =
    let l = c.args.lang.now in
    let p = err_from_is_err_and c.from_residual.result c.from_residual.ensures.1 in
    rw (p.1, p.2)
    (λ h. lines_end (λ _. item_in l) (λ _. 0) c.loop.items.items 0 c.args.count c.loop.counter (unread c.loop.rest) c.in_err-item.field-0.0 (item_lines l c.args.count (unread c.args.lines)) c.loop-test.true (c.in_err-item.ensures.is h) c.loop.invariant.told)

pub loop-preserved : goal.loop-preserved
loop-preserved c =
    let l = c.args.lang.now in
    record {
      told = subst (λ xs. with_front xs (item_lines l (c.args.count - (c.loop.counter + 1)) (unread c.in_ok-item.behind)) ≡ item_lines l c.args.count (unread c.args.lines)) (sym c.in_ok-push.ensures.items)
          (lines_go_on (λ _. item_in l) (λ _. 0) c.loop.items.items 0 c.args.count c.loop.counter (unread c.loop.rest) c.in_ok-item.item (unread c.in_ok-item.behind) (item_lines l c.args.count (unread c.args.lines)) c.loop-test.true c.in_ok-item.ensures.is c.loop.invariant.told);
      few = c.in_ok-item.ensures.few;
      network = subst (IsNetwork l) (sym c.in_ok-push.ensures.items) (All-push (IsCandidate l) c.loop.items.items c.in_ok-item.item c.loop.invariant.network c.in_ok-item.ensures.candidate);
      long = c.in_ok-push.ensures.len ∙ ap (λ n. n + 1) c.loop.invariant.long;
    }

pub returns-clause-is : goal.returns-clause-is
returns-clause-is c = lines_done (λ _. item_in c.args.lang.now) (λ _. 0) c.loop.items.items 0 c.args.count c.loop.counter (unread c.loop.rest) (item_lines c.args.lang.now c.args.count (unread c.args.lines)) c.loop-test.false c.loop.invariant.told
