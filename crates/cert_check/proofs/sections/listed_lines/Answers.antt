use Rattle.cert_check.proofs.Prelude.{ℕ, ◌+◌, ◌-◌, ◌<◌, List, length, sym, ◌∙◌, ap, subst, All, All-push, err_from_is_err_and, candidates, Refutation, item_listed_in, lines_in, listed_lines, unread}
use Rattle.cert_check.proofs.InTurn.{with_front, lines_go_on, lines_end, lines_done}
use Rattle.cert_check.proofs.sections.listed_lines.Goals as goal

abbrev next : Refutation → ℕ
next r = r.candidate + 1

pub returns-in_err-next-clause-is : goal.returns-in_err-next-clause-is
returns-in_err-next-clause-is c =
    let l = c.args.lang.now in
    let p = err_from_is_err_and c.from_residual.result c.from_residual.ensures.1 in
    rw (p.1, p.2)
    (λ h. lines_end (item_listed_in l c.args.items) next c.loop.listed.items c.loop.least c.args.count c.loop.counter (unread c.loop.rest) c.in_err-next.field-0.0 (listed_lines l c.args.items c.args.count (unread c.args.lines)) c.loop-test.true (c.in_err-next.ensures.is h) c.loop.invariant.told)

pub loop-preserved : goal.loop-preserved
loop-preserved c =
    let l = c.args.lang.now in
    let behind = unread c.in_ok-next.behind in
    let total = listed_lines l c.args.items c.args.count (unread c.args.lines) in
    record {
      told = (λ i. with_front (c.in_ok-push.ensures.items i) (lines_in (item_listed_in l c.args.items) next (c.candidate-least.ensures i + 1) (c.args.count - (c.loop.counter + 1)) behind))
          ∙ lines_go_on (item_listed_in l c.args.items) next c.loop.listed.items c.loop.least c.args.count c.loop.counter (unread c.loop.rest) c.in_ok-next.next behind total c.loop-test.true c.in_ok-next.ensures.is c.loop.invariant.told;
      few = c.in_ok-next.ensures.few;
      known = subst (λ (xs : List Refutation). All (λ r. r.candidate < length (candidates l)) xs) (sym c.in_ok-push.ensures.items)
          (All-push (λ (r : Refutation). r.candidate < length (candidates l)) c.loop.listed.items c.in_ok-next.next c.loop.invariant.known c.in_ok-next.ensures.known);
      long = c.in_ok-push.ensures.len ∙ ap (λ n. n + 1) c.loop.invariant.long;
    }

pub returns-clause-is : goal.returns-clause-is
returns-clause-is c = lines_done (item_listed_in c.args.lang.now c.args.items) next c.loop.listed.items c.loop.least c.args.count c.loop.counter (unread c.loop.rest) (listed_lines c.args.lang.now c.args.items c.args.count (unread c.args.lines)) c.loop-test.false c.loop.invariant.told
