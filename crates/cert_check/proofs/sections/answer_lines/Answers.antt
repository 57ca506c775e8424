use Rattle.cert_check.proofs.Prelude.{◌≡◌, ◌+◌, ◌-◌, List, sym, ◌∙◌, ap, subst, All, IfSome, All-push, err_from_is_err_and, Answer, IsQuestion, BadLine, answer_line_in, answers_read, unread}
use Rattle.cert_check.proofs.InTurn.{next_read, next_missing, next_wrong, with_front, lines_go_on, lines_end, lines_done}
use Rattle.cert_check.proofs.sections.answer_lines.Goals as goal
use Rattle.shared_lemmas.proofs.Read.{or_value, or_fault}

pub returns-in_err-line-clause-is : goal.returns-in_err-line-clause-is
returns-in_err-line-clause-is c =
    let l = c.args.lang.now in
    let p = err_from_is_err_and c.from_residual.result c.from_residual.ensures.1 in
    rw (p.1, p.2)
    (λ h. lines_end (λ _. answer_line_in l) (λ _. 0) c.loop.entries.items 0 c.args.count c.loop.counter (unread c.loop.rest) c.in_err-line.field-0.0 (answers_read l c.args.count (unread c.args.lines)) c.loop-test.true
    (next_missing (answer_line_in l) (unread c.loop.rest) c.in_err-line.field-0.0 (c.in_err-line.ensures.is h)) c.loop.invariant.told)

pub returns-in_err-entry-clause-is : goal.returns-in_err-entry-clause-is
returns-in_err-entry-clause-is c =
    let l = c.args.lang.now in
    let p = err_from_is_err_and c.from_residual-in_err-entry.result c.from_residual-in_err-entry.ensures.1 in
    let missing = or_fault c.answer_in.result (BadLine c.loop.rest.line) c.in_err-entry.field-0.0 c.in_err-entry.ensures.value in
    rw (p.1, p.2)
    (λ h. lines_end (λ _. answer_line_in l) (λ _. 0) c.loop.entries.items 0 c.args.count c.loop.counter (unread c.loop.rest) c.in_err-entry.field-0.0 (answers_read l c.args.count (unread c.args.lines)) c.loop-test.true
    (next_wrong (answer_line_in l) (unread c.loop.rest) c.in_ok-line.line.now (unread c.in_ok-line.behind) c.in_err-entry.field-0.0 c.in_ok-line.ensures.is (sym c.answer_in.ensures.is ∙ missing.0) missing.1) c.loop.invariant.told)

pub loop-preserved : goal.loop-preserved
loop-preserved c =
    let l = c.args.lang.now in
    let found = or_value c.answer_in.result (BadLine c.loop.rest.line) c.in_ok-entry.entry c.in_ok-entry.ensures.value in
    record {
      told = subst (λ xs. with_front xs (answers_read l (c.args.count - (c.loop.counter + 1)) (unread c.in_ok-line.behind)) ≡ answers_read l c.args.count (unread c.args.lines)) (sym c.in_ok-push.ensures.items)
          (lines_go_on (λ _. answer_line_in l) (λ _. 0) c.loop.entries.items 0 c.args.count c.loop.counter (unread c.loop.rest) c.in_ok-entry.entry (unread c.in_ok-line.behind) (answers_read l c.args.count (unread c.args.lines)) c.loop-test.true
          (next_read (answer_line_in l) (unread c.loop.rest) c.in_ok-line.line.now (unread c.in_ok-line.behind) c.in_ok-entry.entry c.in_ok-line.ensures.is (sym c.answer_in.ensures.is ∙ found)) c.loop.invariant.told);
      few = c.in_ok-line.ensures.few;
      questions = subst (λ (xs : List Answer). All (λ a. IsQuestion l a.question) xs) (sym c.in_ok-push.ensures.items)
          (All-push (λ (a : Answer). IsQuestion l a.question) c.loop.entries.items c.in_ok-entry.entry c.loop.invariant.questions (subst (λ o. IfSome o (λ (a : Answer). IsQuestion l a.question)) found c.answer_in.ensures.question));
      long = c.in_ok-push.ensures.len ∙ ap (λ n. n + 1) c.loop.invariant.long;
    }

pub returns-clause-is : goal.returns-clause-is
returns-clause-is c = lines_done (λ _. answer_line_in c.args.lang.now) (λ _. 0) c.loop.entries.items 0 c.args.count c.loop.counter (unread c.loop.rest) (answers_read c.args.lang.now c.args.count (unread c.args.lines)) c.loop-test.false c.loop.invariant.told
