use Rattle.cert_check.proofs.Prelude.{◌≡◌, ◌-◌, vec_len, All, IsQuestion, answers_read, AreFew, unread}
use Rattle.cert_check.proofs.InTurn.{with_front}
use Rattle.cert_check.proofs.sections.answer_lines.Given as goal

abbrev pub invariant-loop : goal.invariant-loop
invariant-loop l = record {
  told : with_front l.entries.items (answers_read l.lang (l.count - l.counter) (unread l.rest)) ≡ answers_read l.lang l.count (unread l.lines);
  few : AreFew l.rest;
  questions : All (λ a. IsQuestion l.lang a.question) l.entries.items;
  long : vec_len l.entries ≡ l.counter;
}
