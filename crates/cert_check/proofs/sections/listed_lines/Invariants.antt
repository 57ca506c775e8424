use Rattle.cert_check.proofs.Prelude.{◌≡◌, ◌+◌, ◌-◌, ◌<◌, length, vec_len, All, candidates, Refutation, item_listed_in, lines_in, listed_lines, AreFew, unread}
use Rattle.cert_check.proofs.InTurn.{with_front}
use Rattle.cert_check.proofs.sections.listed_lines.Given as goal

abbrev pub invariant-loop : goal.invariant-loop
invariant-loop l = record {
  told : with_front l.listed.items (lines_in (item_listed_in l.lang l.items) (λ (r : Refutation). r.candidate + 1) l.least (l.count - l.counter) (unread l.rest)) ≡ listed_lines l.lang l.items l.count (unread l.lines);
  few : AreFew l.rest;
  known : All (λ r. r.candidate < length (candidates l.lang)) l.listed.items;
  long : vec_len l.listed ≡ l.counter;
}
