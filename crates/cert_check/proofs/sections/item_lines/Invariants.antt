use Rattle.cert_check.proofs.Prelude.{◌≡◌, ◌-◌, vec_len, IsNetwork, item_lines, AreFew, unread}
use Rattle.cert_check.proofs.InTurn.{with_front}
use Rattle.cert_check.proofs.sections.item_lines.Given as goal

abbrev pub invariant-loop : goal.invariant-loop
invariant-loop l = record {
  told : with_front l.items.items (item_lines l.lang (l.count - l.counter) (unread l.rest)) ≡ item_lines l.lang l.count (unread l.lines);
  few : AreFew l.rest;
  network : IsNetwork l.lang l.items.items;
  long : vec_len l.items ≡ l.counter;
}
