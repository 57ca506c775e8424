use Rattle.net_cnf.proofs.Prelude.{◌≡◌, ◌≤◌, drop, is_digit, list_all, digits_value, digits_value_after}
use Rattle.net_cnf.proofs.literal.number_in.Given as goal

abbrev pub invariant-loop-byte : goal.invariant-loop-byte
invariant-loop-byte l = record {
  low : l.number ≤ l.most;
  value : digits_value_after 10 l.number (drop l.byte-index l.digits) ≡ digits_value 10 l.digits;
  digits : list_all (λ b. is_digit b 10) (drop l.byte-index l.digits) ≡ list_all (λ b. is_digit b 10) l.digits;
}
