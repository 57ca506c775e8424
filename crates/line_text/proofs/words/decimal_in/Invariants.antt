use Rattle.line_text.proofs.Prelude.{◌≡◌, ◌<◌, drop, is_digit, list_all, digits_value, digits_value_after, capped}
use Rattle.line_text.proofs.words.decimal_in.Given as goal

abbrev pub invariant-loop-byte : goal.invariant-loop-byte
invariant-loop-byte l = record {
  low : l.number < 4294967296;
  value : capped (digits_value_after 10 l.number (drop l.byte-index l.digits)) ≡ capped (digits_value 10 l.digits);
  digits : list_all (λ b. is_digit b 10) (drop l.byte-index l.digits) ≡ list_all (λ b. is_digit b 10) l.digits;
}
