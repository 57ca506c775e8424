use Rattle.line_text.proofs.Prelude.{rules, ◌≡◌, ◌+◌, ◌*◌, ◌<◌, ◌&&◌, subst, drop, get_or, sym, ◌∙◌, ap, digit_value, is_digit, list_all, digits_value_after, lt-ltb, at_drop_more, capped}
use Rattle.line_text.proofs.Numerals.{capped_after, digits_read}
use Rattle.line_text.proofs.words.decimal_in.Goals as goal

pub loop-byte-preserved : goal.loop-byte-preserved
loop-byte-preserved c =
    let digits = c.args.digits.now in
    let i = c.loop-byte.byte-index in
    let n = c.loop-byte.number in
    let b = get_or digits i 0 in
    let digit = c.in_ok-digit.ensures.value.1 ∙ ap digit_value c.from.ensures in
    let number : c.capped-number.result ≡ capped (n * 10 + digit_value b) = c.capped-number.ensures ∙ (λ k. capped (c.from-in-loop-byte.ensures k * 10 + (c.from-in-loop-byte-2.ensures ∙ digit) k)) in
    let fits : digit_value b < 10 = subst (λ x. digit_value x < 10) c.from.ensures c.in_ok-digit.ensures.value.0 in
    record {
      low = search rules;
      value = ap (λ m. capped (digits_value_after 10 m (drop (i + 1) digits))) number
          ∙ capped_after (n * 10 + digit_value b) (drop (i + 1) digits)
          ∙ ap capped (sym (at_drop_more (digits_value_after 10 n) digits i 0 c.loop-byte-test.true))
          ∙ c.loop-byte.invariant.value;
      digits = ap (λ t. t && list_all (λ d. is_digit d 10) (drop (i + 1) digits)) (sym (lt-ltb (digit_value b) 10 fits))
          ∙ sym (at_drop_more (list_all (λ d. is_digit d 10)) digits i 0 c.loop-byte-test.true)
          ∙ c.loop-byte.invariant.digits;
    }

pub returns : goal.returns
returns c = search (rules, digits_read c.args.digits.now c.loop-byte.number c.loop-byte.byte-index)
