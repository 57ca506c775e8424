use Rattle.net_cnf.proofs.Prelude.{◌*◌, ◌+◌, drop, get_or, sym, ◌∙◌, ap, arith, digit_value, digits_value_after, at_drop_more}
use Rattle.net_cnf.proofs.Numerals.{number_past}
use Rattle.net_cnf.proofs.literal.number_in.Goals as goal
use Rattle.shared_lemmas.proofs.Read.{value_grows}

pub returns-then-number-most : goal.returns-then-number-most
returns-then-number-most c =
    let digits = c.args.digits.now in
    let i = c.loop-byte.byte-index in
    let n = c.loop-byte.number in
    let value = sym c.loop-byte.invariant.value ∙ at_drop_more (digits_value_after 10 n) digits i 0 c.loop-byte-test.true in
    let digit = c.in_ok-number.ensures.value.1 ∙ ap digit_value c.from.ensures in
    let grows = value_grows (n * 10 + digit_value (get_or digits i 0)) (drop (i + 1) digits) in
    let past = c.if-number-most.true in
    sym (number_past c.args.most digits (omega (arith, value, digit, grows, past)))
