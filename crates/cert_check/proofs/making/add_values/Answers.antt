use Rattle.cert_check.proofs.Prelude.{length, arith, length-range_with_len, numbers, value_of, numbered_value}
use Rattle.cert_check.proofs.Sheets.{adds_none, adds_next_number, adds_all}
use Rattle.cert_check.proofs.making.add_values.Goals as goal

pub loop-v-init : goal.loop-v-init
loop-v-init c = adds_none c.args.sheet.now

pub loop-v-preserved : goal.loop-v-preserved
loop-v-preserved c = adds_next_number (λ v. numbered_value v (value_of c.args.q.now v)) (length c.args.q.now) c.loop-v.v c.args.sheet.now c.loop-v.sheet c.add_value.new.sheet (omega arith) c.loop-v.invariant c.in_ok-add_value.ensures

pub returns : goal.returns
returns c = adds_all (λ v. numbered_value v (value_of c.args.q.now v)) (numbers (length c.args.q.now)) c.loop-v.v c.args.sheet.now c.loop-v.sheet
    (let long = length-range_with_len 0 (length c.args.q.now) in omega arith) c.loop-v.invariant
