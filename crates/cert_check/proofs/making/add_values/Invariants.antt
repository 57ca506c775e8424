use Rattle.cert_check.proofs.Prelude.{length, take, flat_map, numbers, value_of, AddsPiece, numbered_value}
use Rattle.cert_check.proofs.making.add_values.Given as goal

abbrev pub invariant-loop-v : goal.invariant-loop-v
invariant-loop-v l = AddsPiece l.fn.sheet (flat_map (λ v. numbered_value v (value_of l.fn.q v)) (take l.v (numbers (length l.fn.q)))) l.sheet
