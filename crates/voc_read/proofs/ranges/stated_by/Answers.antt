use Rattle.voc_read.proofs.Prelude.{◌≢◌, length, arith, ap, ltb-true, ltb-false, ok_or, WrongKind}
use Rattle.std.proofs.lemmas.Bool.Decides.{nat_tests}
use Rattle.voc_read.proofs.RangeSteps.{not_three}
use Rattle.voc_read.proofs.ranges.stated_by.Goals as goal
use Rattle.voc_read.proofs.ranges.stated_by.Goals.{in_default-via-then-list-lt3, in_default-via-else-list-lt3+else-list-lt4}

pub returns-in_default : goal.returns-in_default
returns-in_default c =
    λ _. let other : length c.args.list.now ≢ 3 =
    elim c.in_default.branch [ in_default-via-then-list-lt3 w ↦ grind (arith, nat_tests, ltb-true, ltb-false) | in_default-via-else-list-lt3+else-list-lt4 w ↦ grind (arith, nat_tests, ltb-true, ltb-false) ] in
    ap (λ o. ok_or o (WrongKind c.args.here)) (not_three c.args.list.now other)
