use Rattle.session_core.proofs.Prelude.{arith, length, ◌<◌}
use Rattle.session_core.proofs.Steps.{none_is}
use Rattle.session_core.proofs.Moving.{first_is}
use Rattle.session_core.proofs.scopes.first_run.Goals as goal

pub returns-in-Some : goal.returns-in-Some
returns-in-Some c = λ network unlearned before.
    let low : c.loop-s.s < length c.args.lang.now.scopes = omega (arith, c.scopes-s-end.ensures.is) in
    let new = c.in-Some.ensures network unlearned in
    first_is c.args.lang.now c.args.kept.now.members network c.loop-s.s c.in-Some.run' new.0 new.1 (c.loop-s.invariant network unlearned before) low

pub returns : goal.returns
returns c = λ network unlearned before.
    none_is c.args.lang.now c.args.kept.now.members network (length c.args.lang.now.scopes)
    (λ v low. c.loop-s.invariant network unlearned before v (omega (arith, c.scopes-s-end.ensures.is)))
