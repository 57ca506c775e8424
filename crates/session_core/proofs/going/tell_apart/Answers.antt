use Rattle.session_core.proofs.Prelude.{subst, LeavesChoices, walk_in, Knowledge}
use Rattle.session_core.proofs.Steps.{has_learned}
use Rattle.session_core.proofs.Moving.{led_as}
use Rattle.session_core.proofs.going.tell_apart.Goals as goal

pub returns-in-Found-clause-stands : goal.returns-in-Found-clause-stands
returns-in-Found-clause-stands c = λ s choices is t led.
    let k : Knowledge = c.args.knowledge.value in
    c.learn.ensures.stands t (led_as k t _ _ (has_learned k.lang t s choices k.network.list (walk_in k.tree) c.in-Found.c (subst (LeavesChoices k.lang s choices) c.in-Found.is is)) led)
