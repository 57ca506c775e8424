use Rattle.cert_check.proofs.Prelude.{◌<◌, ◌++◌, [], ◌∷◌, List, length, refl, ◌∙◌, ap, arith, Siblings}
use Rattle.cert_check.proofs.Walking.{at_next, at_question, next_in}
use Rattle.cert_check.proofs.Within.{next_known_at}
use Rattle.cert_check.proofs.Levels.{level_added, level_kept, none_at_branch}
use Rattle.cert_check.proofs.tree.add_level.Goals as goal

pub of-siblings-requires-clause-known : goal.of-siblings-requires-clause-known
of-siblings-requires-clause-known c =
    let next = at_next c.args.lang.now c.requires.lawful c.args.c c.requires.candidate c.args.order.now c.args.values.now (length c.args.values.now) c.requires.order refl in
    let known = next_known_at c.args.lang.now c.requires.lawful c.args.c c.requires.candidate c.args.values.now (c.requires.room c.in-Branch.is) in
    omega (arith, next, known)

pub of-siblings-requires-clause-question : goal.of-siblings-requires-clause-question
of-siblings-requires-clause-question c = at_question c.args.lang.now c.requires.lawful c.args.c c.requires.candidate c.args.values.now c.args.e.now c.requires.at

pub of-siblings-requires-clause-accepted : goal.of-siblings-requires-clause-accepted
of-siblings-requires-clause-accepted c = none_at_branch c.args.lang.now c.args.net.now c.args.c c.args.values.now c.args.e.now c.args.token c.requires.at c.requires.node c.in-Branch.is

pub bounds-order-values : goal.bounds-order-values
bounds-order-values c =
    (next_in c.args.lang.now c.requires.lawful c.args.c c.requires.candidate c.args.order.now c.args.values.now c.args.e.now (length c.args.values.now) c.requires.order refl c.requires.at (c.requires.room c.in-Branch.is)).0

pub returns-in_ok-push-in-Branch : goal.returns-in_ok-push-in-Branch
returns-in_ok-push-in-Branch c =
    level_added c.args.lang.now c.args.net.now c.args.c c.args.order.now c.args.values.now c.args.e.now c.args.token c.of-siblings.result c.args.levels.now.items c.push.new.self.items
    c.requires.order c.requires.at c.in-Branch.is c.requires.levels (c.in_ok-push-in-Branch.ensures.items ∙ ap (λ (ss : List Siblings). ss ++ c.of-siblings.result ∷ []) c.truncate.ensures.items) c.of-siblings.ensures
