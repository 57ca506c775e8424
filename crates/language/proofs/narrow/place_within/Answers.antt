use Rattle.language.proofs.Prelude.{Some, ap, ◌∙◌, widened, ◌≡◌, length, take, subst, sym, arith, All, IsOfKind, get_or, chosen_on}
use Rattle.rel_table.specs.InOrder.{Above}
use Rattle.language.proofs.PairOrders.{one_behind, in_front}
use Rattle.language.proofs.narrow.place_within.Goals as goal

pub returns-in-Some-true-clause-after : goal.returns-in-Some-true-clause-after
returns-in-Some-true-clause-after c =
    in_front c.args.ranges.now c.args.d c.args.tables.now c.args.scope.now c.args.chosen.now c.loop-at.at c.index-tables-chosen.result c.loop-at-test.true c.requires.known c.index-tables-chosen.is
    (widened c.args.ranges.now c.args.d c.args.scope.now c.args.table.now.truth) (c.comes_before.ensures.before (c.in-Some-true.is ∙ ap Some c.in-Some-true.field-0-test))

pub loop-at-preserved : goal.loop-at-preserved
loop-at-preserved c =
    one_behind c.args.ranges.now c.args.d c.args.tables.now c.args.scope.now c.args.chosen.now c.loop-at.at c.index-tables-chosen.result c.loop-at-test.true c.requires.known c.index-tables-chosen.is
    (widened c.args.ranges.now c.args.d c.args.scope.now c.args.table.now.truth) (c.comes_before.ensures.behind (c.in-Some-false.is ∙ ap Some c.in-Some-false.field-0-test)) c.loop-at.invariant

pub bounds-tables-chosen : goal.bounds-tables-chosen
bounds-tables-chosen c = c.requires.known c.loop-at.at 0 c.loop-at-test.true

pub comes_before-requires-clause-other : goal.comes_before-requires-clause-other
comes_before-requires-clause-other c =
    subst (IsOfKind 2 c.args.d) (sym c.index-tables-chosen.is) (c.requires.kinds (get_or c.args.chosen.now c.loop-at.at 0) c.index-tables-chosen.result (c.requires.known c.loop-at.at 0 c.loop-at-test.true))

pub returns-in-Some-true-clause-before : goal.returns-in-Some-true-clause-before
returns-in-Some-true-clause-before c = c.loop-at.invariant

pub returns-clause-before : goal.returns-clause-before
returns-clause-before c =
    let all : c.loop-at.at ≡ length c.args.chosen.now = omega (arith, c.loop-at-test.false, c.loop-at.auto.at-end) in
    subst (λ n. All (λ q. Above q (widened c.args.ranges.now c.args.d c.args.scope.now c.args.table.now.truth)) (take n (chosen_on c.args.ranges.now c.args.d c.args.tables.now c.args.scope.now c.args.chosen.now))) all c.loop-at.invariant
