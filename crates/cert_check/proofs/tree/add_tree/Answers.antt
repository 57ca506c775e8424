use Rattle.cert_check.proofs.Prelude.{◌≡◌, ℕ, ◌+◌, ◌<◌, ◌≤◌, [], ◌∷◌, List, length, sym, ◌∙◌, ap, subst, arith, All, variable_count, ahead, AreLevels, IsPrefixAt, Branch, branches, node_at}
use Rattle.cert_check.proofs.Walking.{at_blank, at_question}
use Rattle.cert_check.proofs.Growing.{IsWritten, has_room, writing_begins, next_counts, goes_on, fewer_left, too_long, not_long, whole_added}
use Rattle.cert_check.proofs.Levels.{levels_begin, levels_on, node_there}
use Rattle.cert_check.proofs.tree.add_tree.Goals as goal
use Rattle.cert_check.proofs.tree.add_tree.Goals.{After-node-token}

pub loop-is_open-init : goal.loop-is_open-init
loop-is_open-init c = record {
  at = at_blank c.args.lang.now c.n.ensures.lawful c.args.c c.requires.candidate c.new-values.result.items c.blank-e.result c.n.result c.new-values.ensures c.n.ensures.is c.blank-e.ensures;
  written = writing_begins c.args.lang.now c.args.net.now c.args.c c.args.sheet.now c.new-values.result.items c.new-values.ensures;
  levels = levels_begin c.args.lang.now c.args.net.now c.args.c c.new-values.result.items c.new-levels.result.items c.new-values.ensures;
  few = omega arith;
}

-- the token is that of the node there
node : (c : After-node-token) → c.node-token.result ≡ node_at c.args.lang.now c.args.net.now c.args.c c.loop-is_open.values.items
node c =
    node_there c.args.lang.now c.args.net.now c.args.c c.n.ensures.lawful c.requires.candidate c.requires.network c.loop-is_open.values.items c.deref-in-loop-is_open.result.now c.loop-is_open.e c.loop-is_open.levels.items c.deref.result.now
    c.first_violated-item.result c.node-token.result c.deref-in-loop-is_open.ensures.0 c.deref.ensures.value c.loop-is_open.invariant.at c.loop-is_open.invariant.levels c.first_violated-item.ensures c.node-token.ensures

-- a branch has a next variable
room : (c : After-node-token) → c.node-token.result ≡ Branch → length c.loop-is_open.values.items < variable_count c.args.lang.now
room c = has_room c.args.lang.now c.args.net.now c.args.c c.n.ensures.lawful c.requires.candidate c.requires.implied c.loop-is_open.values.items c.loop-is_open.e c.node-token.result c.loop-is_open.invariant.at (node c)

pub first_violated-item-requires-clause-deep : goal.first_violated-item-requires-clause-deep
first_violated-item-requires-clause-deep c =
    let values = ap length c.deref-in-loop-is_open.ensures.0 in
    let levels = ap length c.deref.ensures.value in
    let deep = c.loop-is_open.invariant.levels.deep in
    omega (arith, values, levels, deep)

pub first_violated-item-requires-clause-small : goal.first_violated-item-requires-clause-small
first_violated-item-requires-clause-small c =
    let few = c.n.ensures.lawful.few_values in
    subst (λ (vs : List ℕ). All (λ x. x < 64) vs) (sym c.deref-in-loop-is_open.ensures.0)
    (λ k d low. (let small = c.loop-is_open.invariant.at.small k d low in omega (arith, small, few)))

pub node-token-requires-clause-question : goal.node-token-requires-clause-question
node-token-requires-clause-question c = at_question c.args.lang.now c.n.ensures.lawful c.args.c c.requires.candidate c.loop-is_open.values.items c.loop-is_open.e c.loop-is_open.invariant.at

pub returns-then-count-budget-clause-long : goal.returns-then-count-budget-clause-long
returns-then-count-budget-clause-long c =
    let here = (goal.at.returns-then-count-budget-clause-long c).After-node-token in
    too_long c.args.lang.now c.args.net.now c.args.c c.args.budget (c.loop-is_open.count + c.branches_of-count.result) c.if-count-budget.true
    (let most = next_counts c.args.lang.now c.args.net.now c.args.c c.n.ensures.lawful c.requires.candidate c.args.sheet.now c.loop-is_open.sheet c.loop-is_open.count c.loop-is_open.is_open c.loop-is_open.values.items c.node-token.result c.loop-is_open-test.true
    (node here) (room here) c.loop-is_open.invariant.written in
    let same = c.branches_of-count.ensures.is in
    omega (arith, most, same))

pub add_level-requires-clause-order : goal.add_level-requires-clause-order
add_level-requires-clause-order c = c.deref-in-loop-is_open-2.ensures.0 ∙ c.order_of-order.ensures.is

pub add_level-requires-clause-at : goal.add_level-requires-clause-at
add_level-requires-clause-at c = subst (λ (vs : List ℕ). IsPrefixAt c.args.lang.now c.args.c vs c.loop-is_open.e) (sym c.deref-in-loop-is_open-3.ensures.0) c.loop-is_open.invariant.at

pub add_level-requires-clause-node : goal.add_level-requires-clause-node
add_level-requires-clause-node c =
    node (goal.at.add_level-requires-clause-node c).After-node-token ∙ ap (node_at c.args.lang.now c.args.net.now c.args.c) (sym c.deref-in-loop-is_open-3.ensures.0)

pub add_level-requires-clause-room : goal.add_level-requires-clause-room
add_level-requires-clause-room c = λ branch.
    subst (λ (vs : List ℕ). length vs < variable_count c.args.lang.now) (sym c.deref-in-loop-is_open-3.ensures.0) (room (goal.at.add_level-requires-clause-room c).After-node-token branch)

pub add_level-requires-clause-levels : goal.add_level-requires-clause-levels
add_level-requires-clause-levels c =
    subst (λ (vs : List ℕ). AreLevels c.args.lang.now c.args.net.now c.args.c (length vs) vs c.loop-is_open.levels.items) (sym c.deref-in-loop-is_open-3.ensures.0) c.loop-is_open.invariant.levels

pub step-is_open-requires-clause-at : goal.step-is_open-requires-clause-at
step-is_open-requires-clause-at c = c.loop-is_open.invariant.at

pub step-is_open-requires-clause-branch : goal.step-is_open-requires-clause-branch
step-is_open-requires-clause-branch c = room (goal.at.step-is_open-requires-clause-branch c).After-node-token

pub loop-is_open-preserved : goal.loop-is_open-preserved
loop-is_open-preserved c =
    let here = (goal.at.loop-is_open-preserved c).After-node-token in
    let l = c.args.lang.now in
    let net = c.args.net.now in
    record {
      at = c.step-is_open.ensures.at;
      written = subst (λ k. IsWritten l net c.args.c c.args.sheet.now c.add_token.new.sheet (c.loop-is_open.count + k) (ahead c.step-is_open.result l c.args.c c.step-is_open.new.values.items)) (sym c.branches_of-count.ensures.is)
          (goes_on l net c.args.c c.args.sheet.now c.loop-is_open.sheet c.add_token.new.sheet c.loop-is_open.count c.loop-is_open.is_open c.loop-is_open.values.items c.node-token.result
          (ahead c.step-is_open.result l c.args.c c.step-is_open.new.values.items) c.loop-is_open-test.true (node here) (room here)
          c.step-is_open.ensures.next c.in_ok-add_token.ensures c.loop-is_open.invariant.written);
      levels = levels_on l net c.args.c (length c.loop-is_open.values.items + branches (c.node-token.result ∷ [])) c.loop-is_open.values.items c.step-is_open.new.values.items c.add_level.new.levels.items
          (subst (λ (vs : List ℕ). AreLevels l net c.args.c (length vs + branches (c.node-token.result ∷ [])) vs c.add_level.new.levels.items) c.deref-in-loop-is_open-3.ensures.0 c.in_ok-add_level.ensures)
          c.step-is_open.ensures.fronts;
      few = c.if-count-budget.false;
    }

pub loop-is_open-smaller : goal.loop-is_open-smaller
loop-is_open-smaller c =
    let here = (goal.at.loop-is_open-smaller c).After-node-token in
    fewer_left c.args.lang.now c.args.net.now c.args.c c.loop-is_open.is_open c.loop-is_open.values.items c.node-token.result
    (ahead c.step-is_open.result c.args.lang.now c.args.c c.step-is_open.new.values.items) c.loop-is_open-test.true (node here) (room here) c.step-is_open.ensures.next

pub returns-clause-long : goal.returns-clause-long
returns-clause-long c = not_long c.args.lang.now c.args.net.now c.args.c c.n.ensures.lawful c.requires.candidate c.args.budget c.args.sheet.now c.loop-is_open.sheet c.loop-is_open.count c.loop-is_open.is_open c.loop-is_open.values.items c.loop-is_open-test.false c.loop-is_open.invariant.few c.loop-is_open.invariant.written

pub returns-clause-added : goal.returns-clause-added
returns-clause-added c = λ _. whole_added c.args.lang.now c.args.net.now c.args.c c.args.sheet.now c.loop-is_open.sheet c.loop-is_open.count c.loop-is_open.is_open c.loop-is_open.values.items c.loop-is_open-test.false c.loop-is_open.invariant.written
