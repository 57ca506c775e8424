use Rattle.cert_check.proofs.Prelude.{rules, ◌≡◌, ◌<◌, ◌+◌, ℕ, List, length, true, lit<, refl, sym, ◌∙◌, ap, subst, arith, append-nil, variable_count, range_of, ahead, later, last_behind, HasFronts, IsPrefixAt}
use Rattle.cert_check.proofs.Within.{next_known_at}
use Rattle.cert_check.proofs.Walking.{place_in, next_in, pushed, popped, last_fits, last_from, may_follow, at_next, later_next, later_last, later_none, fronts_same, fronts_popped, fronts_other}
use Rattle.cert_check.proofs.walk.go_on.Goals as goal
use Rattle.cert_check.proofs.walk.go_on.Goals.{After-clear, After-range-last}
use Rattle.shared_lemmas.proofs.Lists.{empty_list}

pub bounds-order-len : goal.bounds-order-len
bounds-order-len c = (place_in c.args.lang.now c.requires.lawful c.args.c c.requires.candidate c.args.order.now c.loop-x.values.items c.pop.new.self.items c.loop-x.e c.in-Some.x c.len.result c.requires.order c.len.ensures.value c.in-Some.ensures.items c.loop-x.invariant.at).0

pub clear-requires : goal.clear-requires
clear-requires c = (place_in c.args.lang.now c.requires.lawful c.args.c c.requires.candidate c.args.order.now c.loop-x.values.items c.pop.new.self.items c.loop-x.e c.in-Some.x c.len.result c.requires.order c.len.ensures.value c.in-Some.ensures.items c.loop-x.invariant.at).1

-- there is room for the value that was taken out
room : (c : After-clear) → length c.pop.new.self.items < variable_count c.args.lang.now
room c = last_fits c.args.lang.now c.requires.lawful c.args.c c.requires.candidate c.loop-x.values.items c.pop.new.self.items c.loop-x.e c.in-Some.x c.in-Some.ensures.items c.loop-x.invariant.at

-- what is left without it
left : (c : After-clear) → IsPrefixAt c.args.lang.now c.args.c c.pop.new.self.items c.clear.new.self
left c = popped c.args.lang.now c.requires.lawful c.args.c c.requires.candidate c.args.order.now c.loop-x.values.items c.pop.new.self.items c.loop-x.e c.clear.new.self c.in-Some.x c.len.result c.requires.order c.len.ensures.value c.in-Some.ensures.items c.clear.ensures c.loop-x.invariant.at

pub range-last-requires : goal.range-last-requires
range-last-requires c =
    let next = at_next c.args.lang.now c.requires.lawful c.args.c c.requires.candidate c.args.order.now c.pop.new.self.items c.len.result c.requires.order c.len.ensures.value in
    let known = next_known_at c.args.lang.now c.requires.lawful c.args.c c.requires.candidate c.pop.new.self.items (room (goal.at.range-last-requires c).After-clear) in
    omega (arith, next, known)

-- the last value of its variable
last_is : (c : After-range-last) → c.range-last.result.1 ≡ last_behind c.args.lang.now c.args.c c.pop.new.self.items
last_is c =
    c.range-last.ensures.last
    ∙ ap (λ v. (range_of c.args.lang.now v).last) (at_next c.args.lang.now c.requires.lawful c.args.c c.requires.candidate c.args.order.now c.pop.new.self.items c.len.result c.requires.order c.len.ensures.value)

pub overflow_add-x : goal.overflow_add-x
overflow_add-x c =
    let known = c.range-last.ensures.known in
    let few = c.requires.lawful.few_values in
    omega (arith, known, few)

pub set-requires : goal.set-requires
set-requires c =
    let at = (goal.at.set-requires c).After-clear in
    (next_in c.args.lang.now c.requires.lawful c.args.c c.requires.candidate c.args.order.now c.pop.new.self.items c.clear.new.self c.len.result c.requires.order c.len.ensures.value (left at) (room at)).1

pub push-requires : goal.push-requires
push-requires c =
    let room = room (goal.at.push-requires c).After-clear in
    let few = c.requires.lawful.few_variables in
    let short : length c.pop.new.self.items < 128 = omega (arith, room, few) in
    (lit< tt, short)

pub returns-then-x-last-clause-at : goal.returns-then-x-last-clause-at
returns-then-x-last-clause-at c =
    let at = (goal.at.returns-then-x-last-clause-at c).After-clear in
    let last = last_is (goal.at.returns-then-x-last-clause-at c).After-range-last in
    let from = last_from c.args.lang.now c.requires.lawful c.args.c c.requires.candidate c.loop-x.values.items c.pop.new.self.items c.loop-x.e c.in-Some.x c.in-Some.ensures.items c.loop-x.invariant.at in
    let below = c.if-x-last.true in
    pushed c.args.lang.now c.requires.lawful c.args.c c.requires.candidate c.args.order.now c.pop.new.self.items c.push.new.self.items c.clear.new.self c.set.new.self (c.in-Some.x + 1) c.len.result c.requires.order c.len.ensures.value c.push.ensures.items c.set.ensures
    (left at) (room at)
    (may_follow c.args.lang.now c.requires.lawful c.args.c c.requires.candidate c.pop.new.self.items (c.in-Some.x + 1) (room at) (omega (arith, from)) (omega (arith, last, below)))

pub returns-then-x-last-clause-next : goal.returns-then-x-last-clause-next
returns-then-x-last-clause-next c =
    let last = last_is (goal.at.returns-then-x-last-clause-next c).After-range-last in
    let below = c.if-x-last.true in
    c.loop-x.invariant.same ∙ ap (later c.args.lang.now c.args.c) c.in-Some.ensures.items
    ∙ later_next c.args.lang.now c.args.c c.pop.new.self.items c.in-Some.x (omega (arith, last, below))
    ∙ ap (ahead true c.args.lang.now c.args.c) (sym c.push.ensures.items)

pub loop-x-preserved : goal.loop-x-preserved
loop-x-preserved c =
    let last = last_is (goal.at.loop-x-preserved c).After-range-last in
    let above = c.if-x-last.false in
    record {
      at = left (goal.at.loop-x-preserved c).After-clear;
      same =
          c.loop-x.invariant.same ∙ ap (later c.args.lang.now c.args.c) c.in-Some.ensures.items
          ∙ later_last c.args.lang.now c.args.c c.pop.new.self.items c.in-Some.x (omega (arith, last, above));
      fronts = fronts_popped c.args.values.now.items c.loop-x.values.items c.pop.new.self.items (length c.args.values.now.items) c.in-Some.x c.in-Some.ensures.items c.loop-x.invariant.fronts;
    }

pub returns-then-x-last-clause-fronts : goal.returns-then-x-last-clause-fronts
returns-then-x-last-clause-fronts c =
    fronts_other c.args.values.now.items c.loop-x.values.items c.pop.new.self.items c.push.new.self.items (length c.args.values.now.items) c.in-Some.x (c.in-Some.x + 1) c.in-Some.ensures.items c.push.ensures.items c.loop-x.invariant.fronts

pub returns-clause-at : goal.returns-clause-at
returns-clause-at c = subst (λ (vs : List ℕ). IsPrefixAt c.args.lang.now c.args.c vs c.loop-x.e) (c.in_default.ensures.items ∙ append-nil c.pop.new.self.items) c.loop-x.invariant.at

pub returns-clause-next : goal.returns-clause-next
returns-clause-next c =
    let none : length c.loop-x.values.items ≡ 0 = search rules in
    c.loop-x.invariant.same ∙ ap (later c.args.lang.now c.args.c) (empty_list c.loop-x.values.items none) ∙ later_none c.args.lang.now c.args.c

pub returns-clause-fronts : goal.returns-clause-fronts
returns-clause-fronts c = subst (λ (vs : List ℕ). HasFronts c.args.values.now.items (length c.args.values.now.items) vs) (c.in_default.ensures.items ∙ append-nil c.pop.new.self.items) c.loop-x.invariant.fronts

pub loop-x-init : goal.loop-x-init
loop-x-init c = record { at = c.requires.at; same = refl; fronts = fronts_same c.args.values.now.items }
