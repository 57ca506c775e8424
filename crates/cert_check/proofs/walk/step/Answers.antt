use Rattle.cert_check.proofs.Prelude.{◌≡◌, ◌<◌, length, true, ◌++◌, lit<, sym, ◌∙◌, ap, arith, ◌∷◌, [], ℕ, range_of, ahead, later, children, branches, ◌+◌}
use Rattle.cert_check.proofs.Within.{next_of, next_known_at, next_range}
use Rattle.cert_check.proofs.Walking.{next_in, pushed, may_follow, at_next, branch_next, fronts_pushed}
use Rattle.cert_check.proofs.walk.step.Goals as goal
use Rattle.cert_check.proofs.walk.step.Goals.{After-range-first}

pub bounds-order-len : goal.bounds-order-len
bounds-order-len c = (next_in c.args.lang.now c.requires.lawful c.args.c c.requires.candidate c.args.order.now c.args.values.now.items c.args.e.now c.len.result c.requires.order c.len.ensures.value c.requires.at (c.requires.branch c.in-Branch.is)).0

pub range-first-requires : goal.range-first-requires
range-first-requires c =
    let next = at_next c.args.lang.now c.requires.lawful c.args.c c.requires.candidate c.args.order.now c.args.values.now.items c.len.result c.requires.order c.len.ensures.value in
    let known = next_known_at c.args.lang.now c.requires.lawful c.args.c c.requires.candidate c.args.values.now.items (c.requires.branch c.in-Branch.is) in
    omega (arith, next, known)

pub set-requires : goal.set-requires
set-requires c = (next_in c.args.lang.now c.requires.lawful c.args.c c.requires.candidate c.args.order.now c.args.values.now.items c.args.e.now c.len.result c.requires.order c.len.ensures.value c.requires.at (c.requires.branch c.in-Branch.is)).1

pub push-requires : goal.push-requires
push-requires c =
    let room = c.requires.branch c.in-Branch.is in
    let few = c.requires.lawful.few_variables in
    let short : length c.args.values.now.items < 128 = omega (arith, room, few) in
    (lit< tt, short)

-- the first value of the next variable
first_is : (c : After-range-first) → c.range-first.result.0 ≡ (range_of c.args.lang.now (next_of c.args.lang.now c.args.c c.args.values.now.items)).first
first_is c =
    c.range-first.ensures.first
    ∙ ap (λ v. (range_of c.args.lang.now v).first) (at_next c.args.lang.now c.requires.lawful c.args.c c.requires.candidate c.args.order.now c.args.values.now.items c.len.result c.requires.order c.len.ensures.value)

pub returns-in-Branch-clause-at : goal.returns-in-Branch-clause-at
returns-in-Branch-clause-at c =
    let first = first_is (goal.at.returns-in-Branch-clause-at c).After-range-first in
    let some = (next_range c.args.lang.now c.requires.lawful c.args.c c.requires.candidate c.args.values.now.items (c.requires.branch c.in-Branch.is)).some in
    pushed c.args.lang.now c.requires.lawful c.args.c c.requires.candidate c.args.order.now c.args.values.now.items c.push.new.self.items c.args.e.now c.set.new.self c.range-first.result.0 c.len.result
    c.requires.order c.len.ensures.value c.push.ensures.items c.set.ensures c.requires.at (c.requires.branch c.in-Branch.is)
    (may_follow c.args.lang.now c.requires.lawful c.args.c c.requires.candidate c.args.values.now.items c.range-first.result.0 (c.requires.branch c.in-Branch.is) (omega (arith, first)) (omega (arith, first, some)))

pub returns-in-Branch-clause-next : goal.returns-in-Branch-clause-next
returns-in-Branch-clause-next c =
    let first = first_is (goal.at.returns-in-Branch-clause-next c).After-range-first in
    ap (λ token. children c.args.lang.now c.args.c c.args.values.now.items token ++ later c.args.lang.now c.args.c c.args.values.now.items) c.in-Branch.is
    ∙ branch_next c.args.lang.now c.args.c c.requires.lawful c.requires.candidate c.args.values.now.items (c.requires.branch c.in-Branch.is)
    ∙ ap (λ (x : ℕ). ahead true c.args.lang.now c.args.c (c.args.values.now.items ++ x ∷ [])) (sym first)
    ∙ ap (ahead true c.args.lang.now c.args.c) (sym c.push.ensures.items)

pub returns-in-Branch-clause-fronts : goal.returns-in-Branch-clause-fronts
returns-in-Branch-clause-fronts c =
    fronts_pushed c.args.values.now.items c.push.new.self.items (length c.args.values.now.items + branches (c.args.token ∷ [])) c.range-first.result.0
    (ap (λ t. length c.args.values.now.items + branches (t ∷ [])) c.in-Branch.is) c.push.ensures.items

pub returns-in-Holds-clause-fronts : goal.returns-in-Holds-clause-fronts
returns-in-Holds-clause-fronts c = λ j low. (let front = c.go_on.ensures.fronts j low in let below = front.0 in (omega (arith, below), front.1))
