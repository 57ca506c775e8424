use Rattle.find_scope.proofs.Prelude.{◌≡◌, ℕ, ◌<◌, List, length, true, false, not, sym, ap, subst, ◌∙◌, arith, nat_lt, union, Halved, Got, then_got, is_empty, halve_within}
use Rattle.find_scope.proofs.Recursion.{asks_first, one_is_got, by_halves, goes_by_halves, first_after, some_found, first_is_shorter, second_is_shorter}
use Rattle.find_scope.proofs.plain.+halve_within.Goals as goal
use Rattle.find_scope.proofs.plain.+halve_within.Goals.{After-minus, After-len-in-Got}

-- a question that ends it
pub returns-in-Err : goal.returns-in-Err
returns-in-Err t c =
    c.in-Err.ensures (λ rest. halve_within (length c.args.set) c.args.base c.args.set false rest) ∙ sym (asks_first (length c.args.set) c.args.base c.args.set c.args.asks c.args.replies.now)

pub returns-then-len-lt2 : goal.returns-then-len-lt2
returns-then-len-lt2 t c =
    sym (one_is_got c.args.base c.args.set c.in-Ok.rest.now (omega arith))
    ∙ c.in-Ok.ensures (λ rest. halve_within (length c.args.set) c.args.base c.args.set false rest)
    ∙ sym (asks_first (length c.args.set) c.args.base c.args.set c.args.asks c.args.replies.now)

pub halve_within-requires : goal.halve_within-requires
halve_within-requires t c =
    let measured : length c.args.set ≡ t = c.decreases in
    let shorter : length c.minus.result < length c.args.set =
    second_is_shorter c.args.set c.first_half-first.result c.minus.result c.len.ensures.set (omega arith) c.first_half-first.ensures c.minus.ensures in
    (subst (λ (n : ℕ). length c.minus.result < n) measured shorter, tt)

pub halve_within-requires-in-Got : goal.halve_within-requires-in-Got
halve_within-requires-in-Got t c =
    let measured : length c.args.set ≡ t = c.decreases in
    let shorter : length c.first_half-first.result < length c.args.set = first_is_shorter c.args.set c.first_half-first.result (omega arith) c.first_half-first.ensures in
    (subst (λ (n : ℕ). length c.first_half-first.result < n) measured shorter, tt)

-- the halves that are computed, after the question
halved : (t : ℕ) (c : After-minus t) →
    by_halves c.args.base c.first_half-first.result c.minus.result c.in-Ok.rest.now ≡ halve_within (length c.args.set) c.args.base c.args.set c.args.asks c.args.replies.now
halved t c =
    sym (goes_by_halves c.args.base c.args.set c.first_half-first.result c.minus.result c.in-Ok.rest.now c.len.ensures.set (omega arith) c.first_half-first.ensures c.minus.ensures)
    ∙ c.in-Ok.ensures (λ rest. halve_within (length c.args.set) c.args.base c.args.set false rest)
    ∙ sym (asks_first (length c.args.set) c.args.base c.args.set c.args.asks c.args.replies.now)

-- where the second half has got a set, the first one goes on
second_got : (t : ℕ) (c : After-len-in-Got t) →
    first_after c.args.base c.first_half-first.result c.in-Got.found c.in-Got.left.now ≡ by_halves c.args.base c.first_half-first.result c.minus.result c.in-Ok.rest.now
second_got t c =
    ap (λ (x : Halved). then_got x (first_after c.args.base c.first_half-first.result)) c.in-Got.ensures
    ∙ (λ i. then_got (halve_within (length c.minus.result) (c.union.ensures i) c.minus.result true c.in-Ok.rest.now) (first_after c.args.base c.first_half-first.result))

-- what is asked and halved there is what is computed
first_is : (t : ℕ) (c : After-len-in-Got t) →
    halve_within (length c.first_half-first.result) c.union-in-Got.result c.first_half-first.result (nat_lt 0 c.len-in-Got.result) c.in-Got.left.now ≡
    halve_within (length c.first_half-first.result) (union c.args.base c.in-Got.found) c.first_half-first.result (not (is_empty c.in-Got.found)) c.in-Got.left.now
first_is t c =
    let some : nat_lt 0 c.len-in-Got.result ≡ not (is_empty c.in-Got.found) = ap (λ (n : ℕ). nat_lt 0 n) c.len-in-Got.ensures.count ∙ some_found c.in-Got.found in
    λ i. halve_within (length c.first_half-first.result) (c.union-in-Got.ensures i) c.first_half-first.result (some i) c.in-Got.left.now

pub returns-in-Wants : goal.returns-in-Wants
returns-in-Wants t c =
    ap (λ (x : Halved). then_got x (first_after c.args.base c.first_half-first.result)) c.in-Wants.ensures
    ∙ (λ i. then_got (halve_within (length c.minus.result) (c.union.ensures i) c.minus.result true c.in-Ok.rest.now) (first_after c.args.base c.first_half-first.result))
    ∙ halved t (goal.at.returns-in-Wants t c).After-minus

pub returns-in-Wants-halve_within : goal.returns-in-Wants-halve_within
returns-in-Wants-halve_within t c =
    ap (λ (x : Halved). then_got x (λ more last. Got (union c.in-Got.found more) last)) (c.in-Wants-halve_within.ensures ∙ first_is t (goal.at.returns-in-Wants-halve_within t c).After-len-in-Got) ∙ second_got t (goal.at.returns-in-Wants-halve_within t c).After-len-in-Got ∙ halved t (goal.at.returns-in-Wants-halve_within t c).After-minus

pub returns-in-Got-halve_within : goal.returns-in-Got-halve_within
returns-in-Got-halve_within t c =
    ap (λ (xs : List ℕ). Got xs c.in-Got-halve_within.last.now) c.union-in-Got-halve_within.ensures
    ∙ ap (λ (x : Halved). then_got x (λ more last. Got (union c.in-Got.found more) last)) (c.in-Got-halve_within.ensures ∙ first_is t (goal.at.returns-in-Got-halve_within t c).After-len-in-Got) ∙ second_got t (goal.at.returns-in-Got-halve_within t c).After-len-in-Got ∙ halved t (goal.at.returns-in-Got-halve_within t c).After-minus
