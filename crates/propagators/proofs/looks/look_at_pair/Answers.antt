use Rattle.propagators.proofs.Prelude.{◌≡◌, ◌<◌, ◌∙◌, ◌∷◌, ℕ, List, [], true, length, sym, ap, subst, refl, arith, slice_index_or, All, ◌==◌, bit_at, get_or_read, Language, Family, Arc, conditions, is_wanted, AreDifferent, arc_by, IsPairOf, Pair, HasMore, IsLooked, ones_of}
use Rattle.propagators.proofs.Standing.{stood_consistent, stood_dead}
use Rattle.propagators.proofs.Loose.{bounded_consistent}
use Rattle.propagators.proofs.Rounds.{dead_here}
use Rattle.propagators.proofs.Conditions.{arcs_small, arcs_within, arcs_different}
use Rattle.propagators.proofs.Visiting.{looked_over}
use Rattle.propagators.proofs.Beside.{narrowed_to, none_passes, beside_dead, beside_same, beside_fewer}
use Rattle.propagators.proofs.Lazy.{beside_lazy, capped}
use Rattle.propagators.proofs.Entailing.{entailed_under}
use Rattle.propagators.proofs.Looking.{pair_revised_at, pair_taken_in}
use Rattle.propagators.proofs.looks.look_at_pair.Goals as goal

none : Arc
none = record { scope = []; accepted = λ tuple. true }

-- the pair's variables are different ones of the language
different_in : (l : Language) (a : Arc) (p : Pair) → IsPairOf l a p → AreDifferent a.scope → AreDifferent (p.first ∷ p.second ∷ [])
different_in l a p is apart = subst AreDifferent is.scope apart

known_in : (l : Language) (a : Arc) (p : Pair) (f : Family) → IsPairOf l a p → All (λ v. v < length f) a.scope → All (λ v. v < length f) (p.first ∷ p.second ∷ [])
known_in l a p f is below = subst (λ (scope : List ℕ). All (λ v. v < length f) scope) is.scope below

pub beside-requires-clause-table : goal.beside-requires-clause-table
beside-requires-clause-table c = (c.requires.pair none).table

pub has_more-requires : goal.has_more-requires
has_more-requires c =
    known_in c.args.cons.now.lang.now (slice_index_or (conditions c.args.cons.now) c.args.i none) c.args.pair.now c.args.doms.now (c.requires.pair none) (arcs_within c.args.cons.now.lang.now c.args.cons.now.list.now c.args.cons.now.against c.requires.lawful c.requires.constraints c.args.doms.now c.requires.doms.family c.args.i none c.requires.low) 0 0 (omega arith)

pub has_more-requires-then-has_more : goal.has_more-requires-then-has_more
has_more-requires-then-has_more c =
    known_in c.args.cons.now.lang.now (slice_index_or (conditions c.args.cons.now) c.args.i none) c.args.pair.now c.args.doms.now (c.requires.pair none) (arcs_within c.args.cons.now.lang.now c.args.cons.now.list.now c.args.cons.now.against c.requires.lawful c.requires.constraints c.args.doms.now c.requires.doms.family c.args.i none c.requires.low) 1 0 (omega arith)

pub beside-requires-clause-first : goal.beside-requires-clause-first
beside-requires-clause-first c =
    known_in c.args.cons.now.lang.now (slice_index_or (conditions c.args.cons.now) c.args.i none) c.args.pair.now c.args.doms.now (c.requires.pair none) (arcs_within c.args.cons.now.lang.now c.args.cons.now.list.now c.args.cons.now.against c.requires.lawful c.requires.constraints c.args.doms.now c.requires.doms.family c.args.i none c.requires.low) 0 0 (omega arith)

pub beside-requires-clause-second : goal.beside-requires-clause-second
beside-requires-clause-second c =
    known_in c.args.cons.now.lang.now (slice_index_or (conditions c.args.cons.now) c.args.i none) c.args.pair.now c.args.doms.now (c.requires.pair none) (arcs_within c.args.cons.now.lang.now c.args.cons.now.list.now c.args.cons.now.against c.requires.lawful c.requires.constraints c.args.doms.now c.requires.doms.family c.args.i none c.requires.low) 1 0 (omega arith)

pub beside-requires-clause-small : goal.beside-requires-clause-small
beside-requires-clause-small c = λ v x h. (let low = c.requires.doms.family.values v x h in let few = c.requires.lawful.few_values in omega arith)

pub returns-then-has_more-2-clause-looked : goal.returns-then-has_more-2-clause-looked
returns-then-has_more-2-clause-looked c = λ e.
    looked_over (conditions c.args.cons.now) c.args.i c.args.waiting.now c.args.doms.now c.requires.doms.full (λ a low.
    (let pair = c.requires.pair a in
    let few = c.requires.lawful.few_values in
    stood_consistent c.args.cons.now.lang.now (slice_index_or (conditions c.args.cons.now) c.args.i a) c.args.pair.now c.args.doms.now pair c.requires.doms.family
    (bounded_consistent c.args.cons.now.lang.now.value_count (arc_by c.args.cons.now.lang.now pair.pairs c.args.pair.now) c.args.doms.now c.args.pair.now.bounds (omega arith)
    pair.bounds refl c.requires.doms.family.values (c.if-has_more.ensures.more refl) (c.if-has_more-2.ensures.more refl))))

pub returns-then-is_empty-clause-dead : goal.returns-then-is_empty-clause-dead
returns-then-is_empty-clause-dead c = λ e.
    dead_here (conditions c.args.cons.now) c.args.doms.now c.args.i none c.requires.low
    (stood_dead c.args.cons.now.lang.now (slice_index_or (conditions c.args.cons.now) c.args.i none) c.args.pair.now c.args.doms.now (c.requires.pair none) c.requires.doms.family
    (beside_dead c.args.cons.now.lang.now.value_count (arc_by c.args.cons.now.lang.now (c.requires.pair none).pairs c.args.pair.now) c.args.doms.now c.in-Some.u (λ x. is_wanted c.args.pair.now.holding (bit_at c.in-Some.row x == 1))
    (different_in c.args.cons.now.lang.now (slice_index_or (conditions c.args.cons.now) c.args.i none) c.args.pair.now (c.requires.pair none) (arcs_different c.args.cons.now.lang.now c.args.cons.now.list.now c.args.cons.now.against c.requires.lawful c.requires.constraints c.args.i none c.requires.low))
    (known_in c.args.cons.now.lang.now (slice_index_or (conditions c.args.cons.now) c.args.i none) c.args.pair.now c.args.doms.now (c.requires.pair none) (arcs_within c.args.cons.now.lang.now c.args.cons.now.list.now c.args.cons.now.against c.requires.lawful c.requires.constraints c.args.doms.now c.requires.doms.family c.args.i none c.requires.low))
    c.requires.doms.family.values (c.in-Some.ensures.beside (c.requires.pair none).pairs (c.requires.pair none).are c.requires.doms.family.values)
    (none_passes (slice_index_or c.args.doms.now c.in-Some.u []) (ones_of c.passing-values.result) (λ x. is_wanted c.args.pair.now.holding (bit_at c.in-Some.row x == 1)) c.passing-values.ensures c.if-is_empty.ensures)))

pub returns-then-not-cut-clause-looked : goal.returns-then-not-cut-clause-looked
returns-then-not-cut-clause-looked c = λ e.
    beside_same (conditions c.args.cons.now) c.args.i c.args.waiting.now c.args.doms.now c.cut.new.self
    (arcs_small c.args.cons.now.lang.now c.args.cons.now.list.now c.args.cons.now.against c.requires.lawful c.requires.constraints) c.requires.low c.requires.doms.full
    (λ a. pair_revised_at c.args.cons.now.lang.now (slice_index_or (conditions c.args.cons.now) c.args.i a) c.args.pair.now c.args.doms.now c.cut.new.self c.in-Some.u (λ x. is_wanted c.args.pair.now.holding (bit_at c.in-Some.row x == 1)) (c.requires.pair a) (arcs_different c.args.cons.now.lang.now c.args.cons.now.list.now c.args.cons.now.against c.requires.lawful c.requires.constraints c.args.i a c.requires.low)
    (arcs_within c.args.cons.now.lang.now c.args.cons.now.list.now c.args.cons.now.against c.requires.lawful c.requires.constraints c.args.doms.now c.requires.doms.family c.args.i a c.requires.low) c.requires.doms.family (c.in-Some.ensures.beside (c.requires.pair a).pairs (c.requires.pair a).are c.requires.doms.family.values)
    (narrowed_to c.args.doms.now c.cut.new.self c.in-Some.u c.passing-values.result (λ x. is_wanted c.args.pair.now.holding (bit_at c.in-Some.row x == 1)) c.in-Some.ensures.known c.passing-values.ensures c.if-is_empty.ensures c.cut.ensures.is))
    (c.if-not-cut.ensures.same refl)

pub returns-then-has_more-3-clause-looked : goal.returns-then-has_more-3-clause-looked
returns-then-has_more-3-clause-looked c = λ e.
    let known = c.in-Some.ensures.known in
    let size = c.requires.doms.family.size in
    let few = c.requires.lawful.few_variables in
    let wide = c.args.plan.now.limits_long in
    let at = c.from.ensures in
    let limit : c.index-limit.result.now ≡ slice_index_or c.args.plan.now.limits.items c.in-Some.u 0 =
    get_or_read c.args.plan.now.limits.items c.from.result c.index-limit.result.now (omega arith) c.index-limit.ensures 0 ∙ ap (λ (v : ℕ). slice_index_or c.args.plan.now.limits.items v 0) c.from.ensures in
    let more : HasMore (slice_index_or c.args.plan.now.limits.items c.in-Some.u 0) (slice_index_or c.cut.new.self c.in-Some.u []) =
    subst (λ (most : ℕ). HasMore most (slice_index_or c.cut.new.self c.in-Some.u [])) (sym c.if-limit-eq1.true ∙ limit) (c.if-has_more-3.ensures.more refl) in
    beside_lazy c.args.cons.now.lang.now (conditions c.args.cons.now) c.args.i c.args.waiting.now c.args.doms.now c.cut.new.self c.in-Some.u (λ x. is_wanted c.args.pair.now.holding (bit_at c.in-Some.row x == 1)) c.args.plan.now.limits.items (let few = c.requires.lawful.few_values in omega arith)
    (arcs_small c.args.cons.now.lang.now c.args.cons.now.list.now c.args.cons.now.against c.requires.lawful c.requires.constraints)
    (arcs_different c.args.cons.now.lang.now c.args.cons.now.list.now c.args.cons.now.against c.requires.lawful c.requires.constraints) c.requires.low c.requires.doms.full
    (λ a. pair_revised_at c.args.cons.now.lang.now (slice_index_or (conditions c.args.cons.now) c.args.i a) c.args.pair.now c.args.doms.now c.cut.new.self c.in-Some.u (λ x. is_wanted c.args.pair.now.holding (bit_at c.in-Some.row x == 1)) (c.requires.pair a) (arcs_different c.args.cons.now.lang.now c.args.cons.now.list.now c.args.cons.now.against c.requires.lawful c.requires.constraints c.args.i a c.requires.low)
    (arcs_within c.args.cons.now.lang.now c.args.cons.now.list.now c.args.cons.now.against c.requires.lawful c.requires.constraints c.args.doms.now c.requires.doms.family c.args.i a c.requires.low) c.requires.doms.family (c.in-Some.ensures.beside (c.requires.pair a).pairs (c.requires.pair a).are c.requires.doms.family.values)
    (narrowed_to c.args.doms.now c.cut.new.self c.in-Some.u c.passing-values.result (λ x. is_wanted c.args.pair.now.holding (bit_at c.in-Some.row x == 1)) c.in-Some.ensures.known c.passing-values.ensures c.if-is_empty.ensures c.cut.ensures.is))
    (narrowed_to c.args.doms.now c.cut.new.self c.in-Some.u c.passing-values.result (λ x. is_wanted c.args.pair.now.holding (bit_at c.in-Some.row x == 1)) c.in-Some.ensures.known c.passing-values.ensures c.if-is_empty.ensures c.cut.ensures.is) (c.if-not-cut.ensures.less refl) c.requires.doms.family more
    (λ k a low there. capped c.args.cons.now.lang.now (conditions c.args.cons.now) c.args.plan.now.briefs.items c.args.plan.now.limits.items c.requires.plan.plan.briefs c.requires.plan.plan.limits k c.in-Some.u a low (let room = c.requires.plan.room in omega arith) there more.low)

pub returns-then-has_more-4-clause-looked : goal.returns-then-has_more-4-clause-looked
returns-then-has_more-4-clause-looked c = λ e.
    let known = c.in-Some.ensures.known in
    let size = c.requires.doms.family.size in
    let few = c.requires.lawful.few_variables in
    let wide = c.args.plan.now.limits_long in
    let at = c.from.ensures in
    let limit : c.index-limit.result.now ≡ slice_index_or c.args.plan.now.limits.items c.in-Some.u 0 =
    get_or_read c.args.plan.now.limits.items c.from.result c.index-limit.result.now (omega arith) c.index-limit.ensures 0 ∙ ap (λ (v : ℕ). slice_index_or c.args.plan.now.limits.items v 0) c.from.ensures in
    let more : HasMore (slice_index_or c.args.plan.now.limits.items c.in-Some.u 0) (slice_index_or c.cut.new.self c.in-Some.u []) =
    subst (λ (most : ℕ). HasMore most (slice_index_or c.cut.new.self c.in-Some.u [])) limit (c.if-has_more-4.ensures.more refl) in
    beside_lazy c.args.cons.now.lang.now (conditions c.args.cons.now) c.args.i c.args.waiting.now c.args.doms.now c.cut.new.self c.in-Some.u (λ x. is_wanted c.args.pair.now.holding (bit_at c.in-Some.row x == 1)) c.args.plan.now.limits.items (let few = c.requires.lawful.few_values in omega arith)
    (arcs_small c.args.cons.now.lang.now c.args.cons.now.list.now c.args.cons.now.against c.requires.lawful c.requires.constraints)
    (arcs_different c.args.cons.now.lang.now c.args.cons.now.list.now c.args.cons.now.against c.requires.lawful c.requires.constraints) c.requires.low c.requires.doms.full
    (λ a. pair_revised_at c.args.cons.now.lang.now (slice_index_or (conditions c.args.cons.now) c.args.i a) c.args.pair.now c.args.doms.now c.cut.new.self c.in-Some.u (λ x. is_wanted c.args.pair.now.holding (bit_at c.in-Some.row x == 1)) (c.requires.pair a) (arcs_different c.args.cons.now.lang.now c.args.cons.now.list.now c.args.cons.now.against c.requires.lawful c.requires.constraints c.args.i a c.requires.low)
    (arcs_within c.args.cons.now.lang.now c.args.cons.now.list.now c.args.cons.now.against c.requires.lawful c.requires.constraints c.args.doms.now c.requires.doms.family c.args.i a c.requires.low) c.requires.doms.family (c.in-Some.ensures.beside (c.requires.pair a).pairs (c.requires.pair a).are c.requires.doms.family.values)
    (narrowed_to c.args.doms.now c.cut.new.self c.in-Some.u c.passing-values.result (λ x. is_wanted c.args.pair.now.holding (bit_at c.in-Some.row x == 1)) c.in-Some.ensures.known c.passing-values.ensures c.if-is_empty.ensures c.cut.ensures.is))
    (narrowed_to c.args.doms.now c.cut.new.self c.in-Some.u c.passing-values.result (λ x. is_wanted c.args.pair.now.holding (bit_at c.in-Some.row x == 1)) c.in-Some.ensures.known c.passing-values.ensures c.if-is_empty.ensures c.cut.ensures.is) (c.if-not-cut.ensures.less refl) c.requires.doms.family more
    (λ k a low there. capped c.args.cons.now.lang.now (conditions c.args.cons.now) c.args.plan.now.briefs.items c.args.plan.now.limits.items c.requires.plan.plan.briefs c.requires.plan.plan.limits k c.in-Some.u a low (let room = c.requires.plan.room in omega arith) there more.low)

pub returns-clause-looked : goal.returns-clause-looked
returns-clause-looked c = λ e.
    subst (λ (next : List ℕ). IsLooked (conditions c.args.cons.now) c.args.i c.args.waiting.now next c.args.doms.now c.cut.new.self) (sym c.with.ensures)
    (beside_fewer (conditions c.args.cons.now) c.args.i c.args.waiting.now c.args.doms.now c.cut.new.self c.in-Some.u (λ x. is_wanted c.args.pair.now.holding (bit_at c.in-Some.row x == 1))
    (arcs_small c.args.cons.now.lang.now c.args.cons.now.list.now c.args.cons.now.against c.requires.lawful c.requires.constraints) c.requires.low c.requires.doms.full
    (λ a. pair_revised_at c.args.cons.now.lang.now (slice_index_or (conditions c.args.cons.now) c.args.i a) c.args.pair.now c.args.doms.now c.cut.new.self c.in-Some.u (λ x. is_wanted c.args.pair.now.holding (bit_at c.in-Some.row x == 1)) (c.requires.pair a) (arcs_different c.args.cons.now.lang.now c.args.cons.now.list.now c.args.cons.now.against c.requires.lawful c.requires.constraints c.args.i a c.requires.low)
    (arcs_within c.args.cons.now.lang.now c.args.cons.now.list.now c.args.cons.now.against c.requires.lawful c.requires.constraints c.args.doms.now c.requires.doms.family c.args.i a c.requires.low) c.requires.doms.family (c.in-Some.ensures.beside (c.requires.pair a).pairs (c.requires.pair a).are c.requires.doms.family.values)
    (narrowed_to c.args.doms.now c.cut.new.self c.in-Some.u c.passing-values.result (λ x. is_wanted c.args.pair.now.holding (bit_at c.in-Some.row x == 1)) c.in-Some.ensures.known c.passing-values.ensures c.if-is_empty.ensures c.cut.ensures.is))
    (narrowed_to c.args.doms.now c.cut.new.self c.in-Some.u c.passing-values.result (λ x. is_wanted c.args.pair.now.holding (bit_at c.in-Some.row x == 1)) c.in-Some.ensures.known c.passing-values.ensures c.if-is_empty.ensures c.cut.ensures.is) (c.if-not-cut.ensures.less refl))

pub returns-in_default-clause-entailed : goal.returns-in_default-clause-entailed
returns-in_default-clause-entailed c = λ e are. entailed_under (conditions c.args.cons.now) c.args.plan.now c.args.entailed.now c.args.doms.now c.look_at_both.new.doms (c.look_at_both.ensures.looked e).underway are

pub returns-then-not-cut-clause-entailed : goal.returns-then-not-cut-clause-entailed
returns-then-not-cut-clause-entailed c = λ e are.
    pair_taken_in c.args.cons.now.lang.now (conditions c.args.cons.now) c.args.plan.now c.args.entailed.now c.add.new.self c.args.i c.args.pair.now c.args.doms.now c.cut.new.self c.in-Some.u (λ x. is_wanted c.args.pair.now.holding (bit_at c.in-Some.row x == 1))
    c.requires.pair (λ a. arcs_different c.args.cons.now.lang.now c.args.cons.now.list.now c.args.cons.now.against c.requires.lawful c.requires.constraints c.args.i a c.requires.low)
    (λ a. arcs_within c.args.cons.now.lang.now c.args.cons.now.list.now c.args.cons.now.against c.requires.lawful c.requires.constraints c.args.doms.now c.requires.doms.family c.args.i a c.requires.low)
    c.requires.doms.family c.in-Some.ensures.beside (narrowed_to c.args.doms.now c.cut.new.self c.in-Some.u c.passing-values.result (λ x. is_wanted c.args.pair.now.holding (bit_at c.in-Some.row x == 1)) c.in-Some.ensures.known c.passing-values.ensures c.if-is_empty.ensures c.cut.ensures.is) c.add.ensures.noted c.add.ensures.struck are

pub returns-then-has_more-3-clause-entailed : goal.returns-then-has_more-3-clause-entailed
returns-then-has_more-3-clause-entailed c = λ e are.
    pair_taken_in c.args.cons.now.lang.now (conditions c.args.cons.now) c.args.plan.now c.args.entailed.now c.add.new.self c.args.i c.args.pair.now c.args.doms.now c.cut.new.self c.in-Some.u (λ x. is_wanted c.args.pair.now.holding (bit_at c.in-Some.row x == 1))
    c.requires.pair (λ a. arcs_different c.args.cons.now.lang.now c.args.cons.now.list.now c.args.cons.now.against c.requires.lawful c.requires.constraints c.args.i a c.requires.low)
    (λ a. arcs_within c.args.cons.now.lang.now c.args.cons.now.list.now c.args.cons.now.against c.requires.lawful c.requires.constraints c.args.doms.now c.requires.doms.family c.args.i a c.requires.low)
    c.requires.doms.family c.in-Some.ensures.beside (narrowed_to c.args.doms.now c.cut.new.self c.in-Some.u c.passing-values.result (λ x. is_wanted c.args.pair.now.holding (bit_at c.in-Some.row x == 1)) c.in-Some.ensures.known c.passing-values.ensures c.if-is_empty.ensures c.cut.ensures.is) c.add.ensures.noted c.add.ensures.struck are

pub returns-then-has_more-4-clause-entailed : goal.returns-then-has_more-4-clause-entailed
returns-then-has_more-4-clause-entailed c = λ e are.
    pair_taken_in c.args.cons.now.lang.now (conditions c.args.cons.now) c.args.plan.now c.args.entailed.now c.add.new.self c.args.i c.args.pair.now c.args.doms.now c.cut.new.self c.in-Some.u (λ x. is_wanted c.args.pair.now.holding (bit_at c.in-Some.row x == 1))
    c.requires.pair (λ a. arcs_different c.args.cons.now.lang.now c.args.cons.now.list.now c.args.cons.now.against c.requires.lawful c.requires.constraints c.args.i a c.requires.low)
    (λ a. arcs_within c.args.cons.now.lang.now c.args.cons.now.list.now c.args.cons.now.against c.requires.lawful c.requires.constraints c.args.doms.now c.requires.doms.family c.args.i a c.requires.low)
    c.requires.doms.family c.in-Some.ensures.beside (narrowed_to c.args.doms.now c.cut.new.self c.in-Some.u c.passing-values.result (λ x. is_wanted c.args.pair.now.holding (bit_at c.in-Some.row x == 1)) c.in-Some.ensures.known c.passing-values.ensures c.if-is_empty.ensures c.cut.ensures.is) c.add.ensures.noted c.add.ensures.struck are

pub returns-clause-entailed : goal.returns-clause-entailed
returns-clause-entailed c = λ e are.
    pair_taken_in c.args.cons.now.lang.now (conditions c.args.cons.now) c.args.plan.now c.args.entailed.now c.add.new.self c.args.i c.args.pair.now c.args.doms.now c.cut.new.self c.in-Some.u (λ x. is_wanted c.args.pair.now.holding (bit_at c.in-Some.row x == 1))
    c.requires.pair (λ a. arcs_different c.args.cons.now.lang.now c.args.cons.now.list.now c.args.cons.now.against c.requires.lawful c.requires.constraints c.args.i a c.requires.low)
    (λ a. arcs_within c.args.cons.now.lang.now c.args.cons.now.list.now c.args.cons.now.against c.requires.lawful c.requires.constraints c.args.doms.now c.requires.doms.family c.args.i a c.requires.low)
    c.requires.doms.family c.in-Some.ensures.beside (narrowed_to c.args.doms.now c.cut.new.self c.in-Some.u c.passing-values.result (λ x. is_wanted c.args.pair.now.holding (bit_at c.in-Some.row x == 1)) c.in-Some.ensures.known c.passing-values.ensures c.if-is_empty.ensures c.cut.ensures.is) c.add.ensures.noted c.add.ensures.struck are
