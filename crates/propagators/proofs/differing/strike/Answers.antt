use Rattle.propagators.proofs.Prelude.{◌≡◌, ◌∙◌, ℕ, List, [], length, min, sym, ap, subst, refl, arith, slice_index_or, get_or_read, conditions, HasApart, HasMore, IsLooked, ones_of}
use Rattle.propagators.proofs.Beside.{narrowed_to, none_passes}
use Rattle.propagators.proofs.Striking.{but, struck_known, struck_dead, struck_entailed, struck_same, struck_fewer, struck_lazy}
use Rattle.propagators.proofs.differing.strike.Goals as goal

pub others-values-requires-clause-known : goal.others-values-requires-clause-known
others-values-requires-clause-known c =
    (let by : HasApart c.args.plan.now.briefs.items (min (length c.args.plan.now.briefs.items) (length (conditions c.args.cons.now))) c.args.v c.args.u = (let few = c.requires.lawful.few_variables in let size = c.requires.doms.family.size in let known = c.requires.value.known in c.requires.plan.plan.apart c.args.v c.args.u (omega arith) c.requires.apart) in struck_known c.args.cons.now.lang.now c.args.cons.now.list.now c.args.cons.now.against c.requires.lawful c.requires.constraints c.args.plan.now c.requires.plan c.args.doms.now c.requires.doms c.args.v c.args.x c.args.u by.place c.requires.value (let low = by.low in omega arith) (let low = by.low in omega arith) by.is)

pub returns-then-is_empty-clause-dead : goal.returns-then-is_empty-clause-dead
returns-then-is_empty-clause-dead c = λ e.
    (let by : HasApart c.args.plan.now.briefs.items (min (length c.args.plan.now.briefs.items) (length (conditions c.args.cons.now))) c.args.v c.args.u = (let few = c.requires.lawful.few_variables in let size = c.requires.doms.family.size in let known = c.requires.value.known in c.requires.plan.plan.apart c.args.v c.args.u (omega arith) c.requires.apart) in struck_dead c.args.cons.now.lang.now c.args.cons.now.list.now c.args.cons.now.against c.requires.lawful c.requires.constraints c.args.plan.now c.requires.plan c.args.doms.now c.requires.doms c.args.v c.args.x c.args.u by.place c.requires.value (let low = by.low in omega arith) (let low = by.low in omega arith) by.is
    (none_passes (slice_index_or c.args.doms.now c.args.u []) (ones_of c.others-values.result) (but c.args.x) c.others-values.ensures c.if-is_empty.ensures))

pub returns-then-not-cut-clause-looked : goal.returns-then-not-cut-clause-looked
returns-then-not-cut-clause-looked c = λ e k room low at.
    (let by : HasApart c.args.plan.now.briefs.items (min (length c.args.plan.now.briefs.items) (length (conditions c.args.cons.now))) c.args.v c.args.u = (let few = c.requires.lawful.few_variables in let size = c.requires.doms.family.size in let known = c.requires.value.known in c.requires.plan.plan.apart c.args.v c.args.u (omega arith) c.requires.apart) in struck_same c.args.cons.now.lang.now c.args.cons.now.list.now c.args.cons.now.against c.requires.lawful c.requires.constraints c.args.plan.now c.requires.plan c.args.doms.now c.requires.doms c.args.v c.args.x c.args.u k c.requires.value room low at c.cut.new.self (narrowed_to c.args.doms.now c.cut.new.self c.args.u c.others-values.result (but c.args.x) (struck_known c.args.cons.now.lang.now c.args.cons.now.list.now c.args.cons.now.against c.requires.lawful c.requires.constraints c.args.plan.now c.requires.plan c.args.doms.now c.requires.doms c.args.v c.args.x c.args.u by.place c.requires.value (let low = by.low in omega arith) (let low = by.low in omega arith) by.is) c.others-values.ensures c.if-is_empty.ensures c.cut.ensures.is) c.args.waiting.now (c.if-not-cut.ensures.same refl))

pub returns-then-not-cut-clause-entailed : goal.returns-then-not-cut-clause-entailed
returns-then-not-cut-clause-entailed c = λ e k a room low at.
    (let by : HasApart c.args.plan.now.briefs.items (min (length c.args.plan.now.briefs.items) (length (conditions c.args.cons.now))) c.args.v c.args.u = (let few = c.requires.lawful.few_variables in let size = c.requires.doms.family.size in let known = c.requires.value.known in c.requires.plan.plan.apart c.args.v c.args.u (omega arith) c.requires.apart) in struck_entailed c.args.cons.now.lang.now c.args.cons.now.list.now c.args.cons.now.against c.requires.lawful c.requires.constraints c.args.plan.now c.requires.plan c.args.doms.now c.requires.doms c.args.v c.args.x c.args.u k c.requires.value room low at c.cut.new.self (narrowed_to c.args.doms.now c.cut.new.self c.args.u c.others-values.result (but c.args.x) (struck_known c.args.cons.now.lang.now c.args.cons.now.list.now c.args.cons.now.against c.requires.lawful c.requires.constraints c.args.plan.now c.requires.plan c.args.doms.now c.requires.doms c.args.v c.args.x c.args.u by.place c.requires.value (let low = by.low in omega arith) (let low = by.low in omega arith) by.is) c.others-values.ensures c.if-is_empty.ensures c.cut.ensures.is) a)

pub returns-then-has_more-clause-looked : goal.returns-then-has_more-clause-looked
returns-then-has_more-clause-looked c = λ e k room low at.
    (let by : HasApart c.args.plan.now.briefs.items (min (length c.args.plan.now.briefs.items) (length (conditions c.args.cons.now))) c.args.v c.args.u = (let few = c.requires.lawful.few_variables in let size = c.requires.doms.family.size in let known = c.requires.value.known in c.requires.plan.plan.apart c.args.v c.args.u (omega arith) c.requires.apart) in let limit : c.index-limit.result.now ≡ slice_index_or c.args.plan.now.limits.items c.args.u 0 =
    (let wide = c.args.plan.now.limits_long in let at = c.from.ensures in let few = c.requires.lawful.few_variables in let size = c.requires.doms.family.size in let here = struck_known c.args.cons.now.lang.now c.args.cons.now.list.now c.args.cons.now.against c.requires.lawful c.requires.constraints c.args.plan.now c.requires.plan c.args.doms.now c.requires.doms c.args.v c.args.x c.args.u by.place c.requires.value (let low = by.low in omega arith) (let low = by.low in omega arith) by.is in
    get_or_read c.args.plan.now.limits.items c.from.result c.index-limit.result.now (omega arith) c.index-limit.ensures 0 ∙ ap (λ (v : ℕ). slice_index_or c.args.plan.now.limits.items v 0) c.from.ensures) in
    let more : HasMore (slice_index_or c.args.plan.now.limits.items c.args.u 0) (slice_index_or c.cut.new.self c.args.u []) =
    subst (λ (most : ℕ). HasMore most (slice_index_or c.cut.new.self c.args.u [])) (sym c.if-limit-eq1.true ∙ limit) (c.if-has_more.ensures.more refl) in
    struck_lazy c.args.cons.now.lang.now c.args.cons.now.list.now c.args.cons.now.against c.requires.lawful c.requires.constraints c.args.plan.now c.requires.plan c.args.doms.now c.requires.doms c.args.v c.args.x c.args.u k c.requires.value room low at c.cut.new.self (narrowed_to c.args.doms.now c.cut.new.self c.args.u c.others-values.result (but c.args.x) (struck_known c.args.cons.now.lang.now c.args.cons.now.list.now c.args.cons.now.against c.requires.lawful c.requires.constraints c.args.plan.now c.requires.plan c.args.doms.now c.requires.doms c.args.v c.args.x c.args.u by.place c.requires.value (let low = by.low in omega arith) (let low = by.low in omega arith) by.is) c.others-values.ensures c.if-is_empty.ensures c.cut.ensures.is) c.args.waiting.now (c.if-not-cut.ensures.less refl) more)

pub returns-then-has_more-clause-entailed : goal.returns-then-has_more-clause-entailed
returns-then-has_more-clause-entailed c = λ e k a room low at.
    (let by : HasApart c.args.plan.now.briefs.items (min (length c.args.plan.now.briefs.items) (length (conditions c.args.cons.now))) c.args.v c.args.u = (let few = c.requires.lawful.few_variables in let size = c.requires.doms.family.size in let known = c.requires.value.known in c.requires.plan.plan.apart c.args.v c.args.u (omega arith) c.requires.apart) in struck_entailed c.args.cons.now.lang.now c.args.cons.now.list.now c.args.cons.now.against c.requires.lawful c.requires.constraints c.args.plan.now c.requires.plan c.args.doms.now c.requires.doms c.args.v c.args.x c.args.u k c.requires.value room low at c.cut.new.self (narrowed_to c.args.doms.now c.cut.new.self c.args.u c.others-values.result (but c.args.x) (struck_known c.args.cons.now.lang.now c.args.cons.now.list.now c.args.cons.now.against c.requires.lawful c.requires.constraints c.args.plan.now c.requires.plan c.args.doms.now c.requires.doms c.args.v c.args.x c.args.u by.place c.requires.value (let low = by.low in omega arith) (let low = by.low in omega arith) by.is) c.others-values.ensures c.if-is_empty.ensures c.cut.ensures.is) a)

pub returns-then-has_more-2-clause-looked : goal.returns-then-has_more-2-clause-looked
returns-then-has_more-2-clause-looked c = λ e k room low at.
    (let by : HasApart c.args.plan.now.briefs.items (min (length c.args.plan.now.briefs.items) (length (conditions c.args.cons.now))) c.args.v c.args.u = (let few = c.requires.lawful.few_variables in let size = c.requires.doms.family.size in let known = c.requires.value.known in c.requires.plan.plan.apart c.args.v c.args.u (omega arith) c.requires.apart) in let limit : c.index-limit.result.now ≡ slice_index_or c.args.plan.now.limits.items c.args.u 0 =
    (let wide = c.args.plan.now.limits_long in let at = c.from.ensures in let few = c.requires.lawful.few_variables in let size = c.requires.doms.family.size in let here = struck_known c.args.cons.now.lang.now c.args.cons.now.list.now c.args.cons.now.against c.requires.lawful c.requires.constraints c.args.plan.now c.requires.plan c.args.doms.now c.requires.doms c.args.v c.args.x c.args.u by.place c.requires.value (let low = by.low in omega arith) (let low = by.low in omega arith) by.is in
    get_or_read c.args.plan.now.limits.items c.from.result c.index-limit.result.now (omega arith) c.index-limit.ensures 0 ∙ ap (λ (v : ℕ). slice_index_or c.args.plan.now.limits.items v 0) c.from.ensures) in
    let more : HasMore (slice_index_or c.args.plan.now.limits.items c.args.u 0) (slice_index_or c.cut.new.self c.args.u []) =
    subst (λ (most : ℕ). HasMore most (slice_index_or c.cut.new.self c.args.u [])) (limit) (c.if-has_more-2.ensures.more refl) in
    struck_lazy c.args.cons.now.lang.now c.args.cons.now.list.now c.args.cons.now.against c.requires.lawful c.requires.constraints c.args.plan.now c.requires.plan c.args.doms.now c.requires.doms c.args.v c.args.x c.args.u k c.requires.value room low at c.cut.new.self (narrowed_to c.args.doms.now c.cut.new.self c.args.u c.others-values.result (but c.args.x) (struck_known c.args.cons.now.lang.now c.args.cons.now.list.now c.args.cons.now.against c.requires.lawful c.requires.constraints c.args.plan.now c.requires.plan c.args.doms.now c.requires.doms c.args.v c.args.x c.args.u by.place c.requires.value (let low = by.low in omega arith) (let low = by.low in omega arith) by.is) c.others-values.ensures c.if-is_empty.ensures c.cut.ensures.is) c.args.waiting.now (c.if-not-cut.ensures.less refl) more)

pub returns-then-has_more-2-clause-entailed : goal.returns-then-has_more-2-clause-entailed
returns-then-has_more-2-clause-entailed c = λ e k a room low at.
    (let by : HasApart c.args.plan.now.briefs.items (min (length c.args.plan.now.briefs.items) (length (conditions c.args.cons.now))) c.args.v c.args.u = (let few = c.requires.lawful.few_variables in let size = c.requires.doms.family.size in let known = c.requires.value.known in c.requires.plan.plan.apart c.args.v c.args.u (omega arith) c.requires.apart) in struck_entailed c.args.cons.now.lang.now c.args.cons.now.list.now c.args.cons.now.against c.requires.lawful c.requires.constraints c.args.plan.now c.requires.plan c.args.doms.now c.requires.doms c.args.v c.args.x c.args.u k c.requires.value room low at c.cut.new.self (narrowed_to c.args.doms.now c.cut.new.self c.args.u c.others-values.result (but c.args.x) (struck_known c.args.cons.now.lang.now c.args.cons.now.list.now c.args.cons.now.against c.requires.lawful c.requires.constraints c.args.plan.now c.requires.plan c.args.doms.now c.requires.doms c.args.v c.args.x c.args.u by.place c.requires.value (let low = by.low in omega arith) (let low = by.low in omega arith) by.is) c.others-values.ensures c.if-is_empty.ensures c.cut.ensures.is) a)

pub returns-clause-looked : goal.returns-clause-looked
returns-clause-looked c = λ e k room low at.
    subst (λ (next : List ℕ). IsLooked (conditions c.args.cons.now) k c.args.waiting.now next c.args.doms.now c.cut.new.self) (sym c.with.ensures)
    (let by : HasApart c.args.plan.now.briefs.items (min (length c.args.plan.now.briefs.items) (length (conditions c.args.cons.now))) c.args.v c.args.u = (let few = c.requires.lawful.few_variables in let size = c.requires.doms.family.size in let known = c.requires.value.known in c.requires.plan.plan.apart c.args.v c.args.u (omega arith) c.requires.apart) in struck_fewer c.args.cons.now.lang.now c.args.cons.now.list.now c.args.cons.now.against c.requires.lawful c.requires.constraints c.args.plan.now c.requires.plan c.args.doms.now c.requires.doms c.args.v c.args.x c.args.u k c.requires.value room low at c.cut.new.self (narrowed_to c.args.doms.now c.cut.new.self c.args.u c.others-values.result (but c.args.x) (struck_known c.args.cons.now.lang.now c.args.cons.now.list.now c.args.cons.now.against c.requires.lawful c.requires.constraints c.args.plan.now c.requires.plan c.args.doms.now c.requires.doms c.args.v c.args.x c.args.u by.place c.requires.value (let low = by.low in omega arith) (let low = by.low in omega arith) by.is) c.others-values.ensures c.if-is_empty.ensures c.cut.ensures.is) c.args.waiting.now (c.if-not-cut.ensures.less refl))

pub returns-clause-entailed : goal.returns-clause-entailed
returns-clause-entailed c = λ e k a room low at.
    (let by : HasApart c.args.plan.now.briefs.items (min (length c.args.plan.now.briefs.items) (length (conditions c.args.cons.now))) c.args.v c.args.u = (let few = c.requires.lawful.few_variables in let size = c.requires.doms.family.size in let known = c.requires.value.known in c.requires.plan.plan.apart c.args.v c.args.u (omega arith) c.requires.apart) in struck_entailed c.args.cons.now.lang.now c.args.cons.now.list.now c.args.cons.now.against c.requires.lawful c.requires.constraints c.args.plan.now c.requires.plan c.args.doms.now c.requires.doms c.args.v c.args.x c.args.u k c.requires.value room low at c.cut.new.self (narrowed_to c.args.doms.now c.cut.new.self c.args.u c.others-values.result (but c.args.x) (struck_known c.args.cons.now.lang.now c.args.cons.now.list.now c.args.cons.now.against c.requires.lawful c.requires.constraints c.args.plan.now c.requires.plan c.args.doms.now c.requires.doms c.args.v c.args.x c.args.u by.place c.requires.value (let low = by.low in omega arith) (let low = by.low in omega arith) by.is) c.others-values.ensures c.if-is_empty.ensures c.cut.ensures.is) a)
