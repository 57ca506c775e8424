use Rattle.propagators.proofs.Prelude.{◌∙◌, ℕ, List, sym, ap, subst, refl, arith, slice_index_or, slice_set, not-true, conditions, ones_of, IsLooked, firsts_on, with_member, not-false}
use Rattle.rel_table.specs.Relation.{place}
use Rattle.propagators.proofs.Along.{along_here, look_dead, look_same, look_fewer, look_entailed}
use Rattle.propagators.proofs.looks.look_along.Goals as goal

pub going_along-values-requires-clause-below : goal.going_along-values-requires-clause-below
going_along-values-requires-clause-below c = λ v x there. (let values = c.table_on-table.ensures.values in let small = c.requires.doms.family.values v x there in omega arith)

pub going_along-values-requires-clause-first : goal.going_along-values-requires-clause-first
going_along-values-requires-clause-first c =
    c.requires.first ∙ (λ i. place (sym c.table_on-table.ensures.values i) (slice_set (firsts_on c.args.doms.now (sym c.requires.scope i)) c.args.opening.place 0))

pub returns-then-is_empty-clause-dead : goal.returns-then-is_empty-clause-dead
returns-then-is_empty-clause-dead c = λ e.
    look_dead c.args.cons.now.lang.now c.args.cons.now.list.now c.args.cons.now.against c.requires.condition.lawful c.requires.condition.constraints c.args.i c.requires.condition.low c.args.c c.args.holding c.requires.condition.is c.args.doms.now c.requires.doms.family c.requires.doms.full c.args.opening.place c.requires.place c.requires.fixed (ones_of c.going_along-values.result)
    (along_here c.args.cons.now.lang.now c.args.c c.args.holding c.table_on-table.result.now c.args.doms.now c.args.scope.now (ones_of c.going_along-values.result) c.requires.scope c.args.opening.place
    c.table_on-table.ensures.values c.table_on-table.ensures.agrees c.requires.doms.family c.going_along-values.ensures)
    (not-true _ (sym c.if-is_empty.ensures))

pub returns-then-not-cut-clause-looked : goal.returns-then-not-cut-clause-looked
returns-then-not-cut-clause-looked c = λ e.
    look_same c.args.cons.now.lang.now c.args.cons.now.list.now c.args.cons.now.against c.requires.condition.lawful c.requires.condition.constraints c.args.i c.requires.condition.low c.args.c c.args.holding c.requires.condition.is c.args.doms.now c.requires.doms.family c.requires.doms.full c.args.opening.place c.requires.place c.requires.fixed (ones_of c.going_along-values.result)
    (along_here c.args.cons.now.lang.now c.args.c c.args.holding c.table_on-table.result.now c.args.doms.now c.args.scope.now (ones_of c.going_along-values.result) c.requires.scope c.args.opening.place
    c.table_on-table.ensures.values c.table_on-table.ensures.agrees c.requires.doms.family c.going_along-values.ensures)
    (not-false _ (sym c.if-is_empty.ensures)) c.cut.new.self (c.cut.ensures.is ∙ ap (λ (scope : List ℕ). slice_set c.args.doms.now (slice_index_or scope c.args.opening.place 0) (ones_of c.going_along-values.result)) c.requires.scope) c.args.waiting.now (c.if-not-cut.ensures.same refl)

pub returns-then-not-cut-clause-entailed : goal.returns-then-not-cut-clause-entailed
returns-then-not-cut-clause-entailed c = λ e p are.
    look_entailed c.args.cons.now.lang.now c.args.cons.now.list.now c.args.cons.now.against c.requires.condition.lawful c.requires.condition.constraints c.args.i c.requires.condition.low c.args.c c.args.holding c.requires.condition.is c.args.doms.now c.requires.doms.family c.requires.doms.full c.args.opening.place c.requires.place c.requires.fixed (ones_of c.going_along-values.result)
    (along_here c.args.cons.now.lang.now c.args.c c.args.holding c.table_on-table.result.now c.args.doms.now c.args.scope.now (ones_of c.going_along-values.result) c.requires.scope c.args.opening.place
    c.table_on-table.ensures.values c.table_on-table.ensures.agrees c.requires.doms.family c.going_along-values.ensures)
    (not-false _ (sym c.if-is_empty.ensures)) c.cut.new.self (c.cut.ensures.is ∙ ap (λ (scope : List ℕ). slice_set c.args.doms.now (slice_index_or scope c.args.opening.place 0) (ones_of c.going_along-values.result)) c.requires.scope) p c.args.entailed.now c.add.new.self c.add.ensures.noted c.add.ensures.struck are

pub returns-clause-looked : goal.returns-clause-looked
returns-clause-looked c = λ e.
    subst (λ (next : List ℕ). IsLooked (conditions c.args.cons.now) c.args.i c.args.waiting.now next c.args.doms.now c.cut.new.self) (sym (c.with.ensures ∙ ap (λ (scope : List ℕ). with_member c.args.waiting.now (slice_index_or scope c.args.opening.place 0)) c.requires.scope))
    (look_fewer c.args.cons.now.lang.now c.args.cons.now.list.now c.args.cons.now.against c.requires.condition.lawful c.requires.condition.constraints c.args.i c.requires.condition.low c.args.c c.args.holding c.requires.condition.is c.args.doms.now c.requires.doms.family c.requires.doms.full c.args.opening.place c.requires.place c.requires.fixed (ones_of c.going_along-values.result)
    (along_here c.args.cons.now.lang.now c.args.c c.args.holding c.table_on-table.result.now c.args.doms.now c.args.scope.now (ones_of c.going_along-values.result) c.requires.scope c.args.opening.place
    c.table_on-table.ensures.values c.table_on-table.ensures.agrees c.requires.doms.family c.going_along-values.ensures)
    (not-false _ (sym c.if-is_empty.ensures)) c.cut.new.self (c.cut.ensures.is ∙ ap (λ (scope : List ℕ). slice_set c.args.doms.now (slice_index_or scope c.args.opening.place 0) (ones_of c.going_along-values.result)) c.requires.scope) c.args.waiting.now (c.if-not-cut.ensures.less refl))

pub returns-clause-entailed : goal.returns-clause-entailed
returns-clause-entailed c = λ e p are.
    look_entailed c.args.cons.now.lang.now c.args.cons.now.list.now c.args.cons.now.against c.requires.condition.lawful c.requires.condition.constraints c.args.i c.requires.condition.low c.args.c c.args.holding c.requires.condition.is c.args.doms.now c.requires.doms.family c.requires.doms.full c.args.opening.place c.requires.place c.requires.fixed (ones_of c.going_along-values.result)
    (along_here c.args.cons.now.lang.now c.args.c c.args.holding c.table_on-table.result.now c.args.doms.now c.args.scope.now (ones_of c.going_along-values.result) c.requires.scope c.args.opening.place
    c.table_on-table.ensures.values c.table_on-table.ensures.agrees c.requires.doms.family c.going_along-values.ensures)
    (not-false _ (sym c.if-is_empty.ensures)) c.cut.new.self (c.cut.ensures.is ∙ ap (λ (scope : List ℕ). slice_set c.args.doms.now (slice_index_or scope c.args.opening.place 0) (ones_of c.going_along-values.result)) c.requires.scope) p c.args.entailed.now c.add.new.self c.add.ensures.noted c.add.ensures.struck are
