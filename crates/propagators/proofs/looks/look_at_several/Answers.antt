use Rattle.propagators.proofs.Prelude.{◌≡◌, ◌<◌, ◌⊎◌, List, [], ℕ, true, length, sym, subst, refl, All, Arc, arc_of, conditions, IsRevised, IsDead, IsLooked, is_noted_in, IsAlmostFixed, inl}
use Rattle.propagators.proofs.Rounds.{dead_here}
use Rattle.propagators.proofs.Conditions.{arcs_small, arcs_within}
use Rattle.propagators.proofs.Fixed.{fixed_taken_in}
use Rattle.propagators.proofs.Visiting.{looked_same, looked_changed}
use Rattle.propagators.proofs.Words.{no_length, some_length}
use Rattle.propagators.proofs.looks.look_at_several.Goals as goal

none : Arc
none = record { scope = []; accepted = λ tuple. true }

pub returns-in-None-clause-dead : goal.returns-in-None-clause-dead
returns-in-None-clause-dead c = λ e.
    dead_here (conditions c.args.cons.now) c.args.doms.now c.args.i none c.requires.condition.low
    (subst (λ (a : Arc). IsDead a c.args.doms.now) (sym (c.requires.condition.is none)) (c.in-None.ensures.dead refl))

pub returns-then-is_empty-clause-looked : goal.returns-then-is_empty-clause-looked
returns-then-is_empty-clause-looked c = λ e.
    looked_same (conditions c.args.cons.now) c.args.i c.args.waiting.now c.in-Some.lost c.args.doms.now c.revise.new.doms
    (arcs_small c.args.cons.now.lang.now c.args.cons.now.list.now c.args.cons.now.against c.requires.condition.lawful c.requires.condition.constraints) c.requires.condition.low c.requires.doms.full
    (λ a. subst (λ (b : Arc). IsRevised b c.args.doms.now c.revise.new.doms) (sym (c.requires.condition.is a)) c.in-Some.ensures.revised) c.in-Some.ensures.cut
    (no_length c.in-Some.lost (sym c.if-is_empty.ensures))

pub returns-else-is_empty-clause-looked : goal.returns-else-is_empty-clause-looked
returns-else-is_empty-clause-looked c = λ e.
    subst (λ (next : List ℕ). IsLooked (conditions c.args.cons.now) c.args.i c.args.waiting.now next c.args.doms.now c.revise.new.doms) (sym c.union.ensures)
    (looked_changed (conditions c.args.cons.now) c.args.i c.args.waiting.now c.in-Some.lost c.args.doms.now c.revise.new.doms
    (arcs_small c.args.cons.now.lang.now c.args.cons.now.list.now c.args.cons.now.against c.requires.condition.lawful c.requires.condition.constraints) c.requires.condition.low c.requires.doms.full
    (λ a. subst (λ (b : Arc). IsRevised b c.args.doms.now c.revise.new.doms) (sym (c.requires.condition.is a)) c.in-Some.ensures.revised) c.in-Some.ensures.cut
    (some_length c.in-Some.lost (sym c.if-is_empty.ensures)))

pub returns-then-is_empty-clause-entailed : goal.returns-then-is_empty-clause-entailed
returns-then-is_empty-clause-entailed c = λ e p are.
    fixed_taken_in (conditions c.args.cons.now) p c.args.entailed.now c.args.entailed.now c.args.i (arc_of c.args.cons.now.lang.now c.args.c c.args.holding) c.args.doms.now c.revise.new.doms c.requires.condition.is
    (subst (λ (a : Arc). All (λ v. v < length c.args.doms.now) a.scope) (c.requires.condition.is none) (arcs_within c.args.cons.now.lang.now c.args.cons.now.list.now c.args.cons.now.against c.requires.condition.lawful c.requires.condition.constraints c.args.doms.now c.requires.doms.family c.args.i none c.requires.condition.low))
    c.in-Some.ensures.revised (λ k at. inl at) refl are

pub returns-else-is_empty-clause-entailed : goal.returns-else-is_empty-clause-entailed
returns-else-is_empty-clause-entailed c = λ e p are.
    fixed_taken_in (conditions c.args.cons.now) p c.args.entailed.now c.add_fixed.new.self c.args.i (arc_of c.args.cons.now.lang.now c.args.c c.args.holding) c.args.doms.now c.revise.new.doms c.requires.condition.is
    (subst (λ (a : Arc). All (λ v. v < length c.args.doms.now) a.scope) (c.requires.condition.is none) (arcs_within c.args.cons.now.lang.now c.args.cons.now.list.now c.args.cons.now.against c.requires.condition.lawful c.requires.condition.constraints c.args.doms.now c.requires.doms.family c.args.i none c.requires.condition.low))
    c.in-Some.ensures.revised
    (λ k at. subst (λ (scope : List ℕ). (is_noted_in c.args.entailed.now k ≡ true) ⊎ ((k ≡ c.args.i) × IsAlmostFixed c.revise.new.doms scope)) c.scope.ensures.is (c.add_fixed.ensures.noted k at)) c.add_fixed.ensures.struck are
