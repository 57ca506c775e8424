use Rattle.propagators.proofs.Prelude.{List, [], ◌<◌, length, ℕ, true, sym, subst, refl, arith, Arc, conditions, AreDifferent, IsLooked, slice_index_or, All}
use Rattle.propagators.proofs.Rounds.{dead_here}
use Rattle.propagators.proofs.Conditions.{arcs_small, arcs_within, arcs_different}
use Rattle.propagators.proofs.Visiting.{looked_same, looked_changed}
use Rattle.propagators.proofs.Standing.{stood_revised, stood_dead}
use Rattle.propagators.proofs.Words.{no_length, some_length}
use Rattle.propagators.proofs.looks.look_at_both.Goals as goal

none : Arc
none = record { scope = []; accepted = λ tuple. true }

pub returns-in-None-clause-dead : goal.returns-in-None-clause-dead
returns-in-None-clause-dead c = λ e.
    dead_here (conditions c.args.cons.now) c.args.doms.now c.args.i none c.requires.low
    (stood_dead c.args.cons.now.lang.now (slice_index_or (conditions c.args.cons.now) c.args.i none) c.args.pair c.args.doms.now (c.requires.pair none) c.requires.doms.family
    (c.in-None.ensures.dead refl (c.requires.pair none).pairs (c.requires.pair none).are (c.requires.pair none).bounds c.requires.doms.family.values))

pub returns-then-is_empty-clause-looked : goal.returns-then-is_empty-clause-looked
returns-then-is_empty-clause-looked c = λ e.
    looked_same (conditions c.args.cons.now) c.args.i c.args.waiting.now c.in-Some.lost c.args.doms.now c.revise_pair.new.doms
    (arcs_small c.args.cons.now.lang.now c.args.cons.now.list.now c.args.cons.now.against c.requires.lawful c.requires.constraints) c.requires.low c.requires.doms.full
    (λ a. stood_revised c.args.cons.now.lang.now (slice_index_or (conditions c.args.cons.now) c.args.i a) c.args.pair c.args.doms.now (c.requires.pair a) c.requires.doms.family c.revise_pair.new.doms
    (c.in-Some.ensures.revised (c.requires.pair a).pairs (c.requires.pair a).are (c.requires.pair a).bounds c.requires.doms.family.values)) c.in-Some.ensures.cut
    (no_length c.in-Some.lost (sym c.if-is_empty.ensures))

pub returns-else-is_empty-clause-looked : goal.returns-else-is_empty-clause-looked
returns-else-is_empty-clause-looked c = λ e.
    subst (λ (next : List ℕ). IsLooked (conditions c.args.cons.now) c.args.i c.args.waiting.now next c.args.doms.now c.revise_pair.new.doms) (sym c.union.ensures)
    (looked_changed (conditions c.args.cons.now) c.args.i c.args.waiting.now c.in-Some.lost c.args.doms.now c.revise_pair.new.doms
    (arcs_small c.args.cons.now.lang.now c.args.cons.now.list.now c.args.cons.now.against c.requires.lawful c.requires.constraints) c.requires.low c.requires.doms.full
    (λ a. stood_revised c.args.cons.now.lang.now (slice_index_or (conditions c.args.cons.now) c.args.i a) c.args.pair c.args.doms.now (c.requires.pair a) c.requires.doms.family c.revise_pair.new.doms
    (c.in-Some.ensures.revised (c.requires.pair a).pairs (c.requires.pair a).are (c.requires.pair a).bounds c.requires.doms.family.values)) c.in-Some.ensures.cut
    (some_length c.in-Some.lost (sym c.if-is_empty.ensures)))

pub revise_pair-requires-clause-table : goal.revise_pair-requires-clause-table
revise_pair-requires-clause-table c = (c.requires.pair none).table

pub revise_pair-requires-clause-first : goal.revise_pair-requires-clause-first
revise_pair-requires-clause-first c =
    let known = arcs_within c.args.cons.now.lang.now c.args.cons.now.list.now c.args.cons.now.against c.requires.lawful c.requires.constraints c.args.doms.now c.requires.doms.family c.args.i none c.requires.low in
    subst (λ (scope : List ℕ). All (λ v. v < length c.args.doms.now) scope) ((c.requires.pair none).scope) known 0 0 (omega arith)

pub revise_pair-requires-clause-second : goal.revise_pair-requires-clause-second
revise_pair-requires-clause-second c =
    let known = arcs_within c.args.cons.now.lang.now c.args.cons.now.list.now c.args.cons.now.against c.requires.lawful c.requires.constraints c.args.doms.now c.requires.doms.family c.args.i none c.requires.low in
    subst (λ (scope : List ℕ). All (λ v. v < length c.args.doms.now) scope) ((c.requires.pair none).scope) known 1 0 (omega arith)

pub revise_pair-requires-clause-apart : goal.revise_pair-requires-clause-apart
revise_pair-requires-clause-apart c = subst AreDifferent ((c.requires.pair none).scope) (arcs_different c.args.cons.now.lang.now c.args.cons.now.list.now c.args.cons.now.against c.requires.lawful c.requires.constraints c.args.i none c.requires.low)

pub revise_pair-requires-clause-few : goal.revise_pair-requires-clause-few
revise_pair-requires-clause-few c = (let size = c.requires.doms.family.size in let few = c.requires.lawful.few_variables in omega arith)
