use Rattle.find_c.proofs.Prelude.{◌+◌, ◌<◌, ◌^◌, ◌∙◌, ap, sym, subst, not, length, arith, All, ◌==◌, bit_at, bit_not, w64, All-head, All-tail, relations_on, scope_at, scene_of, ones_of, choices_of, allows_at, differ_at, IsChoiceOn, bit_at-zero, is_one-not}
use Rattle.find_c.proofs.Differences.{known_of, seen_none, seen_more, rejects_at, differ_bound, differ_free}
use Rattle.find_c.proofs.Outside.{none_differ}
use Rattle.find_c.proofs.Splitting.{row_fits}
use Rattle.find_c.proofs.choices.Choices.differences.Goals as goal

pub loop-left-init : goal.loop-left-init
loop-left-init c = record {
  known = known_of c.args.lang.now c.args.s c.self.inside.relations c.self.inside.free (subst (λ cs. All (IsChoiceOn c.args.lang.now c.args.s) cs) (sym c.self.view_is) c.requires.known);
  accepts = seen_none (scene_of c.args.lang.now c.args.s) c.args.place (allows_at (scene_of c.args.lang.now c.args.s)) c.self.inside.relations;
  rejects = seen_none (scene_of c.args.lang.now c.args.s) c.args.place (rejects_at (scene_of c.args.lang.now c.args.s)) c.self.inside.relations;
}

pub returns-then-outside : goal.returns-then-outside
returns-then-outside c = λ y low.
    ap (λ x. x == 1) (bit_at-zero y)
    ∙ sym (none_differ c.args.lang.now c.args.s (c.args.place + y) c.args.self.now c.requires.lawful c.requires.scope c.requires.known
    (let fits = row_fits c.args.lang.now.value_count (c.args.lang.now.value_count ^ length (scope_at c.args.lang.now c.args.s)) c.args.place c.requires.row c.requires.below in omega arith)
    (sym (c.outside_row-outside.ensures y low) ∙ ap (λ m. bit_at m y == 1) c.if-outside.true ∙ is_one-not 0 y (omega arith) (let few = c.requires.lawful.few_values in omega arith) ∙ ap (λ x. not (x == 1)) (bit_at-zero y)))

pub row_of-row-requires-clause-row : goal.row_of-row-requires-clause-row
row_of-row-requires-clause-row c = row_fits c.args.lang.now.value_count (c.args.lang.now.value_count ^ length (scope_at c.args.lang.now c.args.s)) c.args.place c.requires.row c.requires.below

pub row_of-row-requires-clause-rel : goal.row_of-row-requires-clause-rel
row_of-row-requires-clause-rel c = All-head (λ r. r < length (relations_on c.args.lang.now c.args.s)) c.split_first-r.result.0 (ones_of c.split_first-r.result.1) (subst (λ rs. All (λ r. r < length (relations_on c.args.lang.now c.args.s)) rs) c.split_first-r.ensures c.loop-left.invariant.known)

pub loop-left-preserved : goal.loop-left-preserved
loop-left-preserved c =
    let scene = scene_of c.args.lang.now c.args.s in
    record {
      known = All-tail (λ r. r < length (relations_on c.args.lang.now c.args.s)) c.split_first-r.result.0 (ones_of c.split_first-r.result.1) (subst (λ rs. All (λ r. r < length (relations_on c.args.lang.now c.args.s)) rs) c.split_first-r.ensures c.loop-left.invariant.known);
      accepts = seen_more scene c.args.place (allows_at scene) c.self.inside.relations c.loop-left.accepted c.loop-left.left c.split_first-r.result.0 c.split_first-r.result.1 c.row_of-row.result c.split_first-r.ensures c.row_of-row.ensures c.loop-left.invariant.accepts;
      rejects = seen_more scene c.args.place (rejects_at scene) c.self.inside.relations c.loop-left.rejected c.loop-left.left c.split_first-r.result.0 c.split_first-r.result.1 (bit_not w64 c.row_of-row.result) c.split_first-r.ensures
          (λ y low. is_one-not c.row_of-row.result y c.row_of-row.type_inv (let few = c.requires.lawful.few_values in omega arith) ∙ ap not (c.row_of-row.ensures y low)) c.loop-left.invariant.rejects;
    }

pub returns-then-self : goal.returns-then-self
returns-then-self c = λ y low.
    differ_free (scene_of c.args.lang.now c.args.s) c.args.place c.self.inside.relations c.loop-left.accepted c.loop-left.rejected c.loop-left.left c.loop-left-test.false c.loop-left.invariant.accepts c.loop-left.invariant.rejects y low
    ∙ ap (λ cs. differ_at (scene_of c.args.lang.now c.args.s) cs (c.args.place + y)) (ap (choices_of c.self.inside.relations) (sym c.if-self.true) ∙ c.self.view_is)

pub returns-else-self : goal.returns-else-self
returns-else-self c = λ y low.
    differ_bound (scene_of c.args.lang.now c.args.s) c.args.place c.self.inside.relations c.loop-left.accepted c.loop-left.rejected c.loop-left.left c.loop-left-test.false c.loop-left.invariant.accepts c.loop-left.invariant.rejects y low
    ∙ ap (λ cs. differ_at (scene_of c.args.lang.now c.args.s) cs (c.args.place + y)) (ap (choices_of c.self.inside.relations) (sym c.if-self.false) ∙ c.self.view_is)
