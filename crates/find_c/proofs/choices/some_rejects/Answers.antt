use Rattle.find_c.proofs.Prelude.{◌<◌, ◌^◌, subst, length, All, All-head, All-tail, relations_on, scope_at, scene_of, ones_of}
use Rattle.std.proofs.Math.Nat.{one-le-pow}
use Rattle.find_c.proofs.Differences.{among_rest, one_rejects}
use Rattle.find_c.proofs.Lawful.{scope_is}
use Rattle.find_c.proofs.Splitting.{at_first_row, row_fits}
use Rattle.find_c.proofs.choices.some_rejects.Goals as goal

pub loop-left-init : goal.loop-left-init
loop-left-init c = record {
  known = c.requires.known;
  among = λ some. some;
}

pub outside_row-outside-requires-clause-row : goal.outside_row-outside-requires-clause-row
outside_row-outside-requires-clause-row c = at_first_row c.args.lang.now.value_count (length (scope_at c.args.lang.now c.args.s)) (scope_is c.args.lang.now c.requires.lawful c.args.s c.requires.scope).not_empty

pub outside_row-outside-requires-clause-below : goal.outside_row-outside-requires-clause-below
outside_row-outside-requires-clause-below c = one-le-pow (length (scope_at c.args.lang.now c.args.s)) c.args.lang.now.value_count c.requires.lawful.some_value

pub row_of-requires-clause-row : goal.row_of-requires-clause-row
row_of-requires-clause-row c = row_fits c.args.lang.now.value_count (c.args.lang.now.value_count ^ length (scope_at c.args.lang.now c.args.s)) 0
    (at_first_row c.args.lang.now.value_count (length (scope_at c.args.lang.now c.args.s)) (scope_is c.args.lang.now c.requires.lawful c.args.s c.requires.scope).not_empty)
    (one-le-pow (length (scope_at c.args.lang.now c.args.s)) c.args.lang.now.value_count c.requires.lawful.some_value)

pub row_of-requires-clause-rel : goal.row_of-requires-clause-rel
row_of-requires-clause-rel c = All-head (λ r. r < length (relations_on c.args.lang.now c.args.s)) c.split_first-r.result.0 (ones_of c.split_first-r.result.1) (subst (λ rs. All (λ r. r < length (relations_on c.args.lang.now c.args.s)) rs) c.split_first-r.ensures c.loop-left.invariant.known)

pub loop-left-preserved : goal.loop-left-preserved
loop-left-preserved c = record {
  known = All-tail (λ r. r < length (relations_on c.args.lang.now c.args.s)) c.split_first-r.result.0 (ones_of c.split_first-r.result.1) (subst (λ rs. All (λ r. r < length (relations_on c.args.lang.now c.args.s)) rs) c.split_first-r.ensures c.loop-left.invariant.known);
  among = among_rest (scene_of c.args.lang.now c.args.s) 0 c.args.relations c.loop-left.left c.split_first-r.result.0 c.split_first-r.result.1 c.split_first-r.ensures c.loop-left.invariant.among;
}

pub returns-then-row_of-eq0 : goal.returns-then-row_of-eq0
returns-then-row_of-eq0 c = λ yes. one_rejects (scene_of c.args.lang.now c.args.s) 0 c.args.relations c.loop-left.left c.split_first-r.result.0 c.split_first-r.result.1 c.split_first-r.ensures c.loop-left.invariant.among c.row_of.result c.if-row_of-eq0.true (c.row_of.ensures 0 c.requires.lawful.some_value)
