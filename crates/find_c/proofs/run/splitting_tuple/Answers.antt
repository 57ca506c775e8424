use Rattle.find_c.proofs.Prelude.{length, get_or, Some, [], ◌∙◌, ap, subst, arith, tuples, scope_at, scene_of, IsFoundFrom}
use Rattle.std.specs.Prelude.{IfSome}
use Rattle.std.proofs.Math.Nat.{one-le-pow}
use Rattle.find_c.proofs.Splitting.{found_first, from_first_row}
use Rattle.find_c.proofs.run.splitting_tuple.Goals as goal

pub returns-then-rejects_first : goal.returns-then-rejects_first
returns-then-rejects_first c =
    let values = c.d-value_count.ensures.is in
    let size = ap length c.scope.ensures.is in
    ap Some (c.at.ensures ∙ (λ i. get_or (tuples (values i) (size i)) 0 []))
    ∙ found_first (scene_of c.args.lang.now c.args.s) c.args.choices.now (one-le-pow (length (scope_at c.args.lang.now c.args.s)) c.args.lang.now.value_count c.d-value_count.ensures.lawful.some_value)
    (c.rejects_first.ensures c.if-rejects_first.true)

pub at-requires-clause-place : goal.at-requires-clause-place
at-requires-clause-place c = one-le-pow (length c.scope.result.now) c.d-value_count.result (let some = c.d-value_count.ensures.lawful.some_value in let is = c.d-value_count.ensures.is in omega arith)

pub tuple_searched-requires-2-clause-from : goal.tuple_searched-requires-2-clause-from
tuple_searched-requires-2-clause-from c = from_first_row c.args.lang.now c.args.s c.args.choices.now (c.d-value_count.ensures.lawful.scopes c.args.s [] c.requires.scope).not_empty

pub tuple_searched-requires-clause-from : goal.tuple_searched-requires-clause-from
tuple_searched-requires-clause-from c =
    let known : IfSome (Some c.in-Some.row) (IsFoundFrom c.args.lang.now c.args.s c.args.choices.now) = subst (λ o. IfSome o (IsFoundFrom c.args.lang.now c.args.s c.args.choices.now)) c.in-Some.is c.requires.from in
    known
