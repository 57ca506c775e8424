use Rattle.net_cnf.proofs.Prelude.{◌≡◌, false, [], ◌∷◌, ◌++◌, length, map, ◌∙◌, ap, arith, string_bytes, flat_map, range_with_len, err_from_is_err_and, literal, paired, clause_text}
use Rattle.net_cnf.proofs.Adding.{grown_next, too_long_at, adds_last}
use Rattle.net_cnf.proofs.Outside.{within_at}
use Rattle.net_cnf.proofs.Pieces.{not_all_piece, not_all_pieces}
use Rattle.net_cnf.proofs.lines.add_not_all.Goals as goal

pub returns-in_err-add_literal : goal.returns-in_err-add_literal
returns-in_err-add_literal c =
    let p = err_from_is_err_and c.from_residual.result c.from_residual.ensures.1 in
    let l = c.args.lang.now in
    let scope = c.args.scope.now in
    let values = c.args.values.now in
    rw (p.1, p.2)
    (too_long_at c.in_err-add_literal.field-0.0 (not_all_piece l scope values) c.loop-i.i (length scope) (string_bytes c.args.text.now) (48 ∷ 10 ∷ []) (clause_text (map (literal l false) (paired scope values))) (string_bytes c.loop-i.text)
    (omega arith) c.loop-i.invariant (not_all_pieces l scope values c.requires.long) c.in_err-add_literal.ensures)

pub loop-i-preserved : goal.loop-i-preserved
loop-i-preserved c =
    grown_next (not_all_piece c.args.lang.now c.args.scope.now c.args.values.now) c.loop-i.i (string_bytes c.args.text.now) (string_bytes c.loop-i.text) (string_bytes c.add_literal.new.text)
    c.loop-i.invariant c.in_ok-add_literal.ensures

pub add_literal-requires-clause-from : goal.add_literal-requires-clause-from
add_literal-requires-clause-from c = (within_at c.args.lang.now.ranges c.args.scope.now c.args.values.now c.loop-i.i c.loop-i-test.true c.requires.long c.requires.values).0

pub add_literal-requires-clause-to : goal.add_literal-requires-clause-to
add_literal-requires-clause-to c = (within_at c.args.lang.now.ranges c.args.scope.now c.args.values.now c.loop-i.i c.loop-i-test.true c.requires.long c.requires.values).1

pub returns : goal.returns
returns c =
    let l = c.args.lang.now in
    let scope = c.args.scope.now in
    let values = c.args.values.now in
    let f = not_all_piece l scope values in
    let all : c.loop-i.i ≡ length scope = omega arith in
    adds_last c.add_end.result (string_bytes c.args.text.now) (flat_map f (range_with_len 0 c.loop-i.i)) (48 ∷ 10 ∷ []) (clause_text (map (literal l false) (paired scope values))) (string_bytes c.loop-i.text) (string_bytes c.add_end.new.text)
    c.loop-i.invariant (ap (λ n. flat_map f (range_with_len 0 n) ++ 48 ∷ 10 ∷ []) all ∙ not_all_pieces l scope values c.requires.long) c.add_end.ensures
