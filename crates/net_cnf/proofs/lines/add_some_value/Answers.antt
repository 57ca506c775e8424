use Rattle.net_cnf.proofs.Prelude.{◌≡◌, ℕ, ◌+◌, ◌-◌, ◌<◌, true, [], ◌∷◌, ◌++◌, ◌∙◌, ap, arith, string_bytes, flat_map, range_with_len, err_from_is_err_and, boolean, some_value, clause_text}
use Rattle.net_cnf.proofs.Adding.{grown_next_from, too_long_from, adds_last}
use Rattle.net_cnf.proofs.Pieces.{literal_piece, some_value_pieces}
use Rattle.net_cnf.proofs.Runs.{first_of, size_of}
use Rattle.net_cnf.proofs.lines.add_some_value.Goals as goal

pub returns-in_err-add_literal : goal.returns-in_err-add_literal
returns-in_err-add_literal c =
    let p = err_from_is_err_and c.from_residual.result c.from_residual.ensures.1 in
    let l = c.args.lang.now in
    let range = c.range-first.ensures in
    let low : c.loop-x.x < first_of l c.args.v + size_of l c.args.v = omega (arith, range.first, range.last, range.some, range.known) in
    rw (p.1, p.2)
    (too_long_from c.in_err-add_literal.field-0.0 (λ x. literal_piece l true (boolean c.args.v x)) (first_of l c.args.v) c.loop-x.x (size_of l c.args.v) (string_bytes c.args.text.now) (48 ∷ 10 ∷ []) (clause_text (some_value l c.args.v)) (string_bytes c.loop-x.text)
    (omega arith) low c.loop-x.invariant (some_value_pieces l c.args.v) c.in_err-add_literal.ensures)

pub loop-x-preserved : goal.loop-x-preserved
loop-x-preserved c =
    grown_next_from (λ x. literal_piece c.args.lang.now true (boolean c.args.v x)) (first_of c.args.lang.now c.args.v) c.loop-x.x (string_bytes c.args.text.now) (string_bytes c.loop-x.text) (string_bytes c.add_literal.new.text)
    (omega arith) c.loop-x.invariant c.in_ok-add_literal.ensures

pub returns : goal.returns
returns c =
    let l = c.args.lang.now in
    let f = λ (x : ℕ). literal_piece l true (boolean c.args.v x) in
    let range = c.range-first.ensures in
    let all : c.loop-x.x - first_of l c.args.v ≡ size_of l c.args.v = omega (arith, range.first, range.last, range.some, range.known) in
    adds_last c.add_end.result (string_bytes c.args.text.now) (flat_map f (range_with_len (first_of l c.args.v) (c.loop-x.x - first_of l c.args.v))) (48 ∷ 10 ∷ []) (clause_text (some_value l c.args.v)) (string_bytes c.loop-x.text) (string_bytes c.add_end.new.text)
    c.loop-x.invariant (ap (λ n. flat_map f (range_with_len (first_of l c.args.v) n) ++ 48 ∷ 10 ∷ []) all ∙ some_value_pieces l c.args.v) c.add_end.ensures
