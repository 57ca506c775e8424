use Rattle.net_cnf.proofs.Prelude.{◌≡◌, ℕ, ◌<◌, List, [], ◌∙◌, ap, arith, string_bytes, flat_map, range_with_len, append-nil, err_from_is_err_and, clause_text, no_two_values, numbers, variable_count}
use Rattle.net_cnf.proofs.Adding.{grown_next, too_long_at, grown_as}
use Rattle.net_cnf.proofs.Pieces.{no_two_all_pieces}
use Rattle.net_cnf.proofs.text.add_all_no_two_values.Goals as goal

pub returns-in_err-add_no_two_values : goal.returns-in_err-add_no_two_values
returns-in_err-add_no_two_values c =
    let p = err_from_is_err_and c.from_residual.result c.from_residual.ensures.1 in
    let f : ℕ → List ℕ = λ v. flat_map clause_text (no_two_values c.args.lang.now v) in
    let low : c.loop-v.v < variable_count c.args.lang.now = omega arith in
    rw (p.1, p.2)
    (too_long_at c.in_err-add_no_two_values.field-0.0 f c.loop-v.v (variable_count c.args.lang.now) (string_bytes c.args.text.now) [] (flat_map clause_text (flat_map (no_two_values c.args.lang.now) (numbers (variable_count c.args.lang.now)))) (string_bytes c.loop-v.text)
    low c.loop-v.invariant (append-nil (flat_map f (range_with_len 0 (variable_count c.args.lang.now))) ∙ no_two_all_pieces c.args.lang.now) c.in_err-add_no_two_values.ensures)

pub loop-v-preserved : goal.loop-v-preserved
loop-v-preserved c =
    let f : ℕ → List ℕ = λ v. flat_map clause_text (no_two_values c.args.lang.now v) in
    grown_next f c.loop-v.v (string_bytes c.args.text.now) (string_bytes c.loop-v.text) (string_bytes c.add_no_two_values.new.text)
    c.loop-v.invariant c.in_ok-add_no_two_values.ensures

pub returns : goal.returns
returns c =
    let f : ℕ → List ℕ = λ v. flat_map clause_text (no_two_values c.args.lang.now v) in
    let all : c.loop-v.v ≡ variable_count c.args.lang.now = omega arith in
    grown_as (string_bytes c.args.text.now) (flat_map f (range_with_len 0 c.loop-v.v)) (flat_map clause_text (flat_map (no_two_values c.args.lang.now) (numbers (variable_count c.args.lang.now)))) (string_bytes c.loop-v.text)
    (ap (λ n. flat_map f (range_with_len 0 n)) all ∙ no_two_all_pieces c.args.lang.now) c.loop-v.invariant
