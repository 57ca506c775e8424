use Rattle.net_cnf.proofs.Prelude.{◌≡◌, ℕ, ◌<◌, List, [], ◌∙◌, ap, arith, string_bytes, flat_map, range_with_len, append-nil, err_from_is_err_and, booleans, booleans_of, boolean_text, variable_count}
use Rattle.net_cnf.proofs.Adding.{grown_next, too_long_at, grown_as}
use Rattle.net_cnf.proofs.Pieces.{booleans_pieces}
use Rattle.net_cnf.proofs.text.add_booleans.Goals as goal

pub returns-in_err-add_booleans_of : goal.returns-in_err-add_booleans_of
returns-in_err-add_booleans_of c =
    let p = err_from_is_err_and c.from_residual.result c.from_residual.ensures.1 in
    let f : ℕ → List ℕ = λ v. flat_map (boolean_text c.args.lang.now) (booleans_of c.args.lang.now v) in
    let low : c.loop-v.v < variable_count c.args.lang.now = omega arith in
    rw (p.1, p.2)
    (too_long_at c.in_err-add_booleans_of.field-0.0 f c.loop-v.v (variable_count c.args.lang.now) (string_bytes c.args.text.now) [] (flat_map (boolean_text c.args.lang.now) (booleans c.args.lang.now)) (string_bytes c.loop-v.text)
    low c.loop-v.invariant (append-nil (flat_map f (range_with_len 0 (variable_count c.args.lang.now))) ∙ booleans_pieces c.args.lang.now) c.in_err-add_booleans_of.ensures)

pub loop-v-preserved : goal.loop-v-preserved
loop-v-preserved c =
    let f : ℕ → List ℕ = λ v. flat_map (boolean_text c.args.lang.now) (booleans_of c.args.lang.now v) in
    grown_next f c.loop-v.v (string_bytes c.args.text.now) (string_bytes c.loop-v.text) (string_bytes c.add_booleans_of.new.text)
    c.loop-v.invariant c.in_ok-add_booleans_of.ensures

pub returns : goal.returns
returns c =
    let f : ℕ → List ℕ = λ v. flat_map (boolean_text c.args.lang.now) (booleans_of c.args.lang.now v) in
    let all : c.loop-v.v ≡ variable_count c.args.lang.now = omega arith in
    grown_as (string_bytes c.args.text.now) (flat_map f (range_with_len 0 c.loop-v.v)) (flat_map (boolean_text c.args.lang.now) (booleans c.args.lang.now)) (string_bytes c.loop-v.text)
    (ap (λ n. flat_map f (range_with_len 0 n)) all ∙ booleans_pieces c.args.lang.now) c.loop-v.invariant
