use Rattle.net_cnf.proofs.Prelude.{◌≡◌, ℕ, ◌+◌, ◌-◌, ◌<◌, List, [], ◌∙◌, ap, arith, string_bytes, flat_map, range_with_len, append-nil, err_from_is_err_and, boolean, booleans_of, boolean_text}
use Rattle.net_cnf.proofs.Adding.{grown_next_from, too_long_from, grown_as}
use Rattle.net_cnf.proofs.Pieces.{booleans_of_pieces}
use Rattle.net_cnf.proofs.Runs.{first_of, size_of}
use Rattle.net_cnf.proofs.text.add_booleans_of.Goals as goal

pub returns-in_err-add_boolean : goal.returns-in_err-add_boolean
returns-in_err-add_boolean c =
    let p = err_from_is_err_and c.from_residual.result c.from_residual.ensures.1 in
    let l = c.args.lang.now in
    let f : ℕ → List ℕ = λ x. boolean_text l (boolean c.args.v x) in
    let range = c.range-first.ensures in
    let low : c.loop-x.x < first_of l c.args.v + size_of l c.args.v = omega (arith, range.first, range.last, range.some, range.known) in
    rw (p.1, p.2)
    (too_long_from c.in_err-add_boolean.field-0.0 f (first_of l c.args.v) c.loop-x.x (size_of l c.args.v) (string_bytes c.args.text.now) [] (flat_map (boolean_text l) (booleans_of l c.args.v)) (string_bytes c.loop-x.text)
    (omega arith) low c.loop-x.invariant (append-nil (flat_map f (range_with_len (first_of l c.args.v) (size_of l c.args.v))) ∙ booleans_of_pieces l c.args.v) c.in_err-add_boolean.ensures)

pub loop-x-preserved : goal.loop-x-preserved
loop-x-preserved c =
    let f : ℕ → List ℕ = λ x. boolean_text c.args.lang.now (boolean c.args.v x) in
    grown_next_from f (first_of c.args.lang.now c.args.v) c.loop-x.x (string_bytes c.args.text.now) (string_bytes c.loop-x.text) (string_bytes c.add_boolean.new.text)
    (omega arith) c.loop-x.invariant c.in_ok-add_boolean.ensures

pub returns : goal.returns
returns c =
    let l = c.args.lang.now in
    let f : ℕ → List ℕ = λ x. boolean_text l (boolean c.args.v x) in
    let range = c.range-first.ensures in
    let all : c.loop-x.x - first_of l c.args.v ≡ size_of l c.args.v = omega (arith, range.first, range.last, range.some, range.known) in
    grown_as (string_bytes c.args.text.now) (flat_map f (range_with_len (first_of l c.args.v) (c.loop-x.x - first_of l c.args.v))) (flat_map (boolean_text l) (booleans_of l c.args.v)) (string_bytes c.loop-x.text)
    (ap (λ n. flat_map f (range_with_len (first_of l c.args.v) n)) all ∙ booleans_of_pieces l c.args.v) c.loop-x.invariant
