use Rattle.net_cnf.proofs.Prelude.{◌≡◌, ℕ, ◌<◌, ◌^◌, List, [], length, ◌∙◌, ap, arith, string_bytes, flat_map, range_with_len, append-nil, err_from_is_err_and, clause_text, none_rejected, scope_of, place_piece}
use Rattle.net_cnf.proofs.Adding.{grown_next, too_long_at, grown_as}
use Rattle.net_cnf.proofs.Pieces.{place_pieces}
use Rattle.net_cnf.proofs.text.add_none_rejected.Goals as goal

pub returns-in_err-add_place : goal.returns-in_err-add_place
returns-in_err-add_place c =
    let p = err_from_is_err_and c.from_residual.result c.from_residual.ensures.1 in
    let f : ℕ → List ℕ = place_piece c.args.lang.now c.args.c in
    let low : c.loop-place.place < c.args.lang.now.value_count ^ length (scope_of c.args.lang.now c.args.c) = omega arith in
    rw (p.1, p.2)
    (too_long_at c.in_err-add_place.field-0.0 f c.loop-place.place (c.args.lang.now.value_count ^ length (scope_of c.args.lang.now c.args.c)) (string_bytes c.args.text.now) [] (flat_map clause_text (none_rejected c.args.lang.now c.args.c)) (string_bytes c.loop-place.text)
    low c.loop-place.invariant (append-nil (flat_map f (range_with_len 0 (c.args.lang.now.value_count ^ length (scope_of c.args.lang.now c.args.c)))) ∙ place_pieces c.args.lang.now c.args.c c.places_on-place-end.ensures.lawful c.requires.candidate) c.in_err-add_place.ensures)

pub loop-place-preserved : goal.loop-place-preserved
loop-place-preserved c =
    let f : ℕ → List ℕ = place_piece c.args.lang.now c.args.c in
    grown_next f c.loop-place.place (string_bytes c.args.text.now) (string_bytes c.loop-place.text) (string_bytes c.add_place.new.text)
    c.loop-place.invariant c.in_ok-add_place.ensures

pub returns : goal.returns
returns c =
    let f : ℕ → List ℕ = place_piece c.args.lang.now c.args.c in
    let all : c.loop-place.place ≡ c.args.lang.now.value_count ^ length (scope_of c.args.lang.now c.args.c) = omega arith in
    grown_as (string_bytes c.args.text.now) (flat_map f (range_with_len 0 c.loop-place.place)) (flat_map clause_text (none_rejected c.args.lang.now c.args.c)) (string_bytes c.loop-place.text)
    (ap (λ n. flat_map f (range_with_len 0 n)) all ∙ place_pieces c.args.lang.now c.args.c c.places_on-place-end.ensures.lawful c.requires.candidate) c.loop-place.invariant
