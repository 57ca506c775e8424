use Rattle.net_cnf.proofs.Prelude.{◌≡◌, ℕ, ◌<◌, List, [], length, sym, ◌∙◌, ap, arith, subst, string_bytes, flat_map, range_with_len, append-nil, get_or_from_slice_get, err_from_is_err_and, IsTooLong, Grown, clause_text, none_rejected, Candidate, item_piece}
use Rattle.net_cnf.proofs.Adding.{grown_next, too_long_at, grown_as}
use Rattle.net_cnf.proofs.Pieces.{item_pieces}
use Rattle.net_cnf.proofs.text.add_items.Goals as goal

pub returns-in_err-add_none_rejected : goal.returns-in_err-add_none_rejected
returns-in_err-add_none_rejected c =
    let p = err_from_is_err_and c.from_residual.result c.from_residual.ensures.1 in
    let f : ℕ → List ℕ = item_piece c.args.lang.now c.args.net.now.list in
    let low : c.loop-i.i < length c.args.net.now.list = omega arith in
    rw (p.1, p.2)
    (too_long_at c.in_err-add_none_rejected.field-0.0 f c.loop-i.i (length c.args.net.now.list) (string_bytes c.args.text.now) [] (flat_map clause_text (flat_map (none_rejected c.args.lang.now) c.args.net.now.list)) (string_bytes c.loop-i.text)
    low c.loop-i.invariant (append-nil (flat_map f (range_with_len 0 (length c.args.net.now.list))) ∙ item_pieces c.args.lang.now c.args.net.now.list) (subst (λ (d : Candidate). IsTooLong (string_bytes c.loop-i.text) (flat_map clause_text (none_rejected c.args.lang.now d)) c.in_err-add_none_rejected.field-0.0) (sym (get_or_from_slice_get c.args.net.now.list c.loop-i.i c.item.result (record { scope = 0; rel = 0 }) c.item.ensures)) c.in_err-add_none_rejected.ensures))

pub loop-i-preserved : goal.loop-i-preserved
loop-i-preserved c =
    let f : ℕ → List ℕ = item_piece c.args.lang.now c.args.net.now.list in
    grown_next f c.loop-i.i (string_bytes c.args.text.now) (string_bytes c.loop-i.text) (string_bytes c.add_none_rejected.new.text)
    c.loop-i.invariant
    (subst (λ (d : Candidate). Grown (string_bytes c.loop-i.text) (flat_map clause_text (none_rejected c.args.lang.now d)) (string_bytes c.add_none_rejected.new.text)) (sym (get_or_from_slice_get c.args.net.now.list c.loop-i.i c.item.result (record { scope = 0; rel = 0 }) c.item.ensures)) c.in_ok-add_none_rejected.ensures)

pub returns : goal.returns
returns c =
    let f : ℕ → List ℕ = item_piece c.args.lang.now c.args.net.now.list in
    let all : c.loop-i.i ≡ length c.args.net.now.list = omega arith in
    grown_as (string_bytes c.args.text.now) (flat_map f (range_with_len 0 c.loop-i.i)) (flat_map clause_text (flat_map (none_rejected c.args.lang.now) c.args.net.now.list)) (string_bytes c.loop-i.text)
    (ap (λ n. flat_map f (range_with_len 0 n)) all ∙ item_pieces c.args.lang.now c.args.net.now.list) c.loop-i.invariant
