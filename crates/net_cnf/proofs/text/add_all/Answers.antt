use Rattle.net_cnf.proofs.Prelude.{◌≡◌, ℕ, ◌+◌, ◌≤◌, List, ◌++◌, length, arith, append_assoc, subst, string_bytes, flat_map, length-append, err_from_is_err_and, Grown, IsTooLong, booleans, clauses, boolean_text, head_text, clause_text, cnf_text}
use Rattle.net_cnf.proofs.Adding.{grown_more, adds_last, too_long}
use Rattle.net_cnf.proofs.text.add_all.Goals as goal

pub returns-in_err-add_head : goal.returns-in_err-add_head
returns-in_err-add_head c =
    let l = c.args.lang.now in
    let network = c.args.net.now.list in
    let p = err_from_is_err_and c.from_residual-in_err-add_head.result c.from_residual-in_err-add_head.ensures.1 in
    let front = flat_map (boolean_text l) (booleans l) in
    let head = head_text (length (booleans l)) (length (clauses l network)) in
    let lines = flat_map clause_text (clauses l network) in
    let variables : c.boolean_count.result ≡ length (booleans l) = c.boolean_count.ensures.count in
    let within : length front + length head ≤ length (cnf_text l network) = omega (arith, length-append front (head ++ lines), length-append head lines) in
    rw (p.1, p.2)
    (too_long c.in_err-add_head.field-0.0 (string_bytes c.args.text.now) front head (cnf_text l network) (string_bytes c.add_booleans.new.text) c.in_ok-add_booleans.ensures within
    (subst (λ (piece : List ℕ). IsTooLong (string_bytes c.add_booleans.new.text) piece c.in_err-add_head.field-0.0) (λ i. head_text (variables i) (c.clause_count.ensures i)) c.in_err-add_head.ensures))

pub returns : goal.returns
returns c =
    let l = c.args.lang.now in
    let network = c.args.net.now.list in
    let front = flat_map (boolean_text l) (booleans l) in
    let head = head_text (length (booleans l)) (length (clauses l network)) in
    let lines = flat_map clause_text (clauses l network) in
    let variables : c.boolean_count.result ≡ length (booleans l) = c.boolean_count.ensures.count in
    let both : Grown (string_bytes c.args.text.now) (front ++ head) (string_bytes c.add_head.new.text) =
    grown_more (string_bytes c.args.text.now) front head (string_bytes c.add_booleans.new.text) (string_bytes c.add_head.new.text) c.in_ok-add_booleans.ensures
    (subst (λ (piece : List ℕ). Grown (string_bytes c.add_booleans.new.text) piece (string_bytes c.add_head.new.text)) (λ i. head_text (variables i) (c.clause_count.ensures i)) c.in_ok-add_head.ensures) in
    adds_last c.add_clauses.result (string_bytes c.args.text.now) (front ++ head) lines (cnf_text l network) (string_bytes c.add_head.new.text) (string_bytes c.add_clauses.new.text)
    both (append_assoc front head lines) c.add_clauses.ensures
