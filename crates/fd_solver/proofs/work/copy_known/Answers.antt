use Rattle.fd_solver.proofs.Prelude.{◌≡◌, ◌-◌, ◌++◌, ◌+◌, List, [], ap, sym, ◌∙◌, arith, length, length-append, length-set, slice_index_or, slice_set, Entailed}
use Rattle.std.proofs.lemmas.List.{set-append_right, get_or_append_left, get_or_default, with_items_is}
use Rattle.fd_solver.proofs.work.copy_known.Goals as goal

pub returns-clause-is : goal.returns-clause-is
returns-clause-is c = λ e.
    let front = c.split_at_mut-front.result.0.now in
    let rest = c.split_at_mut-front.result.1.now in
    let long = c.split_at_mut-front.ensures.front_len in
    let value : c.args.entailed.now.items ≡ front ++ rest = sym c.deref_mut.ensures.value ∙ c.split_at_mut-front.ensures.value in
    let taken : c.take.new.self ≡ slice_index_or c.args.entailed.now.items c.args.from e =
    c.take.ensures ∙ get_or_default front c.args.from (record { words = []; struck = [] }) e (omega arith)
    ∙ sym (get_or_append_left front rest e c.args.from (omega arith)) ∙ ap (λ (xs : List Entailed). slice_index_or xs c.args.from e) (sym value) in
    let same : length (front ++ slice_set rest 0 c.take.new.self) ≡ c.args.entailed.now.len =
    length-append front (slice_set rest 0 c.take.new.self) ∙ ap (λ k. length front + k) (length-set rest 0 c.take.new.self) ∙ sym (length-append front rest) ∙ ap length (sym value) ∙ sym c.args.entailed.now.ok.0 in
    with_items_is c.args.entailed.now (front ++ slice_set rest 0 c.take.new.self) same
    ∙ sym (ap (λ (xs : List Entailed). slice_set xs c.args.to (slice_index_or c.args.entailed.now.items c.args.from e)) value
    ∙ set-append_right front rest c.args.to c.args.to (slice_index_or c.args.entailed.now.items c.args.from e) long (omega arith)
    ∙ (λ i. front ++ slice_set rest ((let none : c.args.to - c.args.to ≡ 0 = omega arith in none) i) (sym taken i)))
