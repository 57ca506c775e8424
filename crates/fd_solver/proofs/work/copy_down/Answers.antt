use Rattle.fd_solver.proofs.Prelude.{◌≡◌, ◌+◌, ◌-◌, ◌++◌, List, [], ap, sym, ◌∙◌, arith, length, length-append, length-set, slice_index_or, slice_set, get_or_read, Family}
use Rattle.std.proofs.lemmas.List.{set-append_right, get_or_append_left, with_items_is}
use Rattle.fd_solver.proofs.work.copy_down.Goals as goal

pub returns-clause-is : goal.returns-clause-is
returns-clause-is c =
    let front = c.split_at_mut-front.result.0.now in
    let rest = c.split_at_mut-front.result.1.now in
    let long = c.split_at_mut-front.ensures.front_len in
    let value : c.args.depths.now.items ≡ front ++ rest = sym c.deref_mut.ensures.value ∙ c.split_at_mut-front.ensures.value in
    let taken : c.take.new.self ≡ slice_index_or c.args.depths.now.items c.args.from [] =
    c.take.ensures ∙ sym c.index-front-from.is ∙ get_or_read front c.args.from c.index-front-from.result (omega arith) c.index-front-from.is []
    ∙ sym (get_or_append_left front rest [] c.args.from (omega arith)) ∙ ap (λ (xs : List Family). slice_index_or xs c.args.from []) (sym value) in
    let same : length (front ++ slice_set rest 0 c.take.new.self) ≡ c.args.depths.now.len =
    length-append front (slice_set rest 0 c.take.new.self) ∙ ap (λ k. length front + k) (length-set rest 0 c.take.new.self) ∙ sym (length-append front rest) ∙ ap length (sym value) ∙ sym c.args.depths.now.ok.0 in
    with_items_is c.args.depths.now (front ++ slice_set rest 0 c.take.new.self) same
    ∙ sym (ap (λ (xs : List Family). slice_set xs c.args.to (slice_index_or c.args.depths.now.items c.args.from [])) value
    ∙ set-append_right front rest c.args.to c.args.to (slice_index_or c.args.depths.now.items c.args.from []) long (omega arith)
    ∙ (λ i. front ++ slice_set rest ((let e : c.args.to - c.args.to ≡ 0 = omega arith in e) i) (sym taken i)))
