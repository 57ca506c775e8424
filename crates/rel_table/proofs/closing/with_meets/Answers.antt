use Rattle.rel_table.proofs.Prelude.{◌≡◌, ℕ, ◌∷◌, [], ◌++◌, map, take, sym, subst, ◌∙◌, ap, All, take_all, err_from_is_err_and, meet, IsInOrder, relations_in, IsOfKind}
use Rattle.rel_table.proofs.Inserting.{relations_more, in_order_alone}
use Rattle.rel_table.proofs.Growing.{closing_more, overflowed}
use Rattle.rel_table.proofs.closing.with_meets.Goals as goal

pub returns-in_err-grown-clause-many : goal.returns-in_err-grown-clause-many
returns-in_err-grown-clause-many c =
    let p = err_from_is_err_and c.from_residual-in_err-grown.result c.from_residual-in_err-grown.ensures.1 in
    let closed = relations_in c.args.closed.items in
    let meets = c.deref-meet-items.result.now in
    let i = c.loop-meet.meet-index in
    let all : relations_in meets ≡ map (λ r. meet r c.args.table.now.truth) closed ++ c.args.table.now.truth ∷ [] =
    ap relations_in c.deref-meet-items.ensures.value ∙ c.in_ok-meets.ensures.meets ∙ ap (λ xs. map (λ r. meet r c.args.table.now.truth) (relations_in xs) ++ c.args.table.now.truth ∷ []) c.deref.ensures.value in
    rw (p.1, p.2) (λ told file closing. overflowed file closed c.args.table.now.truth meets i c.meet-item.result closing all c.loop-meet-test.true c.meet-item.is
    (c.in_err-grown.ensures.many told (closed ++ relations_in (take i meets)) (c.loop-meet.invariant.order closed (in_order_alone closed closing.falling))))

pub loop-meet-preserved : goal.loop-meet-preserved
loop-meet-preserved c =
    let meets = c.deref-meet-items.result.now in
    let i = c.loop-meet.meet-index in
    let kind : IsOfKind c.args.table.now.arity c.args.table.now.value_count c.meet-item.result =
    subst (IsOfKind c.args.table.now.arity c.args.table.now.value_count) (sym c.meet-item.is) (subst (All (IsOfKind c.args.table.now.arity c.args.table.now.value_count)) (sym c.deref-meet-items.ensures.value) c.in_ok-meets.ensures.kinds i c.meet-item.result c.loop-meet-test.true) in
    record {
      order = λ relations order. subst (λ rs. IsInOrder rs (relations_in c.in_ok-grown.grown.items)) (sym (relations_more relations meets i c.meet-item.result c.loop-meet-test.true c.meet-item.is))
          (c.in_ok-grown.ensures.order (relations ++ relations_in (take i meets)) (c.loop-meet.invariant.order relations order));
      kinds = subst (λ (a : ℕ). All (IsOfKind a c.args.table.now.value_count) c.in_ok-grown.grown.items) kind.long
          (subst (λ (d : ℕ). All (IsOfKind c.meet-item.result.arity d) c.in_ok-grown.grown.items) kind.values c.in_ok-grown.ensures.kinds);
      few = c.in_ok-grown.ensures.few;
    }

pub returns-clause-closing : goal.returns-clause-closing
returns-clause-closing c = λ file closing.
    let closed = relations_in c.args.closed.items in
    let meets = c.deref-meet-items.result.now in
    let all : relations_in meets ≡ map (λ r. meet r c.args.table.now.truth) closed ++ c.args.table.now.truth ∷ [] =
    ap relations_in c.deref-meet-items.ensures.value ∙ c.in_ok-meets.ensures.meets ∙ ap (λ xs. map (λ r. meet r c.args.table.now.truth) (relations_in xs) ++ c.args.table.now.truth ∷ []) c.deref.ensures.value in
    closing_more file closed (relations_in c.loop-meet.grown.items) c.args.table.now.truth closing
    (subst (λ rs. IsInOrder (closed ++ rs) (relations_in c.loop-meet.grown.items)) (ap relations_in (take_all c.loop-meet.meet-index meets c.loop-meet-test.false) ∙ all)
    (c.loop-meet.invariant.order closed (in_order_alone closed closing.falling)))
