use Rattle.rel_table.proofs.Prelude.{◌≡◌, ℕ, List, ◌+◌, ◌∷◌, [], ◌++◌, Vec, take, sym, subst, ◌∙◌, ap, take_all, All, Global, err_from_is_err_and, IsClosing, TruthTable, relations_in, relations_of, IsOfKind, IsClosed, HasTooMany}
use Rattle.rel_table.proofs.Inserting.{of_more, of_no_more, of_taken}
use Rattle.rel_table.proofs.Growing.{too_many_wider}
use Rattle.rel_table.proofs.closing.close_arity.Goals as goal
use Rattle.rel_table.proofs.closing.close_arity.Goals.{then-arity+in_ok-closed, else-arity}

pub returns-in_err-closed-clause-many : goal.returns-in_err-closed-clause-many
returns-in_err-closed-clause-many g c =
    let p = err_from_is_err_and c.from_residual.result c.from_residual.ensures.1 in
    let file = c.args.file.now in
    let i = c.loop-table.table-index in
    let more : relations_of c.args.arity (take (i + 1) file) ≡ relations_of c.args.arity (take i file) ++ c.table-item.result.truth ∷ [] =
    of_more c.args.arity file i c.table-item.result c.loop-table-test.true c.table-item.is (sym c.arity.ensures.is ∙ c.if-arity.true) in
    rw (p.1, p.2) (λ told. too_many_wider (relations_of c.args.arity (take (i + 1) file)) (relations_of c.args.arity file) (of_taken c.args.arity file (i + 1))
    (subst HasTooMany (sym more) (c.in_err-closed.ensures.many told (relations_of c.args.arity (take i file)) c.loop-table.invariant.closing)))

pub loop-table-preserved : goal.loop-table-preserved
loop-table-preserved g c =
    elim c.if-arity.branch [
      | then-arity+in_ok-closed w ↦
          (let file = c.args.file.now in
          let i = c.loop-table.table-index in
          let arity : c.table-item.result.arity ≡ c.args.arity = sym c.arity.ensures.is ∙ w.if-arity.true in
          let values : c.table-item.result.value_count ≡ g.d = ap (λ (t : TruthTable). t.value_count) c.table-item.is ∙ c.requires i c.table-item.result c.loop-table-test.true in
          let is : IsClosed c.args.arity g.d (take (i + 1) file) w.in_ok-closed.closed.items = record {
            closing = subst (λ rs. IsClosing rs (relations_in w.in_ok-closed.closed.items)) (sym (of_more c.args.arity file i c.table-item.result c.loop-table-test.true c.table-item.is arity))
                (w.in_ok-closed.ensures.closing (relations_of c.args.arity (take i file)) c.loop-table.invariant.closing);
            kinds = subst (λ (a : ℕ). All (IsOfKind a g.d) w.in_ok-closed.closed.items) arity
                (subst (λ (d : ℕ). All (IsOfKind c.table-item.result.arity d) w.in_ok-closed.closed.items) values w.in_ok-closed.ensures.kinds);
            few = w.in_ok-closed.ensures.few;
          } in
          subst (λ (v : Vec TruthTable Global). IsClosed c.args.arity g.d (take (i + 1) file) v.items) (sym w.closed-is) is)
      | else-arity w ↦
          (let file = c.args.file.now in
          let i = c.loop-table.table-index in
          let is : IsClosed c.args.arity g.d (take (i + 1) file) c.loop-table.closed.items = record {
            closing = subst (λ rs. IsClosing rs (relations_in c.loop-table.closed.items))
                (sym (of_no_more c.args.arity file i c.table-item.result c.loop-table-test.true c.table-item.is (λ e. w.if-arity.false (c.arity.ensures.is ∙ e)))) c.loop-table.invariant.closing;
            kinds = c.loop-table.invariant.kinds;
            few = c.loop-table.invariant.few;
          } in
          subst (λ (v : Vec TruthTable Global). IsClosed c.args.arity g.d (take (i + 1) file) v.items) (sym w.closed-is) is)
    ]

pub with_meets-requires-clause-size : goal.with_meets-requires-clause-size
with_meets-requires-clause-size g c = c.arity.ensures.lawful.each

pub with_meets-requires-clause-kinds : goal.with_meets-requires-clause-kinds
with_meets-requires-clause-kinds g c =
    let table : TruthTable = c.table-item.result in
    let arity : table.arity ≡ c.args.arity = sym c.arity.ensures.is ∙ c.if-arity.true in
    let values : table.value_count ≡ g.d = ap (λ (t : TruthTable). t.value_count) c.table-item.is ∙ c.requires c.loop-table.table-index table c.loop-table-test.true in
    subst (λ (a : ℕ). All (IsOfKind a table.value_count) c.loop-table.closed.items) (sym arity)
    (subst (λ (d : ℕ). All (IsOfKind c.args.arity d) c.loop-table.closed.items) (sym values) c.loop-table.invariant.kinds)

pub with_meets-requires-clause-few : goal.with_meets-requires-clause-few
with_meets-requires-clause-few g c = c.loop-table.invariant.few

pub returns-clause-closed : goal.returns-clause-closed
returns-clause-closed g c =
    subst (λ (file : List TruthTable). IsClosed c.args.arity g.d file c.loop-table.closed.items) (take_all c.loop-table.table-index c.args.file.now c.loop-table-test.false) c.loop-table.invariant
