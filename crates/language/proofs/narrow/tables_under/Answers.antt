use Rattle.language.proofs.Prelude.{◌≡◌, ℕ, List, [], ◌∷◌, ◌++◌, get_or, map, take, sym, ◌∙◌, ap, subst, All, map_more, map_push, take_all, All-push, Relation, meet, TruthTable, IsOfKind, truths}
use Rattle.language.proofs.narrow.tables_under.Goals as goal

pub loop-table-preserved : goal.loop-table-preserved
loop-table-preserved c =
    let tables : List TruthTable = c.args.tables.now in
    let i : ℕ = c.loop-table.table-index in
    let table : TruthTable = c.table-item.result in
    let met : TruthTable = c.in_ok-meet.field-0 in
    let truth : TruthTable → Relation = λ t. t.truth in
    let cut : Relation → Relation = λ r. meet r c.args.mask.now.truth in
    let SameArity : TruthTable → Type 0 = λ t. t.arity ≡ c.args.mask.now.arity in
    let SameValues : TruthTable → Type 0 = λ t. t.value_count ≡ c.args.mask.now.value_count in
    let kind : IsOfKind c.args.mask.now.arity c.args.mask.now.value_count table = subst (IsOfKind c.args.mask.now.arity c.args.mask.now.value_count) (sym c.table-item.is) (c.requires i table c.loop-table-test.true) in
    record {
      are = ap truths c.in_ok-push.ensures.items
          ∙ map_push truth c.loop-table.under.items met
          ∙ (λ j. c.loop-table.invariant.are j ++ (c.in_ok-meet.ensures.truth ∙ ap (λ (t : TruthTable). cut t.truth) c.table-item.is) j ∷ [])
          ∙ sym (ap (map cut) (map_more truth tables i table c.loop-table-test.true) ∙ map_push cut (truths (take i tables)) (get_or tables i table).truth);
      arity = subst (All SameArity) (sym {A = List TruthTable} c.in_ok-push.ensures.items) (All-push SameArity c.loop-table.under.items met c.loop-table.invariant.arity (c.in_ok-meet.ensures.arity ∙ kind.long));
      values = subst (All SameValues) (sym {A = List TruthTable} c.in_ok-push.ensures.items) (All-push SameValues c.loop-table.under.items met c.loop-table.invariant.values (c.in_ok-meet.ensures.values ∙ kind.values));
    }

pub returns-clause-are : goal.returns-clause-are
returns-clause-are c = c.loop-table.invariant.are ∙ ap (λ ts. map (λ r. meet r c.args.mask.now.truth) (truths ts)) (take_all c.loop-table.table-index c.args.tables.now c.loop-table-test.false)
