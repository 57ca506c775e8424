use Rattle.rel_table.proofs.Prelude.{◌≡◌, ℕ, List, [], ◌∷◌, ◌++◌, get_or, map, take, sym, subst, ◌∙◌, ap, length, Vec, All, Global, map_more, map_push, IfOk-weaker, All-push, TruthTable, Relation, meet, relations_in, IsOfKind}
use Rattle.rel_table.proofs.Meets.{length-meet}
use Rattle.rel_table.proofs.Inserting.{meets_done, meet_itself}
use Rattle.rel_table.proofs.closing.meets_with.Goals as goal

pub loop-other-preserved : goal.loop-other-preserved
loop-other-preserved c =
    let K : TruthTable → Type 0 = IsOfKind c.args.table.now.arity c.args.table.now.value_count in
    let closed : List TruthTable = c.args.closed.now in
    let i : ℕ = c.loop-other.other-index in
    let other : TruthTable = c.other-item.result in
    let table : Relation = c.args.table.now.truth in
    let with_table : Relation → Relation = λ r. meet r table in
    let kind : K other = subst K (sym c.other-item.is) (c.requires.kinds i other c.loop-other-test.true) in
    let both : K c.in_ok-both.both = record {
      long = c.in_ok-both.ensures.arity ∙ kind.long;
      values = c.in_ok-both.ensures.values ∙ kind.values;
      size = ap length c.in_ok-both.ensures.truth ∙ length-meet other.truth table (kind.size ∙ sym c.requires.size) ∙ kind.size;
    } in
    record {
      meets = ap relations_in c.in_ok-meets.ensures
          ∙ map_push (λ (t : TruthTable). t.truth) c.loop-other.meets.items c.in_ok-both.both
          ∙ (λ k. c.loop-other.invariant.meets k ++ (c.in_ok-both.ensures.truth ∙ ap (λ (t : TruthTable). meet t.truth table) c.other-item.is) k ∷ [])
          ∙ sym (ap (map with_table) (map_more (λ (t : TruthTable). t.truth) closed i other c.loop-other-test.true) ∙ map_push with_table (relations_in (take i closed)) (get_or closed i other).truth);
      kinds = subst (All K) (sym c.in_ok-meets.ensures) (All-push K c.loop-other.meets.items c.in_ok-both.both c.loop-other.invariant.kinds both);
    }

pub returns-clause-meets : goal.returns-clause-meets
returns-clause-meets c =
    IfOk-weaker c.add_item-2.result (λ (v : Vec TruthTable Global). v.items ≡ c.loop-other.meets.items ++ c.in_ok-copy.copy ∷ []) _
    (λ v e. meets_done c.args.closed.now c.loop-other.meets.items v.items c.loop-other.other-index c.args.table.now.truth c.in_ok-copy.copy c.loop-other-test.false c.loop-other.invariant.meets c.in_ok-copy.ensures.truth e)
    c.add_item-2.ensures

pub returns-clause-kinds : goal.returns-clause-kinds
returns-clause-kinds c =
    let K = IsOfKind c.args.table.now.arity c.args.table.now.value_count in
    let kind : K c.in_ok-copy.copy = record {
      long = c.in_ok-copy.ensures.arity;
      values = c.in_ok-copy.ensures.values;
      size = ap length (c.in_ok-copy.ensures.truth ∙ meet_itself c.args.table.now.truth) ∙ c.requires.size;
    } in
    IfOk-weaker c.add_item-2.result (λ (v : Vec TruthTable Global). v.items ≡ c.loop-other.meets.items ++ c.in_ok-copy.copy ∷ []) _
    (λ v e. subst (All K) (sym e) (All-push K c.loop-other.meets.items c.in_ok-copy.copy c.loop-other.invariant.kinds kind))
    c.add_item-2.ensures
