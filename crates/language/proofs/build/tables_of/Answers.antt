use Rattle.language.proofs.Prelude.{◌≡◌, [], ◌∷◌, ◌++◌, sym, ◌∙◌, ap, subst, All, map_more, All-push, IsTable, meet_itself, same_table_value, RelPart}
use Rattle.language.proofs.build.tables_of.Goals as goal

pub loop-rel-preserved : goal.loop-rel-preserved
loop-rel-preserved c =
    let same : c.in_ok-copy.copy ≡ c.rel-item.result.table =
    same_table_value c.in_ok-copy.copy c.rel-item.result.table c.in_ok-copy.ensures.arity c.in_ok-copy.ensures.values (c.in_ok-copy.ensures.truth ∙ meet_itself c.rel-item.result.table.truth) in
    record {
      is = c.in_ok-push.ensures.items
          ∙ (λ i. c.loop-rel.invariant.is i ++ (same ∙ ap (λ (part : RelPart). part.table) c.rel-item.is) i ∷ [])
          ∙ sym (map_more (λ (part : RelPart). part.table) c.args.rels.now c.loop-rel.rel-index c.rel-item.result c.loop-rel-test.true);
      lawful = subst (All IsTable) (sym c.in_ok-push.ensures.items) (All-push IsTable c.loop-rel.tables.items c.in_ok-copy.copy c.loop-rel.invariant.lawful
          (subst IsTable (sym same) c.arity-arity.ensures.lawful));
    }
