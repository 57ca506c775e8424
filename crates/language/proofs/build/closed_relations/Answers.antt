use Rattle.language.proofs.Prelude.{◌≡◌, ◌-◌, [], get_or, sym, ◌∙◌, subst, arith, All, get_or-map, length-map, All-map, TruthTable, IsTable, IsClosed, IsRefused, TooMany, RelPart}
use Rattle.language.proofs.Closings.{made, closed_of, refused_for}
use Rattle.language.proofs.build.closed_relations.Goals as goal

pub close-requires : goal.close-requires
close-requires g c =
    subst (All (λ (t : TruthTable). t.value_count ≡ g.d)) (sym (c.deref.ensures.value ∙ c.in_ok-tables.ensures.is))
    (All-map (λ (t : TruthTable). t.value_count ≡ g.d) (λ (part : RelPart). part.table) c.args.rels.now c.requires)

pub returns-in-Ok-clause-closed : goal.returns-in-Ok-clause-closed
returns-in-Ok-clause-closed g c = λ arity some short.
    closed_of g.d c.args.rels.now arity _ (subst (λ file. IsClosed arity g.d file (get_or c.in-Ok.closed (arity - 1) [])) (c.deref.ensures.value ∙ c.in_ok-tables.ensures.is)
    (c.in-Ok.ensures.closed arity some short))

pub returns-in-Ok-clause-made : goal.returns-in-Ok-clause-made
returns-in-Ok-clause-made g c =
    made g.d c.args.rels.now c.in-Ok.closed (λ arity some short. subst (λ file. IsClosed arity g.d file (get_or c.in-Ok.closed (arity - 1) [])) (c.deref.ensures.value ∙ c.in_ok-tables.ensures.is)
    (c.in-Ok.ensures.closed arity some short))

pub returns-in-Ok-clause-lawful : goal.returns-in-Ok-clause-lawful
returns-in-Ok-clause-lawful g c = λ k d low.
    subst IsTable (get_or-map (λ (part : RelPart). part.table) c.args.rels.now k d d.table low)
    (subst (All IsTable) c.in_ok-tables.ensures.is c.in_ok-tables.ensures.lawful k d.table (omega (arith, low, length-map c.args.rels.now (λ (part : RelPart). part.table))))

pub returns-in-Err-TooMany-clause-refused : goal.returns-in-Err-TooMany-clause-refused
returns-in-Err-TooMany-clause-refused g c = λ other.
    refused_for c.args.rels.now c.in-Err-TooMany.arity
    (subst (λ file. IsRefused file (TooMany c.in-Err-TooMany.arity)) (c.deref.ensures.value ∙ c.in_ok-tables.ensures.is) (subst (IsRefused c.deref.result.now) c.in-Err-TooMany.field-0-is c.in-Err-TooMany.ensures.refused))
