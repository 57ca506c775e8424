use Rattle.bias_store.proofs.Prelude.{◌<◌, ◌≤◌, length, subst, sym, ◌∙◌, arith, Contains, le-ltb, both_ways, KeptSet}
use Rattle.bias_store.proofs.Contained.{kept_is, kept_on, none_past}
use Rattle.bias_store.proofs.kept.Kept.is_kept.Goals as goal

pub returns-then-from-len : goal.returns-then-from-len
returns-then-from-len c =
    let masks = c.self.inside.relations in
    let low : c.args.c.scope < length masks = omega arith in (
      λ on. subst (λ (k : KeptSet). Contains k.members c.args.c) c.self.view_is (kept_is masks c.args.c c.on.result low c.on.ensures (sym c.has_relation.ensures ∙ on)),
      λ h. c.has_relation.ensures ∙ kept_on masks c.args.c c.on.result c.on.ensures (subst (λ (k : KeptSet). Contains k.members c.args.c) (sym c.self.view_is) h),
    )

pub returns-else-from-len : goal.returns-else-from-len
returns-else-from-len c =
    let masks = c.self.inside.relations in
    let past : length masks ≤ c.args.c.scope = omega arith in (
      λ on. absurd (both_ways _ (le-ltb c.from.result c.len.result c.if-from-len.false) on),
      λ h. absurd (none_past masks c.args.c past (subst (λ (k : KeptSet). Contains k.members c.args.c) (sym c.self.view_is) h)),
    )
