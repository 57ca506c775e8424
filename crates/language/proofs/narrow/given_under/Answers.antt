use Rattle.language.proofs.Prelude.{◌≡◌, ◌∙◌, ap, sym, subst, All, All-push, TruthTable, RelPart, truths}
use Rattle.language.proofs.Chosen.{one_cut, none_cut}
use Rattle.language.proofs.narrow.given_under.Goals as goal
use Rattle.language.proofs.narrow.given_under.Goals.{then-arity+in_ok-meet+in_ok-push, else-arity}

pub loop-part-preserved : goal.loop-part-preserved
loop-part-preserved c =
    elim c.if-arity.branch [
      | then-arity+in_ok-meet+in_ok-push w ↦
          let same = sym c.arity.ensures.is ∙ w.if-arity.true ∙ c.arity-in-loop-part.ensures.is in
          let after = ap (λ v. v.items) w.under-is ∙ w.in_ok-push.ensures.items in
          record {
            are = one_cut c.args.mask.now.truth c.args.rels.now c.loop-part.part-index c.part-item.result c.args.mask.now.arity c.loop-part.under.items c.if-arity.under.items w.in_ok-meet.field-0
                c.loop-part-test.true c.part-item.is same after w.in_ok-meet.ensures.truth c.loop-part.invariant.are;
            arity = subst (All (λ (t : TruthTable). t.arity ≡ c.args.mask.now.arity)) (sym after)
                (All-push (λ (t : TruthTable). t.arity ≡ c.args.mask.now.arity) c.loop-part.under.items w.in_ok-meet.field-0 c.loop-part.invariant.arity (w.in_ok-meet.ensures.arity ∙ same));
            values = subst (All (λ (t : TruthTable). t.value_count ≡ c.args.mask.now.value_count)) (sym after)
                (All-push (λ (t : TruthTable). t.value_count ≡ c.args.mask.now.value_count) c.loop-part.under.items w.in_ok-meet.field-0 c.loop-part.invariant.values
                (w.in_ok-meet.ensures.values ∙ ap (λ (part : RelPart). part.table.value_count) c.part-item.is ∙ c.requires c.loop-part.part-index c.part-item.result c.loop-part-test.true));
          }
      | else-arity w ↦
          let same = ap (λ v. v.items) w.under-is in
          record {
            are = ap truths same ∙ none_cut c.args.mask.now.truth c.args.rels.now c.loop-part.part-index c.part-item.result c.args.mask.now.arity c.loop-part.under.items
                c.loop-part-test.true c.part-item.is (λ e. w.if-arity.false (c.arity.ensures.is ∙ e ∙ sym c.arity-in-loop-part.ensures.is)) c.loop-part.invariant.are;
            arity = subst (All (λ (t : TruthTable). t.arity ≡ c.args.mask.now.arity)) (sym same) c.loop-part.invariant.arity;
            values = subst (All (λ (t : TruthTable). t.value_count ≡ c.args.mask.now.value_count)) (sym same) c.loop-part.invariant.values;
          }
    ]
