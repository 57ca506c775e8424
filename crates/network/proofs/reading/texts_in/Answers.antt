use Rattle.network.proofs.Prelude.{◌++◌, Bor, List, [], ◌∷◌, ℕ, Some, ap, sym, ◌∙◌, ok_or, option_map, append-nil, at_drop_all, map-append, items_view, texts_of, BadItem, each_text}
use Rattle.network.proofs.Items.{some_of_ok, text_more}
use Rattle.network.proofs.reading.texts_in.Goals as goal

pub loop-value-preserved : goal.loop-value-preserved
loop-value-preserved c =
    text_more c.args.list.now c.loop-value.value-index c.value-item.result c.in_ok-text.text.now (texts_of c.loop-value.texts.items) _ _ c.loop-value-test.true c.value-item.is
    (sym c.as_str.ensures ∙ ap (option_map (λ (s : Bor (List ℕ)). s.now)) (some_of_ok c.as_str.result _ _ (sym c.ok_or.ensures.value ∙ c.in_ok-text.was)))
    (ap texts_of c.in_ok-push.ensures.items ∙ map-append (λ (text : Bor (List ℕ)). text.now) c.loop-value.texts.items (c.in_ok-text.text ∷ [])) c.loop-value.invariant

pub returns : goal.returns
returns c =
    ap (λ o. ok_or o (BadItem c.args.i))
    (sym c.loop-value.invariant ∙ at_drop_all (λ vs. option_map (λ more. texts_of c.loop-value.texts.items ++ more) (each_text (items_view vs))) c.args.list.now c.loop-value.value-index c.loop-value-test.false
    ∙ ap Some (append-nil (texts_of c.loop-value.texts.items)))
