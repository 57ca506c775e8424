use Rattle.voc_read.proofs.Prelude.{Bor, List, [], ◌∷◌, ℕ, ap, sym, ◌∙◌, length, length-append, arith, ok_or, option_map, map-append, err_from_is_err_and, as_str, WrongKind, texts_of}
use Rattle.voc_read.proofs.EachSteps.{reads_one_more, reads_no_more, reads_all, refuses, some_of_ok}
use Rattle.voc_read.proofs.values.texts_in.Goals as goal

pub loop-value-preserved : goal.loop-value-preserved
loop-value-preserved c = record {
  each = omega (arith, c.loop-value.invariant.each, ap length c.in_ok-push.ensures.items, length-append c.loop-value.texts.items (c.in_ok-text.text ∷ []));
  rest = reads_one_more as_str c.args.list.now c.loop-value.value-index c.value-item.result c.in_ok-text.text.now (texts_of c.loop-value.texts.items) _ _ c.loop-value-test.true c.value-item.is
      (sym c.as_str.ensures ∙ ap (option_map (λ (s : Bor (List ℕ)). s.now)) (some_of_ok c.as_str.result _ _ (sym c.ok_or.ensures.value ∙ c.in_ok-text.was)))
      (ap texts_of c.in_ok-push.ensures.items ∙ map-append (λ (text : Bor (List ℕ)). text.now) c.loop-value.texts.items (c.in_ok-text.text ∷ [])) c.loop-value.invariant.rest;
}

pub returns-in_err-text-clause-is : goal.returns-in_err-text-clause-is
returns-in_err-text-clause-is c =
    let p = err_from_is_err_and c.from_residual.result c.from_residual.ensures.1 in
    rw (p.1, p.2) (λ real. refuses c.as_str.result _ _ _ (sym c.ok_or.ensures.value ∙ c.in_err-text.was)
    (λ none. reads_no_more as_str c.args.list.now c.loop-value.value-index c.value-item.result (texts_of c.loop-value.texts.items) _ c.loop-value-test.true c.value-item.is
    (sym c.as_str.ensures ∙ ap (option_map (λ (s : Bor (List ℕ)). s.now)) none) c.loop-value.invariant.rest))

pub returns-clause-is : goal.returns-clause-is
returns-clause-is c =
    ap (λ o. ok_or o (WrongKind c.args.spot)) (reads_all as_str c.args.list.now c.loop-value.value-index (texts_of c.loop-value.texts.items) _ c.loop-value-test.false c.loop-value.invariant.rest)
