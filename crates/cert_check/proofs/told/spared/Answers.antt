use Rattle.cert_check.proofs.Prelude.{◌≡◌, ℕ, ◌+◌, ◌<◌, not, Vec, Global, Option, Some, None, List, length, slice_set, bit_or, sym, ◌∙◌, ap, subst, take, arith, slice_index_or, unwrap_or, false_from_ne_true, is_one, Answer, relations_on, violates, AreSpared}
use Rattle.cert_check.proofs.ByScope.{spared_same, spared_more}
use Rattle.cert_check.proofs.Finding.{within}
use Rattle.cert_check.proofs.told.spared.Goals as goal
use Rattle.cert_check.proofs.told.spared.Goals.{in-Some, in_default}

pub loop-entry-preserved : goal.loop-entry-preserved
loop-entry-preserved c =
    let l = c.args.lang.now in
    let t = c.args.answers.now in
    let i = c.loop-entry.entry-index in
    let list : List (Option ℕ) = c.loop-entry.list.items in
    elim c.match-own_scope.branch [
      | in-Some w ↦
          let s : ℕ = w.in-Some.s in
          let low : s < length list = (let known = w.in-Some.ensures.known in let long = c.loop-entry.invariant.long in omega (arith, known, long)) in
          let before : w.unwrap_or-before.result ≡ unwrap_or (slice_index_or list s None) 0 =
          w.unwrap_or-before.ensures ∙ ap (λ o. unwrap_or o 0) (w.index.ensures ∙ ap (λ k. slice_index_or list k w.index.result.now) w.from.ensures ∙ within list s w.index.result.now None low) in
          let put : c.match-own_scope.list.items ≡ slice_set list s (Some (bit_or (unwrap_or (slice_index_or list s None) 0) w.unviolated-accepting.result)) =
          ap (λ (v : Vec (Option ℕ) Global). v.items) w.list-is ∙ (λ j. slice_set list (w.from-in-Some.ensures j) (Some (bit_or (before j) w.unviolated-accepting.result))) in
          subst (AreSpared l (take (i + 1) t)) (sym put)
          (spared_more l t i c.entry-item.result c.loop-entry-test.true c.entry-item.is list s w.unviolated-accepting.result w.in-Some.ensures.known w.in-Some.ensures.about w.in-Some.ensures.only
          (subst (λ (b : Answer). (r : ℕ) → r < length (relations_on l s) → is_one w.unviolated-accepting.result r ≡ not (violates l (record { scope = s; rel = r }) b.question)) c.entry.view_is w.unviolated-accepting.ensures)
          c.loop-entry.invariant)
      | in_default w ↦ subst (AreSpared l (take (i + 1) t)) (sym (ap (λ (v : Vec (Option ℕ) Global). v.items) w.list-is))
          (spared_same l t i c.entry-item.result c.loop-entry-test.true c.entry-item.is list
          (λ s low. false_from_ne_true _ (λ on. w.in_default.not-Some s (c.own_scope.ensures.only s low on)))
          c.loop-entry.invariant)
    ]
