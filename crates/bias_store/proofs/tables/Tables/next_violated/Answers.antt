use Rattle.bias_store.proofs.Prelude.{◌≡◌, ℕ, ◌+◌, ◌<◌, ◌≤◌, ◌⊎◌, inl, inr, [], length, get_or, None, sym, ◌∙◌, ap, subst, arith, cases_lt, cases_eq, value_of, scope_at, ones_of, Accepting, AreRunsFrom, violated_on, ones_of-zero}
use Rattle.bias_store.proofs.Members.{read_at}
use Rattle.bias_store.proofs.Runs.{run_open}
use Rattle.bias_store.proofs.Violating.{open_violated}
use Rattle.bias_store.proofs.tables.Tables.next_violated.Goals as goal

pub loop-s-preserved-in_default : goal.loop-s-preserved-in_default
loop-s-preserved-in_default c =
    let l = c.args.lang.now in
    let q = c.args.q.now in
    let next = c.self.inside.next.items in
    let runs : AreRunsFrom l next 0 = subst (λ (a : Accepting). AreRunsFrom l a.next 0) (sym c.self.view_is) c.requires.made.runs in
    let here : c.loop-s.s < length l.scopes = omega (arith, c.scopes-scopes.ensures.is, c.loop-s-test.true) in
    let long = runs.long in
    let to : c.index-s.result.now ≡ get_or next c.loop-s.s 0 = read_at next c.loop-s.s c.from.result c.index-s.result.now (omega arith) c.from.ensures c.index-s.ensures in
    let ahead = runs.ahead c.loop-s.s (omega arith) here in
    let within = runs.within c.loop-s.s (omega arith) here in
    let before = c.loop-s.invariant.ahead in
    let bare : value_of q (get_or (scope_at l c.loop-s.s) 0 0) ≡ None = sym (c.get.ensures ∙ ap (λ xs. value_of q (get_or xs 0 0)) c.scope.ensures.is) ∙ c.in_default.is in
    let go : (k : ℕ) → c.args.from ≤ k → k < c.index-s.result.now → (k < c.loop-s.s) ⊎ (c.loop-s.s ≤ k) → violated_on l q k (get_or c.args.left.now k 0) ≡ [] = λ k from until side. elim side [
      | inl earlier ↦ c.loop-s.invariant.none k from earlier
      | inr behind ↦ open_violated l q k (get_or c.args.left.now k 0) (run_open l q next c.loop-s.s k c.scopes-scopes.ensures.lawful runs here bare behind (omega arith))
    ] in
    record {
      ahead = omega arith;
      within = omega arith;
      none = λ k from until. go k from until (cases_lt k c.loop-s.s);
    }

pub loop-s-preserved : goal.loop-s-preserved
loop-s-preserved c =
    let l = c.args.lang.now in
    let q = c.args.q.now in
    let here : c.loop-s.s < length l.scopes = omega (arith, c.scopes-scopes.ensures.is, c.loop-s-test.true) in
    let before = c.loop-s.invariant.ahead in
    let none_here : violated_on l q c.loop-s.s (get_or c.args.left.now c.loop-s.s 0) ≡ [] =
    ap (violated_on l q c.loop-s.s) (sym c.on.ensures) ∙ sym c.violated_on-violated.ensures ∙ ap ones_of c.if-violated-ne0.false ∙ ones_of-zero in
    let go : (k : ℕ) → c.args.from ≤ k → k < c.loop-s.s + 1 → (k ≡ c.loop-s.s) ⊎ (k ≡ c.loop-s.s → ⊥) → violated_on l q k (get_or c.args.left.now k 0) ≡ [] = λ k from until side. elim side [
      | inl same ↦ subst (λ (t : ℕ). violated_on l q t (get_or c.args.left.now t 0) ≡ []) (sym same) none_here
      | inr other ↦ c.loop-s.invariant.none k from (omega arith)
    ] in
    record {
      ahead = omega arith;
      within = omega arith;
      none = λ k from until. go k from until (cases_eq k c.loop-s.s);
    }
