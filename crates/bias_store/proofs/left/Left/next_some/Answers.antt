use Rattle.bias_store.proofs.Prelude.{◌≡◌, ◌<◌, ◌≤◌, ◌⊎◌, ℕ, ◌+◌, ◌^◌, List, inl, inr, length, get_or, get_or_read, arith, cases_lt, subst, sym, ap, ◌∙◌, ones_of}
use Rattle.bias_store.proofs.Leaving.{none_of_word, place_within, none_before, none_through}
use Rattle.assign.proofs.Ones.{no_ones}
use Rattle.bias_store.proofs.left.Left.next_some.Goals as goal

pub loop-s-preserved-then-word-eq0 : goal.loop-s-preserved-then-word-eq0
loop-s-preserved-then-word-eq0 c =
    let ahead = c.loop-s.invariant.ahead in
    let go : (k : ℕ) → c.args.from ≤ k → k < c.loop-s.s + c.min-count.result → (k < c.loop-s.s) ⊎ (c.loop-s.s ≤ k) → get_or c.args.self.now k 0 ≡ 0 = λ k low high side. elim side [
      | inl before ↦ c.loop-s.invariant.none k low before
      | inr behind ↦ none_of_word c.args.self.now c.loop-s.s c.min-count.result c.word-word.result c.word-word.ensures c.if-word-eq0.true k behind high
    ] in
    record {
      ahead = omega arith;
      within = omega (arith, c.min-count.ensures);
      none = λ k low high. go k low high (cases_lt k c.loop-s.s);
    }

pub returns-then-index-ne0-clause-none : goal.returns-then-index-ne0-clause-none
returns-then-index-ne0-clause-none c =
    none_before c.args.self.now c.args.from c.loop-s.s c.min-count.result c.word-word.result c.take_least.result.0 c.from-s.result c.take_least.result.1 c.word-word.ensures c.take_least.ensures c.from-s.ensures
    c.loop-s.invariant.none

pub returns-then-index-ne0-clause-some : goal.returns-then-index-ne0-clause-some
returns-then-index-ne0-clause-some c = λ low none.
    let masks = c.self.inside.masks.items in
    let long = ap length c.self.view_is in
    let within = place_within c.args.self.now c.args.from c.loop-s.s c.min-count.result c.word-word.result c.take_least.result.0 c.from-s.result c.take_least.result.1 c.word-word.ensures c.take_least.ensures c.from-s.ensures
    c.loop-s.invariant.none in
    let known = c.requires.known in
    let here : c.index.result.now ≡ get_or masks (c.loop-s.s + c.from-s.result) 0 = get_or_read masks (c.loop-s.s + c.from-s.result) c.index.result.now (omega (arith, long)) c.index.ensures 0 in
    c.if-index-ne0.true (no_ones c.index.result.now (subst (λ m. m < 2 ^ 64) (sym here) (c.self.invariant.small (c.loop-s.s + c.from-s.result))) (ap ones_of (here ∙ ap (λ ms. get_or ms (c.loop-s.s + c.from-s.result) 0) c.self.view_is) ∙ none))

pub loop-s-preserved : goal.loop-s-preserved
loop-s-preserved c =
    let masks = c.self.inside.masks.items in
    let long = ap length c.self.view_is in
    let known = c.requires.known in
    let ahead = c.loop-s.invariant.ahead in
    let within = place_within c.args.self.now c.args.from c.loop-s.s c.min-count.result c.word-word.result c.take_least.result.0 c.from-s.result c.take_least.result.1 c.word-word.ensures c.take_least.ensures c.from-s.ensures
    c.loop-s.invariant.none in
    let here : c.index.result.now ≡ get_or masks (c.loop-s.s + c.from-s.result) 0 = get_or_read masks (c.loop-s.s + c.from-s.result) c.index.result.now (omega (arith, long, c.min-count.ensures)) c.index.ensures 0 in
    record {
      ahead = omega arith;
      within = omega (arith, c.min-count.ensures);
      none = none_through c.args.self.now c.args.from c.loop-s.s c.min-count.result c.word-word.result c.take_least.result.0 c.from-s.result c.take_least.result.1 c.word-word.ensures c.take_least.ensures c.from-s.ensures
          c.loop-s.invariant.none (ap (λ ms. get_or ms (c.loop-s.s + c.from-s.result) 0) (sym c.self.view_is) ∙ sym here ∙ c.if-index-ne0.false);
    }
