use Rattle.cert_check.proofs.Prelude.{ℕ, suc, List, drop, get_or, sym, ◌∙◌, ap, add-one, drop-cons, drop_all, Branch, are_trees, is_lawful_node, ahead}
use Rattle.cert_check.proofs.Walking.{at_blank, tree_begins, tree_ends, tree_shut, tree_unlawful, tree_step}
use Rattle.cert_check.proofs.walk.refutes.Goals as goal
use Rattle.cert_check.proofs.walk.refutes.Goals.{then-not-is_open-via-then-not-is_open, then-not-is_open-via-else-not-is_open+then-not-is_lawful}

pub loop-token-init : goal.loop-token-init
loop-token-init c = record {
  at = at_blank c.args.lang.now c.n.ensures.lawful c.args.c c.requires.candidate c.new-values.result.items c.blank-e.result c.n.result c.new-values.ensures c.n.ensures.is c.blank-e.ensures;
  rest = tree_begins c.args.lang.now c.args.net.now c.args.c c.new-values.result.items c.args.tokens.now c.new-values.ensures;
}

pub returns-then-not-is_open : goal.returns-then-not-is_open
returns-then-not-is_open c =
    elim c.then-not-is_open.branch [
      | then-not-is_open-via-then-not-is_open w ↦
          sym (tree_shut c.args.lang.now c.args.net.now c.args.c c.loop-token.is_open c.loop-token.values.items (get_or c.args.tokens.now c.loop-token.token-index Branch) (drop (suc c.loop-token.token-index) c.args.tokens.now) w.if-not-is_open.true)
          ∙ sym (ap (are_trees c.args.lang.now c.args.net.now c.args.c (ahead c.loop-token.is_open c.args.lang.now c.args.c c.loop-token.values.items)) (drop-cons c.args.tokens.now c.loop-token.token-index Branch c.loop-token-test.true))
          ∙ c.loop-token.invariant.rest
      | then-not-is_open-via-else-not-is_open+then-not-is_lawful w ↦
          sym (tree_unlawful c.args.lang.now c.args.net.now c.args.c c.loop-token.is_open c.loop-token.values.items (get_or c.args.tokens.now c.loop-token.token-index Branch) (drop (suc c.loop-token.token-index) c.args.tokens.now)
          (ap (λ (vs : List ℕ). is_lawful_node c.args.lang.now c.args.net.now c.args.c vs (get_or c.args.tokens.now c.loop-token.token-index Branch)) (sym w.deref.ensures.0) ∙ sym w.is_lawful.ensures ∙ w.if-not-is_lawful.true))
          ∙ sym (ap (are_trees c.args.lang.now c.args.net.now c.args.c (ahead c.loop-token.is_open c.args.lang.now c.args.c c.loop-token.values.items)) (drop-cons c.args.tokens.now c.loop-token.token-index Branch c.loop-token-test.true))
          ∙ c.loop-token.invariant.rest
    ]

pub loop-token-preserved : goal.loop-token-preserved
loop-token-preserved c = record {
  at = c.step-is_open.ensures.at;
  rest =
      ap (λ k. are_trees c.args.lang.now c.args.net.now c.args.c (ahead c.step-is_open.result c.args.lang.now c.args.c c.step-is_open.new.values.items) (drop k c.args.tokens.now)) (add-one c.loop-token.token-index)
      ∙ sym (tree_step c.args.lang.now c.args.net.now c.args.c c.loop-token.is_open c.loop-token.values.items (get_or c.args.tokens.now c.loop-token.token-index Branch) (drop (suc c.loop-token.token-index) c.args.tokens.now)
      (ahead c.step-is_open.result c.args.lang.now c.args.c c.step-is_open.new.values.items) c.if-not-is_open.false
      (ap (λ (vs : List ℕ). is_lawful_node c.args.lang.now c.args.net.now c.args.c vs (get_or c.args.tokens.now c.loop-token.token-index Branch)) (sym c.deref.ensures.0) ∙ sym c.is_lawful.ensures ∙ c.if-not-is_lawful.false)
      c.step-is_open.ensures.next)
      ∙ sym (ap (are_trees c.args.lang.now c.args.net.now c.args.c (ahead c.loop-token.is_open c.args.lang.now c.args.c c.loop-token.values.items)) (drop-cons c.args.tokens.now c.loop-token.token-index Branch c.loop-token-test.true))
      ∙ c.loop-token.invariant.rest;
}

pub returns : goal.returns
returns c =
    let past = c.loop-token-test.false in
    sym (tree_ends c.args.lang.now c.args.net.now c.args.c c.loop-token.is_open c.loop-token.values.items)
    ∙ ap (are_trees c.args.lang.now c.args.net.now c.args.c (ahead c.loop-token.is_open c.args.lang.now c.args.c c.loop-token.values.items)) (sym (drop_all c.loop-token.token-index c.args.tokens.now past))
    ∙ c.loop-token.invariant.rest
