use Rattle.cert_check.proofs.Prelude.{◌≡◌, ◌+◌, ◌<◌, slice_index_or, List, ℕ, Vec, Global, length, length-replicate, subst, sym, ◌∙◌, ap, take, Answer, AreUnstruck, HaveLost}
use Rattle.std.proofs.Common.{replicate}
use Rattle.std.proofs.lemmas.List.{get_or-replicate, with_items_is}
use Rattle.cert_check.proofs.ByScope.{none_struck, no_strikes, yes_strikes}
use Rattle.cert_check.proofs.told.unstruck.Goals as goal
use Rattle.cert_check.proofs.told.unstruck.Goals.{then-entry, else-entry}

pub loop-entry-init : goal.loop-entry-init
loop-entry-init c =
    let all : c.in_ok-list.list.items ≡ replicate c.scopes.result 18446744073709551615 = c.in_ok-list.ensures.items_if_clones_equal (λ y same. same) in
    let long : length c.in_ok-list.list.items ≡ c.scopes.result = ap length all ∙ length-replicate c.scopes.result 18446744073709551615 in
    none_struck c.args.lang.now c.args.answers.now c.in_ok-list.list.items c.scopes.ensures.lawful (long ∙ c.scopes.ensures.is)
    (λ s low. ap (λ (xs : List ℕ). slice_index_or xs s 0) all ∙ get_or-replicate c.scopes.result s 18446744073709551615 0 (subst (λ n. s < n) long low))

pub loop-entry-preserved : goal.loop-entry-preserved
loop-entry-preserved c =
    elim c.if-entry.branch [
      | then-entry w ↦
          let put : c.if-entry.list.items ≡ w.strike.new.left = ap (λ (v : Vec ℕ Global). v.items) w.list-is ∙ with_items_is c.loop-entry.list w.strike.new.left (w.strike.ensures.long ∙ w.deref_mut.ensures.len) in
          let lost : HaveLost c.args.lang.now c.entry.inside.question (length c.loop-entry.list.items) c.loop-entry.list.items w.strike.new.left =
          subst (λ (xs : List ℕ). HaveLost c.args.lang.now c.entry.inside.question (length xs) xs w.strike.new.left) w.deref_mut.ensures.value w.strike.ensures in
          subst (AreUnstruck c.args.lang.now (take (c.loop-entry.entry-index + 1) c.args.answers.now)) (sym put)
          (yes_strikes c.args.lang.now c.args.answers.now c.loop-entry.entry-index c.entry-item.result c.loop-entry-test.true c.entry-item.is c.loop-entry.list.items w.strike.new.left
          (ap (λ (a : Answer). a.yes) (sym c.entry.view_is) ∙ w.if-entry.true) c.loop-entry.invariant
          (subst (λ (a : Answer). HaveLost c.args.lang.now a.question (length c.loop-entry.list.items) c.loop-entry.list.items w.strike.new.left) c.entry.view_is lost))
      | else-entry w ↦
          subst (AreUnstruck c.args.lang.now (take (c.loop-entry.entry-index + 1) c.args.answers.now)) (sym (ap (λ (v : Vec ℕ Global). v.items) w.list-is))
          (no_strikes c.args.lang.now c.args.answers.now c.loop-entry.entry-index c.entry-item.result c.loop-entry-test.true c.entry-item.is c.loop-entry.list.items
          (ap (λ (a : Answer). a.yes) (sym c.entry.view_is) ∙ w.if-entry.false) c.loop-entry.invariant)
    ]
