use Rattle.bias_store.proofs.Tabled.{added_none, added_more}
use Rattle.bias_store.proofs.Prelude.{ℕ, ◌+◌, List, sym, subst, AreAdded, none_given}
use Rattle.bias_store.specs.Made.{AcceptBy}
use Rattle.bias_store.proofs.tables.add_pair_masks.Goals as goal

pub returns-in_err-push : goal.returns-in_err-push
returns-in_err-push c = none_given _ _ c.from_residual.result c.from_residual.ensures.1

pub loop-place-init : goal.loop-place-init
loop-place-init c = added_none _ c.args.masks.now.items

pub loop-place-preserved : goal.loop-place-preserved
loop-place-preserved c =
    let IsRight : ℕ → ℕ → Type 0 = AcceptBy c.args.lang.now c.args.tables.now in
    let before = c.args.masks.now.items in
    subst (λ (items : List ℕ). AreAdded IsRight before items (c.loop-place.place + 1)) (sym c.in_ok-push.ensures.items)
    (added_more IsRight before c.loop-place.masks.items c.loop-place.place c.pair_mask.result c.loop-place.invariant c.pair_mask.ensures)
