use Rattle.bias_store.proofs.Prelude.{◌≡◌, ℕ, ◌+◌, ◌*◌, sym, ◌∙◌, ap, subst, arith, Accepts, AreAdded, none_given}
use Rattle.bias_store.proofs.Tabled.{added_none, row_more}
use Rattle.bias_store.proofs.tables.add_masks.Goals as goal

pub returns-in_err-add_row : goal.returns-in_err-add_row
returns-in_err-add_row c = none_given _ _ c.from_residual.result c.from_residual.ensures.1

pub loop-row-init : goal.loop-row-init
loop-row-init c =
    let IsRight : ℕ → ℕ → Type 0 = Accepts c.args.lang.now c.args.s in
    let before = c.args.masks.now.items in
    let none : 0 ≡ 0 * c.from-d.result = omega arith in
    subst (AreAdded IsRight before before) none (added_none IsRight before)

pub loop-row-preserved : goal.loop-row-preserved
loop-row-preserved c =
    let row = c.loop-row.row in
    let d = c.from-d.result in
    let values : d ≡ c.args.lang.now.value_count = c.from-d.ensures ∙ c.d.ensures.is in
    let next : row * d + c.args.lang.now.value_count ≡ (row + 1) * d = sym (row_more row d ∙ ap (λ (n : ℕ). row * d + n) values) in
    subst (AreAdded (Accepts c.args.lang.now c.args.s) c.args.masks.now.items c.add_row.new.masks.items) next (c.in_ok-add_row.ensures c.args.masks.now.items c.loop-row.invariant)
