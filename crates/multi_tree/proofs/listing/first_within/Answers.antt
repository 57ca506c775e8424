use Rattle.multi_tree.proofs.Prelude.{◌≡◌, Bool, take, sym, ◌∙◌, ap, arith, list_any, option_map, take_all, is_within, Violated, find_nothing}
use Rattle.multi_tree.proofs.Turning.{find_first}
use Rattle.multi_tree.proofs.listing.first_within.Goals as goal

pub returns-then-within : goal.returns-then-within
returns-then-within c =
    ap (option_map (λ (v : Violated). v.item)) (sym
    (find_first (λ v. is_within v.variables c.args.set) c.args.list.now c.loop-v.v-index c.v-item.result (omega arith) c.loop-v.invariant (sym c.v-item.is)
    (sym c.within.ensures ∙ c.if-within.true)))

pub returns : goal.returns
returns c =
    let passes : Violated → Bool = λ v. is_within v.variables c.args.set in
    let all : take c.loop-v.v-index c.args.list.now ≡ c.args.list.now = take_all c.loop-v.v-index c.args.list.now (omega arith) in
    ap (option_map (λ (v : Violated). v.item)) (sym (find_nothing passes c.args.list.now (ap (list_any passes) (sym all) ∙ c.loop-v.invariant)))
