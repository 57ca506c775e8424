use Rattle.target_oracle.proofs.Prelude.{ℕ, List, ◌∙◌, length, map, list_all, ap, arith, sym}
use Rattle.std.specs.Prelude.{vec_items}
use Rattle.std.proofs.lemmas.List.{length-drop}
use Rattle.target_oracle.specs.Listing.{accepts_at}
use Rattle.target_oracle.proofs.Listings.{none_left, some_left}
use Rattle.target_oracle.proofs.net.accepts_listed.Goals as goal

pub loop-v-init : goal.loop-v-init
loop-v-init c = ap (λ (vars : List ℕ). list_all (accepts_at c.args.lang.now (map vec_items c.args.lists.now) c.args.q.now) vars) (sym c.vars-left.ensures)

pub loop-v-smaller : goal.loop-v-smaller
loop-v-smaller c =
    let some = some_left c.loop-v.left c.in-Some.v (sym c.in-Some.is ∙ c.pop_first.ensures.first) in
    let fewer = ap length c.pop_first.ensures.rest ∙ length-drop 1 c.loop-v.left in
    omega (arith, some, fewer)

pub returns : goal.returns
returns c =
    let all = none_left (accepts_at c.args.lang.now (map vec_items c.args.lists.now) c.args.q.now) c.loop-v.left (sym c.in_default.is ∙ c.pop_first.ensures.first) in
    sym (c.loop-v.invariant ∙ all)
