use Rattle.multi_tree.proofs.Prelude.{◌≡◌, ◌∙◌, ◌∷◌, [], List, ℕ, ap, length, arith, numbers, variable_count, Ready}
use Rattle.std.proofs.lemmas.List.FromFn.{length-range_with_len}
use Rattle.multi_tree.proofs.Moves.{nothing_done}
use Rattle.multi_tree.proofs.tree.Tree.start.Goals as goal

pub push-requires : goal.push-requires
push-requires c =
    let size : length c.all.result ≡ c.n.result = ap length c.all.ensures ∙ length-range_with_len 0 c.n.result in
    let none : length c.clear.new.self ≡ 0 = ap length c.clear.ensures in
    omega (arith, c.n.ensures.is, c.n.ensures.lawful.few_variables)

pub returns-clause-stands : goal.returns-clause-stands
returns-clause-stands c =
    let all : c.all.result ≡ numbers (variable_count c.args.lang.now) = c.all.ensures ∙ ap numbers c.n.ensures.is in
    let waits : c.push.new.self ≡ numbers (variable_count c.args.lang.now) ∷ [] = c.push.ensures ∙ (λ i. all i ∷ c.clear.ensures i) in
    nothing_done c.args.lang.now c.args.e _ (ap (λ (waiting : List (List ℕ)). Ready (record { example = c.args.e; waiting = waiting; left = 4096 })) waits)
