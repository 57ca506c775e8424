use Rattle.propagators.proofs.Prelude.{length, take, ◌∙◌, arith, same_lists, length-take-le, get_or-take}
use Rattle.propagators.proofs.indexing.begins_with.Goals as goal

pub returns : goal.returns
returns c = λ _.
    let long = c.if-list-front.false in
    let done = c.loop-i-test.false in
    let size = length-take-le (length c.args.front.now) c.args.list.now (omega arith) in
    same_lists (take (length c.args.front.now) c.args.list.now) c.args.front.now size
    (λ k d low. get_or-take (length c.args.front.now) c.args.list.now k d (omega arith) ∙ c.loop-i.invariant k d (omega arith))
