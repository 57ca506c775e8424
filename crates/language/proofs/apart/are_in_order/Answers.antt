use Rattle.language.proofs.Prelude.{◌≡◌, ◌∙◌, ◌+◌, ◌≤◌, length, take, sym, subst, arith, All, are_nested, digits}
use Rattle.language.proofs.Pairs.{pair_later, no_pair}
use Rattle.language.proofs.InOrder.{IsBefore, none_before, one_more}
use Rattle.language.proofs.apart.are_in_order.Goals as goal

pub loop-j-preserved : goal.loop-j-preserved
loop-j-preserved c =
    let set = c.index-sets-j.result in
    let size = c.match-first.size in
    let long : length set ≡ size = sym c.len.ensures.count ∙ c.if-len-size.false in
    let is : c.from-number.result ≡ digits 0 set = c.from-number.ensures ∙ c.number_in.ensures in
    let low : c.loop-j.next ≤ digits 0 set = let next = c.if-number-next.false in omega (arith, is, next) in (
      pair_later are_nested c.args.sets.now set c.loop-j.j c.loop-j-test.true c.index-sets-j.is c.loop-j.invariant.0
          (none_before size c.loop-j.next (take c.loop-j.j c.args.sets.now) set c.loop-j.invariant.1 c.len.ensures.set long low),
      subst (λ n. All (IsBefore size (n + 1)) (take (c.loop-j.j + 1) c.args.sets.now)) (sym is)
          (one_more size c.loop-j.next c.loop-j.j c.args.sets.now set c.loop-j-test.true c.index-sets-j.is c.loop-j.invariant.1 c.len.ensures.set long low),
    )

pub returns : goal.returns
returns c = λ yes. sym (no_pair are_nested c.args.sets.now c.loop-j.j c.loop-j-test.false c.loop-j.invariant.0)
