use Rattle.language.proofs.Prelude.{◌≡◌, ◌+◌, ◌≤◌, cond, not, sym, ◌∙◌, ap, arith, ◌==◌, bit_at, shr_and_one, bit_at-lt, rejected_of}
use Rattle.language.proofs.PairMasking.{rejected_more, rejected_few}
use Rattle.language.proofs.masks.rejected.Goals as goal
use Rattle.language.proofs.masks.rejected.Goals.{then-mask-x-eq0, else-mask-x-eq0}

pub overflow_add-rejected : goal.overflow_add-rejected
overflow_add-rejected c =
    let few = rejected_few c.loop-x.x (λ x. bit_at c.args.mask x == 1) in
    let small : c.loop-x.rejected ≤ c.loop-x.x = omega (arith, few, c.loop-x.invariant) in
    omega arith

pub loop-x-preserved : goal.loop-x-preserved
loop-x-preserved c = elim c.if-mask-x-eq0.branch [
  | then-mask-x-eq0 w ↦
      (let zero_ : bit_at c.args.mask c.loop-x.x ≡ 0 = sym (shr_and_one c.args.mask c.loop-x.x) ∙ w.if-mask-x-eq0.true in
      w.rejected-is ∙ ap (λ n. n + 1) c.loop-x.invariant
      ∙ sym (rejected_more c.loop-x.x (λ x. bit_at c.args.mask x == 1) ∙ ap (λ b. rejected_of c.loop-x.x (λ x. bit_at c.args.mask x == 1) + cond (not (b == 1)) 1 0) zero_))
  | else-mask-x-eq0 w ↦
      (let other = w.if-mask-x-eq0.false in
      let same = shr_and_one c.args.mask c.loop-x.x in
      let low = bit_at-lt c.args.mask c.loop-x.x in
      let one : bit_at c.args.mask c.loop-x.x ≡ 1 = omega arith in
      let none : rejected_of c.loop-x.x (λ x. bit_at c.args.mask x == 1) + 0 ≡ rejected_of c.loop-x.x (λ x. bit_at c.args.mask x == 1) = omega arith in
      w.rejected-is ∙ c.loop-x.invariant
      ∙ sym (rejected_more c.loop-x.x (λ x. bit_at c.args.mask x == 1) ∙ ap (λ b. rejected_of c.loop-x.x (λ x. bit_at c.args.mask x == 1) + cond (not (b == 1)) 1 0) one ∙ none))
]
