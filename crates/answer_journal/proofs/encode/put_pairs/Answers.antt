use Rattle.answer_journal.proofs.Prelude.{ℕ, List, ◌∙◌, ◌++◌, length, ap, arith, sym, append-nil}
use Rattle.answer_journal.proofs.Valued.{pairs_all, few_valued, left_first, left_fewer, none_left, pair_of, pairs_of}
use Rattle.answer_journal.proofs.encode.put_pairs.Goals as goal

pub loop-v-init : goal.loop-v-init
loop-v-init c = record {
  put = ap (λ (vars : List ℕ). c.args.out.now.items ++ pairs_of c.args.question.now vars) c.vars-left.ensures
      ∙ ap (λ (pairs : List ℕ). c.args.out.now.items ++ pairs) (pairs_all c.args.question.now c.requires.fits);
  few = let count = ap length c.vars-left.ensures in let most = few_valued c.args.question.now c.requires.fits in omega (arith, count, most);
}

pub loop-v-preserved : goal.loop-v-preserved
loop-v-preserved c =
    let popped = sym c.in-Some.is ∙ c.pop_first.ensures.first in
    let left = left_first c.args.question.now c.loop-v.left c.pop_first.new.self c.in-Some.v popped c.pop_first.ensures.rest in
    let fewer = left_fewer c.loop-v.left c.pop_first.new.self c.in-Some.v popped c.pop_first.ensures.rest in
    let few = c.loop-v.invariant.few in
    record {
      put = ap (λ (pairs : List ℕ). c.loop-v.out.items ++ pairs) (sym (left ∙ ap (λ o. pair_of c.in-Some.v o ++ pairs_of c.args.question.now c.pop_first.new.self) (sym c.get.ensures ∙ c.in_default-get.is))) ∙ c.loop-v.invariant.put;
      few = omega (arith, fewer, few);
    }

pub loop-v-smaller : goal.loop-v-smaller
loop-v-smaller c =
    let fewer = left_fewer c.loop-v.left c.pop_first.new.self c.in-Some.v (sym c.in-Some.is ∙ c.pop_first.ensures.first) c.pop_first.ensures.rest in
    omega (arith, fewer)

pub returns : goal.returns
returns c =
    let none = none_left c.loop-v.left (sym c.pop_first.ensures.first ∙ c.in_default.is) in
    let few = c.loop-v.invariant.few in
    record {
      pairs = sym (append-nil c.loop-v.out.items) ∙ ap (λ (vars : List ℕ). c.loop-v.out.items ++ pairs_of c.args.question.now vars) (sym none) ∙ c.loop-v.invariant.put;
      few = omega (arith, few);
    }
