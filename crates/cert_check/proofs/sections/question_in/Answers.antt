use Rattle.cert_check.proofs.Prelude.{◌≡◌, ◌∷◌, ◌+◌, sym, ◌∙◌, ap, subst, IsQuestion, pair_in, with_pairs, question_in, words_left}
use Rattle.cert_check.proofs.InTurn.{pairs_go_on, pairs_bad, pairs_done, question_set}
use Rattle.cert_check.proofs.sections.question_in.Goals as goal
use Rattle.cert_check.proofs.sections.question_in.Goals.{In-Some}

-- a word more is left
at_word : (c : In-Some) → with_pairs c.args.lang.now.ranges c.loop-word.least c.loop-word.question (c.in-Some.word.now ∷ words_left c.next.new.self) ≡ question_in c.args.lang.now c.args.pairs.now
at_word c = subst (λ left. with_pairs c.args.lang.now.ranges c.loop-word.least c.loop-word.question left ≡ question_in c.args.lang.now c.args.pairs.now) c.in-Some.ensures.steps c.loop-word.invariant.2

pub returns-in_err-v-clause-is : goal.returns-in_err-v-clause-is
returns-in_err-v-clause-is c =
    let l = c.args.lang.now in
    let ranges = l.ranges in
    let q = c.loop-word.question in
    c.from_residual.ensures
    ∙ sym (sym (at_word (goal.at.returns-in_err-v-clause-is c).In-Some)
    ∙ pairs_bad ranges c.loop-word.least q c.in-Some.word.now (words_left c.next.new.self) (ap (λ n. pair_in ranges n c.loop-word.least c.in-Some.word.now) c.loop-word.invariant.3.size ∙ sym c.pair_in.ensures.is ∙ c.in_err-v.was))

pub loop-word-preserved : goal.loop-word-preserved
loop-word-preserved c =
    let l = c.args.lang.now in
    let ranges = l.ranges in
    let q = c.loop-word.question in (
      tt,
      tt,
      (λ i. with_pairs ranges (c.from-least.ensures i + 1) (c.set.ensures i) (words_left c.next.new.self))
          ∙ sym (pairs_go_on ranges c.loop-word.least q c.in-Some.word.now (words_left c.next.new.self) c.in_ok-v.v c.in_ok-v.x (ap (λ n. pair_in ranges n c.loop-word.least c.in-Some.word.now) c.loop-word.invariant.3.size ∙ sym c.pair_in.ensures.is ∙ c.in_ok-v.was))
          ∙ at_word (goal.at.loop-word-preserved c).In-Some,
      subst (IsQuestion l) (sym c.set.ensures) (question_set l q c.in_ok-v.v c.in_ok-v.x c.loop-word.invariant.3 c.in_ok-v.ensures.known c.in_ok-v.ensures.fits c.in_ok-v.ensures.within),
    )

pub returns-clause-is : goal.returns-clause-is
returns-clause-is c =
    let ranges = c.args.lang.now.ranges in
    sym (pairs_done ranges c.loop-word.least c.loop-word.question)
    ∙ subst (λ left. with_pairs ranges c.loop-word.least c.loop-word.question left ≡ question_in c.args.lang.now c.args.pairs.now) c.in-None.ensures.steps.0 c.loop-word.invariant.2
