use Rattle.cert_check.proofs.Prelude.{◌≡◌, ◌<◌, ◌++◌, [], ◌∷◌, Vec, Global, true, false, length, sym, ◌∙◌, ap, subst, arith, All, All-push, Candidate, IsCandidate, IsImplied, candidates, AreUnstruck}
use Rattle.cert_check.proofs.Finding.{candidate_read}
use Rattle.cert_check.proofs.Listing.{is_kept, implied_if_kept, kept_more, kept_all}
use Rattle.cert_check.proofs.making.kept.Goals as goal
use Rattle.cert_check.proofs.making.kept.Goals.{then-is_kept+in_ok-push, else-is_kept}

pub loop-number-preserved : goal.loop-number-preserved
loop-number-preserved c =
    let low : c.loop-number.number < length (candidates c.args.lang.now) = (let e = c.candidates-number-end.ensures.is in let h = c.loop-number-test.true in omega (arith, e, h)) in
    let unstruck : AreUnstruck c.args.lang.now c.args.answers.now c.deref.result.now = subst (AreUnstruck c.args.lang.now c.args.answers.now) (sym c.deref.ensures.value) c.in_ok-left.ensures in
    let read = candidate_read c.args.lang.now c.candidate-c.result c.loop-number.number c.candidate-c.ensures.candidate c.candidate-c.ensures.number in
    elim c.if-is_kept.branch [
      | then-is_kept+in_ok-push w ↦
          let put : c.if-is_kept.list.items ≡ c.loop-number.list.items ++ c.candidate-c.result ∷ [] = ap (λ (v : Vec Candidate Global). v.items) w.list-is ∙ w.in_ok-push.ensures.items in
          let passes : is_kept c.args.lang.now c.args.answers.now c.args.net.now c.candidate-c.result ≡ true = sym (c.is_kept.ensures c.args.lang.now c.args.answers.now unstruck c.candidate-c.ensures.candidate) ∙ w.if-is_kept.true in
          record {
            same = kept_more (is_kept c.args.lang.now c.args.answers.now c.args.net.now) (candidates c.args.lang.now) c.loop-number.list.items c.if-is_kept.list.items c.loop-number.number c.candidate-c.result true low read passes put c.loop-number.invariant.same;
            known = subst (All (IsCandidate c.args.lang.now)) (sym put) (All-push (IsCandidate c.args.lang.now) c.loop-number.list.items c.candidate-c.result c.loop-number.invariant.known c.candidate-c.ensures.candidate);
            implied = subst (All (IsImplied c.args.lang.now c.args.net.now)) (sym put) (All-push (IsImplied c.args.lang.now c.args.net.now) c.loop-number.list.items c.candidate-c.result c.loop-number.invariant.implied
                (implied_if_kept c.args.lang.now c.args.answers.now c.args.net.now c.candidate-c.result c.requires.covered c.candidate-c.ensures.candidate passes));
          }
      | else-is_kept w ↦
          let put : c.if-is_kept.list.items ≡ c.loop-number.list.items = ap (λ (v : Vec Candidate Global). v.items) w.list-is in
          record {
            same = kept_more (is_kept c.args.lang.now c.args.answers.now c.args.net.now) (candidates c.args.lang.now) c.loop-number.list.items c.if-is_kept.list.items c.loop-number.number c.candidate-c.result false low read (sym (c.is_kept.ensures c.args.lang.now c.args.answers.now unstruck c.candidate-c.ensures.candidate) ∙ w.if-is_kept.false) put c.loop-number.invariant.same;
            known = subst (All (IsCandidate c.args.lang.now)) (sym put) c.loop-number.invariant.known;
            implied = subst (All (IsImplied c.args.lang.now c.args.net.now)) (sym put) c.loop-number.invariant.implied;
          }
    ]

pub returns-clause-is : goal.returns-clause-is
returns-clause-is c =
    kept_all (is_kept c.args.lang.now c.args.answers.now c.args.net.now) (candidates c.args.lang.now) c.loop-number.list.items c.loop-number.number
    (let e = c.candidates-number-end.ensures.is in let h = c.loop-number-test.false in omega (arith, e, h)) c.loop-number.invariant.same
