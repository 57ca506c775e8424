use Rattle.net_cnf.proofs.Prelude.{◌≡◌, ◌⊎◌, inl, inr, ℕ, ◌+◌, ◌<◌, ◌≤◌, false, get_or, sym, ◌∙◌, ap, arith, cases_lt, get_or_from_slice_get, Candidate, violates, position_here, position_nowhere}
use Rattle.net_cnf.proofs.reading.violated.Goals as goal
use Rattle.net_cnf.proofs.reading.violated.Goals.{After-candidate_violated}

-- the item, whatever stands for one past the end
here : (c : After-candidate_violated) (d : Candidate) → violates c.args.lang.now (get_or c.args.net.now.list c.loop-i.i d) c.args.e.now ≡ c.candidate_violated.result
here c d = ap (λ (x : Candidate). violates c.args.lang.now x c.args.e.now) (get_or_from_slice_get c.args.net.now.list c.loop-i.i c.item.result d c.item.ensures) ∙ sym c.candidate_violated.ensures

pub returns-then-candidate_violated : goal.returns-then-candidate_violated
returns-then-candidate_violated c =
    let zero : Candidate = record { scope = 0; rel = 0 } in
    let low = c.loop-i-test.true in
    let is = c.len-i-end.ensures.is in
    sym (position_here (λ (x : Candidate). violates c.args.lang.now x c.args.e.now) c.args.net.now.list c.loop-i.i zero (omega (arith, low, is)) (λ k lower. c.loop-i.invariant k zero lower)
    (here (goal.at.returns-then-candidate_violated c).After-candidate_violated zero ∙ c.if-candidate_violated.true))

pub loop-i-preserved : goal.loop-i-preserved
loop-i-preserved c = λ k d low. go k d low (cases_lt k c.loop-i.i)
  where
    go : (k : ℕ) (d : Candidate) → k < c.loop-i.i + 1 → (k < c.loop-i.i) ⊎ (c.loop-i.i ≤ k) → violates c.args.lang.now (get_or c.args.net.now.list k d) c.args.e.now ≡ false
    go k d low (inl before) = c.loop-i.invariant k d before
    go k d low (inr past) =
        let same : k ≡ c.loop-i.i = omega (arith, low, past) in
        ap (λ j. violates c.args.lang.now (get_or c.args.net.now.list j d) c.args.e.now) same ∙ here (goal.at.loop-i-preserved c).After-candidate_violated d ∙ c.if-candidate_violated.false

pub returns : goal.returns
returns c =
    let zero : Candidate = record { scope = 0; rel = 0 } in
    let past = c.loop-i-test.false in
    let is = c.len-i-end.ensures.is in
    sym (position_nowhere (λ (x : Candidate). violates c.args.lang.now x c.args.e.now) c.args.net.now.list c.loop-i.i zero (omega (arith, past, is)) (λ k low. c.loop-i.invariant k zero low))
