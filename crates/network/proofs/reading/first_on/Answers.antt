use Rattle.network.proofs.Prelude.{◌≡◌, true, get_or, arith, sym, ap, ◌∙◌, eq-eqb, ◌==◌, Candidate, position_here}
use Rattle.network.proofs.Items.{no_repeat, no_scope}
use Rattle.network.proofs.reading.first_on.Goals as goal

pub returns-then-list-j-clause-is : goal.returns-then-list-j-clause-is
returns-then-list-j-clause-is c =
    let zero : Candidate = record { scope = 0; rel = 0 } in
    let here : ((get_or c.args.net.now.list c.loop-j.j zero).scope == c.args.s) ≡ true = eq-eqb _ _ (ap (λ list. (get_or list c.loop-j.j zero).scope) (sym c.list-list.ensures) ∙ c.if-list-j.true) in
    sym (position_here (λ (x : Candidate). x.scope == c.args.s) c.args.net.now.list c.loop-j.j zero (let is = c.len-j-end.ensures.is in omega arith) (λ k low. c.loop-j.invariant k zero low) here)

pub returns-clause-is : goal.returns-clause-is
returns-clause-is c = sym (no_repeat c.args.net.now.list c.args.s c.loop-j.j (let is = c.len-j-end.ensures.is in let past = c.loop-j-test.false in omega arith) c.loop-j.invariant)

pub returns-clause-fresh : goal.returns-clause-fresh
returns-clause-fresh c = λ _. no_scope c.args.net.now.list c.args.s (λ k d low. c.loop-j.invariant k d (let is = c.len-j-end.ensures.is in let past = c.loop-j-test.false in omega arith))
