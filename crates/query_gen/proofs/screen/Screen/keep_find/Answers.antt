use Rattle.query_gen.proofs.Prelude.{ℕ, subst, sym, arith, Query, MarksHold, IsSearched, IsFindOf, seen}
use Rattle.query_gen.proofs.Finds.{is_find, find_kept}
use Rattle.query_gen.proofs.screen.Screen.keep_find.Goals as goal

pub returns-clause-holds : goal.returns-clause-holds
returns-clause-holds c = λ l kept budget holds part.
    let asked = subst (λ (q : Query). IsSearched l c.args.net.now.list kept budget c.args.first c.args.end c.args.bytes.now q) c.in-Ask.is part in
    let number : ℕ = c.args.searched.greatest in
    let find =
    is_find l c.args.net.now.list kept budget c.args.first c.args.end c.args.bytes.now c.in-Ask.question asked number
    (let from = c.if-number-first.false in omega arith) (let below = c.if-end-number.false in omega arith) c.if-bytes-number-ne-FOUND.false in
    find_kept l c.args.net.now.list budget c.eighth_of-eighth.result _ (seen c.self.inside)
    (subst (λ (n : ℕ). IsFindOf l c.args.net.now.list budget (record { number = number; learned = n; question = c.in-Ask.question })) (sym c.len.ensures.is) find)
    (subst (MarksHold l c.args.net.now.list budget) (sym c.self.view_is) holds)
