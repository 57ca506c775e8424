use Rattle.network.proofs.Prelude.{◌≤◌, length, sym, subst, arith, Candidate, view, BadItem, Reads}
use Rattle.network.proofs.Items.{item_here}
use Rattle.network.proofs.reading.candidate_in.Goals as goal

pub returns-clause-is : goal.returns-clause-is
returns-clause-is c =
    let some : 2 ≤ length c.in_ok-texts.texts.items = omega arith in
    let few : length c.in_ok-texts.texts.items ≤ 5 = omega arith in
    subst (λ stated. Reads (λ (x : Candidate). x) stated c.candidate_of.result)
    (sym (item_here c.args.lang.now c.args.net.now.list (view c.args.item.now) c.in_ok-texts.texts.items c.deref.result.now (BadItem c.len-i.result) c.index.result.now c.in_ok-texts.ensures some few c.index.ensures c.deref.ensures.value))
    c.candidate_of.ensures.is
