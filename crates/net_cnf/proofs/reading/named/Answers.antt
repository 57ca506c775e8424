use Rattle.net_cnf.proofs.Prelude.{sym, ◌∙◌, subst, take_at, AreNamed, tokens}
use Rattle.net_cnf.proofs.Marking.{marked_none}
use Rattle.net_cnf.proofs.reading.named.Goals as goal

pub mark_all-requires-clause-none : goal.mark_all-requires-clause-none
mark_all-requires-clause-none c = marked_none c.args.count c.deref_mut.result.now (c.deref_mut.ensures.value ∙ c.in_ok-signs.ensures.items_if_clones_equal (λ y same. same))

pub returns : goal.returns
returns c =
    let new = c.mark_all.new.signs in
    let all = tokens c.args.bytes.now in
    subst (AreNamed c.args.count all) (sym (take_at new _ c.in_ok-signs.signs.len (c.mark_all.auto.signs ∙ c.deref_mut.ensures.len)))
    (subst (λ n. AreNamed n all new) (c.mark_all.auto.signs ∙ c.deref_mut.ensures.len ∙ c.in_ok-signs.ensures.len) c.in_ok-mark_all.ensures)
