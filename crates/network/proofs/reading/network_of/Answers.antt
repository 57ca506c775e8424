use Rattle.network.proofs.Prelude.{sym, subst, ◌∙◌, All, at_drop_all, All-push, items_view, IsCandidate, network_from}
use Rattle.std.proofs.lemmas.Result.{err_from_is_err_and}
use Rattle.network.proofs.Items.{read_more, refused_here}
use Rattle.network.proofs.reading.network_of.Goals as goal

pub loop-item-preserved : goal.loop-item-preserved
loop-item-preserved c =
    let kept = c.loop-item.invariant in
    record {
      rest = read_more c.args.lang.now c.loop-item.net.list c.learn.new.self.list c.args.items.now c.loop-item.item-index _ c.in_ok-c.c _ c.loop-item-test.true
          c.item-item.is c.in_ok-c.ensures.is c.learn.ensures.list kept.rest;
      network = subst (All (IsCandidate c.args.lang.now)) (sym c.learn.ensures.list) (All-push (IsCandidate c.args.lang.now) c.loop-item.net.list c.in_ok-c.c kept.network c.in_ok-c.ensures.candidate);
      scopes = c.learn.ensures.scopes ∙ kept.scopes;
    }

pub returns-in_err-c-clause-is : goal.returns-in_err-c-clause-is
returns-in_err-c-clause-is c =
    let p = err_from_is_err_and c.from_residual-in_err-c.result c.from_residual-in_err-c.ensures.1 in
    rw (p.1, p.2) (λ real. refused_here c.args.lang.now c.loop-item.net.list c.args.items.now c.loop-item.item-index _ _ _ c.loop-item-test.true
    c.item-item.is (c.in_err-c.ensures.is real) c.loop-item.invariant.rest)

pub returns-clause-is : goal.returns-clause-is
returns-clause-is c =
    sym c.loop-item.invariant.rest ∙ at_drop_all (λ vs. network_from c.args.lang.now c.loop-item.net.list (items_view vs)) c.args.items.now c.loop-item.item-index c.loop-item-test.false
