use Rattle.acq_said.proofs.Prelude.{◌∙◌, sym, ap, subst, Language, IsNetwork, Learned}
use Rattle.acq_said.proofs.Moved.{learned_as, of_keeper}
use Rattle.acq_said.proofs.learned.learned_by.Goals as goal

pub returns : goal.returns
returns g c =
    let session = c.session-session in
    record {
      lang = c.lang.ensures.is ∙ session.ensures.lang;
      same = ap (λ (n : Learned). n.list) c.network.ensures.is ∙ learned_as (of_keeper g.P.Keep c.args.keep.now) session.result.now session.ensures.lang session.ensures.plan session.ensures.stands;
      lawful = c.lang.ensures.lawful;
      legal = subst (λ (l : Language). IsNetwork l c.network.result.now.list) (sym c.lang.ensures.is) c.network.ensures.lawful;
    }
