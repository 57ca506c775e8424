use Rattle.session_store.proofs.Prelude.{refl, sym}
use Rattle.session_store.proofs.Stores.{sits_as}
use Rattle.session_store.proofs.store.StoreKeep.ask.Goals as goal

pub returns-clause-sits : goal.returns-clause-sits
returns-clause-sits g c disk sits =
    sits_as c.args.self.now (record c.args.self.now { held = c.ask.new.self }) (g.D.Disk.content disk) (g.D.Disk.may_leave disk) refl refl (sym c.ask.ensures.plan) (sym c.ask.ensures.events) sits
