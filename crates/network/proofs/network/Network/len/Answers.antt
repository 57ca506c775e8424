use Rattle.network.proofs.Prelude.{ap, arith, Learned}
use Rattle.network.proofs.Room.{few}
use Rattle.network.proofs.network.Network.len.Goals as goal

pub overflow_cast-result : goal.overflow_cast-result
overflow_cast-result c =
    let most = few c.self.inside.scopes c.self.inside.list.items c.self.invariant.apart c.self.invariant.known in
    let scopes = c.self.invariant.few in
    omega arith

pub returns-clause-few : goal.returns-clause-few
returns-clause-few c =
    let most = few c.self.inside.scopes c.self.inside.list.items c.self.invariant.apart c.self.invariant.known in
    let scopes = ap (λ (a : Learned). a.scopes) c.self.view_is in
    omega arith
