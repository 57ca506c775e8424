use Rattle.network.proofs.Prelude.{arith}
use Rattle.network.proofs.Room.{none_apart, none_known}
use Rattle.network.proofs.network.Network.new.Goals as goal

pub invariant_of-result : goal.invariant_of-result
invariant_of-result c = record {
  few = (let few = c.scopes-scopes.ensures.lawful.few_scopes in omega arith);
  apart = rw c.in_ok-list.ensures.items none_apart;
  known = rw c.in_ok-list.ensures.items (none_known c.scopes-scopes.result);
  room = c.in_ok-list.ensures.capacity;
}
