use Rattle.network.proofs.Room.{none_apart, none_known}
use Rattle.network.proofs.network.Network.clear.Goals as goal

pub invariant_of-self : goal.invariant_of-self
invariant_of-self c = record {
  few = c.self.invariant.few;
  apart = rw c.clear.ensures.items none_apart;
  known = rw c.clear.ensures.items (none_known c.self.inside.scopes);
  room = rw c.clear.ensures.capacity c.self.invariant.room;
}
