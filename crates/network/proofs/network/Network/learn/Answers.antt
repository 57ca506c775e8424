use Rattle.network.proofs.Prelude.{◌≡◌, ◌<◌, [], ◌∷◌, ◌++◌, false, ap, ◌∙◌, arith, All-push, Candidate, has_scope, Learned}
use Rattle.network.proofs.Room.{apart_more, room_for}
use Rattle.network.proofs.network.Network.learn.Goals as goal

pub unwrap-requires : goal.unwrap-requires
unwrap-requires c =
    let scopes = ap (λ (a : Learned). a.scopes) c.self.view_is in
    let fresh : has_scope c.self.inside.list.items c.args.c.scope ≡ false = ap (λ (a : Learned). has_scope a.list c.args.c.scope) c.self.view_is ∙ c.requires.fresh in
    let low = room_for c.self.inside.scopes c.self.inside.list.items c.args.c c.self.invariant.apart c.self.invariant.known fresh (omega arith) in
    let room = c.self.invariant.room in
    c.push.ensures.succeeds (omega arith)

pub invariant_of-self : goal.invariant_of-self
invariant_of-self c =
    let scopes = ap (λ (a : Learned). a.scopes) c.self.view_is in
    let fresh : has_scope c.self.inside.list.items c.args.c.scope ≡ false = ap (λ (a : Learned). has_scope a.list c.args.c.scope) c.self.view_is ∙ c.requires.fresh in
    let now : c.push.new.self.items ≡ c.self.inside.list.items ++ c.args.c ∷ [] = rw c.unwrap.ensures at c.push.ensures.items in
    let room = c.self.invariant.room in
    let grown = c.push.ensures.capacity in
    record {
      few = c.self.invariant.few;
      apart = rw now (apart_more c.self.inside.list.items c.args.c c.self.invariant.apart fresh);
      known = rw now (All-push (λ (d : Candidate). d.scope < c.self.inside.scopes) c.self.inside.list.items c.args.c c.self.invariant.known (omega arith));
      room = omega arith;
    }
