use Rattle.target_oracle.proofs.Prelude.{◌≡◌, ◌+◌, ◌<◌, length, All, Candidate, IsNetwork, state_at}
use Rattle.target_oracle.proofs.Draws.{drawn_below}
use Rattle.target_oracle.proofs.generator.target.Given as goal

abbrev pub invariant-loop-s : goal.invariant-loop-s
invariant-loop-s l = record {
  state : l.state ≡ state_at l.number (l.s + 10);
  list : l.net.list ≡ drawn_below l.number l.lang l.s;
  below : All (λ (c : Candidate). c.scope < l.s) l.net.list;
  network : IsNetwork l.lang l.net.list;
  scopes : l.net.scopes ≡ length l.lang.scopes;
}
