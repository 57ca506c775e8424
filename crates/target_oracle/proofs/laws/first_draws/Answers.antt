use Rattle.target_oracle.proofs.Prelude.{refl, state_at}
use Rattle.target_oracle.proofs.laws.first_draws.Goals as goal

pub returns : goal.returns
unfolding state_at
returns c = record { state = refl; upper = refl; hidden = refl }
