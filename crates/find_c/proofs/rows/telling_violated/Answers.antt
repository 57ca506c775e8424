use Rattle.find_c.proofs.Prelude.{refl, choose}
use Rattle.find_c.proofs.rows.telling_violated.Goals as goal

pub returns : goal.returns
unfolding choose
returns c = record { first = refl; equal = refl; never = refl }
