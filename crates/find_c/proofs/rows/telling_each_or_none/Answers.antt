use Rattle.find_c.proofs.Prelude.{refl, choose}
use Rattle.find_c.proofs.rows.telling_each_or_none.Goals as goal

pub returns : goal.returns
unfolding choose
returns c = record { first = refl; second = refl; unequal = refl; never = refl; equal = refl; free = refl }
