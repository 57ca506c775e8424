use Rattle.find_c.proofs.Prelude.{refl, choose}
use Rattle.find_c.proofs.rows.telling_one.Goals as goal

pub returns : goal.returns
unfolding choose
returns c = record { one = refl; none = refl }
