use Rattle.find_scope.proofs.Prelude.{refl, set_where, halve_within}
use Rattle.find_scope.proofs.rows.halving_small.Goals as goal

pub returns : goal.returns
unfolding halve_within set_where
returns c = record { one = refl; first = refl; second = refl; both = refl; least = refl }
