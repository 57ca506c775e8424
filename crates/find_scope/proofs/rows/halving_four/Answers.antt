use Rattle.find_scope.proofs.Prelude.{refl, set_where, halve_within}
use Rattle.find_scope.proofs.rows.halving_four.Goals as goal

pub returns : goal.returns
unfolding halve_within set_where
returns c = record { first = refl; second = refl; third = refl; fourth = refl; found = refl }
