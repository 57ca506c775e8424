use Rattle.session_laws.proofs.Prelude.{refl, None, [], ◌∷◌, true, false, All-nil, set_where, Quacq, IsImplied, covered_converged, halve_within, with_quiet_replies, read_on, equal_or_not, pair, says}
use Rattle.session_laws.proofs.ExampleLanguages.{equal_or_not_is}
use Rattle.session_laws.proofs.States.{implied_is_covered}
use Rattle.session_laws.proofs.sample.examples_converge.Goals as goal

pub returns : goal.returns
unfolding set_where halve_within with_quiet_replies read_on
returns c =
    let covered = implied_is_covered equal_or_not Quacq (says (pair 0 1) true ∷ says (pair 0 0) false ∷ []) (record { scope = 0; rel = 1 } ∷ []) None equal_or_not_is refl
    (All-nil (IsImplied equal_or_not (record { scope = 0; rel = 1 } ∷ []))) in
    covered_converged _ _ _ equal_or_not_is covered.0 covered.1
