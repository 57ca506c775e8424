use Rattle.session_laws.proofs.Prelude.{refl, [], set_where, Quacq, halve_within, with_quiet_replies, read_on, three_equal, untrue}
use Rattle.session_laws.proofs.ExampleLanguages.{three_equal_is}
use Rattle.session_laws.proofs.States.{over_means_none}
use Rattle.session_laws.proofs.sample.nothing_agrees.Goals as goal

pub returns : goal.returns
unfolding set_where halve_within with_quiet_replies read_on
returns c = record { language = three_equal_is; none = over_means_none three_equal Quacq untrue [] three_equal_is refl }
