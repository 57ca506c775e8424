use Rattle.session_laws.proofs.Prelude.{refl, set_where, halve_within, next_turn, with_quiet_replies, read_on}
use Rattle.session_laws.proofs.rows.learns_an_intersection.Goals as goal

pub returns : goal.returns
unfolding set_where halve_within next_turn with_quiet_replies read_on
returns c = refl
