-- Where the walk of an example has ended, nothing is left to learn from the example.
use Rattle.acq_loop.proofs.Prelude.{List, Answer, Plan, Multi, Language, IsLanguage}
use Rattle.acq_loop.proofs.Short.{LeavesNothing}
use Rattle.session_laws.proofs.Pending.{ended_is_walked}

pub leaves_nothing : (l : Language) (plan : Plan) (t : List Answer) → IsLanguage l → LeavesNothing l plan t
leaves_nothing l Multi t lawful e state walks at is = ended_is_walked l t state e lawful at is
leaves_nothing l plan t lawful e state walks at is = absurd (let no : ⊥ = cc in no)
