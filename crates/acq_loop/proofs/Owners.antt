-- What comes of it where one network gave each answer.
use Rattle.acq_loop.proofs.Prelude.{List, Option, Some, None, IfSome, IsTrue, Answer, Candidate, Language, IsNetwork, agrees, Closing, Converged, Collapsed, Terms, HasFound, IsOwned}

owned_at : (l : Language) (terms : Terms) (t : List Answer) (closing : Closing) (owner : List Candidate) → HasFound l terms t closing → IsNetwork l owner → IsTrue (agrees l owner t) → IsOwned l terms owner t closing
owned_at l terms t Converged owner found lawful agreeing = (found.network, found.end, found.idle, found.converged.only owner lawful agreeing)
owned_at l terms t Collapsed owner found lawful agreeing = found.none owner lawful agreeing
owned_at l terms t closing owner found lawful agreeing = tt

pub owned : (l : Language) (terms : Terms) (t : List Answer) (o : Option Closing) (owner : List Candidate) → IfSome o (HasFound l terms t) → IsNetwork l owner → IsTrue (agrees l owner t) → IfSome o (IsOwned l terms owner t)
owned l terms t None owner found lawful agreeing = tt
owned l terms t (Some closing) owner found lawful agreeing = owned_at l terms t closing owner found lawful agreeing
