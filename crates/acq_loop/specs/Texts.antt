-- What the program writes beside the lines of its turns.
use Rattle.std.specs.Prelude.{◌∷◌, ◌++◌}
use Rattle.acq_loop.specs.Prelude.{ℕ, List, [], length, filter, codes, flat_map, decimal, Answer}
use Rattle.acq_loop.specs.Prelude.{Candidate, Language, kept, candidate_text, network_text}
use Rattle.acq_loop.specs.Prelude.{outcome_of_candidate, is_spent, Course, Stray, At, state_after}
use Rattle.acq_loop.specs.Prelude.{network_in, fault_text, VocFault}
use Rattle.acq_loop.specs.Run.{Closing, Converged, Collapsed, Undecided, Suspended, LineTooLong}
use Rattle.acq_loop.specs.Run.{Unreadable, JournalFull}
use Rattle.acq_loop.specs.declared.terms.Terms.{Terms}

abbrev pub usage_text : List ℕ
usage_text = codes "usage: acquire JOURNAL COMMAND [--plan P] [--budget N] [--number N]" ++ 10 ∷ []

abbrev pub refusal_text : VocFault → List ℕ
refusal_text fault = codes "refused vocabulary " ++ (fault_text fault ++ 10 ∷ [])

-- the first of the last lines of a session that ends so, after so many answers
abbrev pub ending_line : Closing → ℕ → List ℕ
ending_line Converged m = codes "converged " ++ (decimal m ++ 10 ∷ [])
ending_line Collapsed m = codes "collapsed " ++ (decimal m ++ 10 ∷ [])
ending_line Undecided m = codes "undecided " ++ (decimal m ++ 10 ∷ [])
ending_line Suspended m = codes "suspended " ++ (decimal m ++ 10 ∷ [])
ending_line LineTooLong m = codes "refused line too long" ++ 10 ∷ []
ending_line Unreadable m = codes "refused lines" ++ 10 ∷ []
ending_line JournalFull m = codes "refused journal full" ++ 10 ∷ []

-- the kept candidates whose searches the budget was too small for
abbrev pub open_candidates : Language → Terms → List Answer → List Candidate → List Candidate
open_candidates l terms t network =
    filter (λ c. is_spent (outcome_of_candidate l network c terms.budget)) (kept l t network)

abbrev pub open_line : Language → Candidate → List ℕ
open_line l c = codes "open " ++ (candidate_text l c ++ 10 ∷ [])

-- the network to which answers lead
abbrev pub learned_in : Course → List Candidate
learned_in (Stray number) = []
learned_in (At state) = network_in state

abbrev pub learned_after : Language → Terms → List Answer → List Candidate
learned_after l terms t = learned_in (state_after l terms.plan t)

-- the last lines of a session that ends so, where these answers stand: that one, and then what was
-- learned and what is open
abbrev pub closing_text : Language → Terms → List Answer → Closing → List ℕ
closing_text l terms t Converged =
    ending_line Converged (length t) ++ network_text l (learned_after l terms t)
closing_text l terms t Undecided =
    ending_line Undecided (length t) ++ (network_text l (learned_after l terms t)
    ++ flat_map (open_line l) (open_candidates l terms t (learned_after l terms t)))
closing_text l terms t closing = ending_line closing (length t)
