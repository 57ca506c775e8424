-- What is shown of a session.
use Rattle.std.specs.Prelude.{◌∷◌, ◌++◌, if◌then◌else◌}
use Rattle.acq_said.specs.Prelude.{ℕ, zero, suc, List, [], length, codes}
use Rattle.acq_said.specs.Prelude.{decimal, Answer, Plan, Scopes, Quacq, Multi, Candidate}
use Rattle.acq_said.specs.Prelude.{Language, question_text, network_text, Idle, Over, Course, At}
use Rattle.acq_said.specs.Prelude.{Stray, state_after}

abbrev pub plan_words : Plan → List ℕ
plan_words Scopes = codes "scopes"
plan_words Quacq = codes "quacq"
plan_words Multi = codes "multi"

-- a question with its number and its answer
abbrev pub answer_line : Language → ℕ → Answer → List ℕ
answer_line l k a =
    question_text l k a.question ++ (32 ∷ ((if a.yes then codes "yes" else codes "no") ++ 10 ∷ []))

-- the answers, numbered from k on
abbrev pub answer_lines : Language → ℕ → List Answer → List ℕ
answer_lines l k [] = []
answer_lines l k (a ∷ t) = answer_line l k a ++ answer_lines l (suc k) t

-- how many take-backs there are is told where there are some
abbrev pub back_line : ℕ → List ℕ
back_line zero = []
back_line (suc n) = codes "taken back " ++ (decimal (suc n) ++ 10 ∷ [])

abbrev pub reading_text : Course → List ℕ
reading_text (Stray number) = []
reading_text (At (Idle network end)) = codes "idle"
reading_text (At (Over network)) = codes "collapsed"
reading_text (At state) = codes "asking"

-- the plan, the answers that stand, and how many were taken back; and then what was learned, and
-- where the session stands
abbrev pub show_text : Language → Plan → List Answer → ℕ → List Candidate → List ℕ
show_text l plan t backs network =
    (codes "plan " ++ (plan_words plan ++ (10 ∷ (answer_lines l 1 t
    ++ (codes "answers " ++ (decimal (length t) ++ (10 ∷ back_line backs)))))))
    ++ (codes "learned " ++ (decimal (length network) ++ (10 ∷ (network_text l network
    ++ (codes "state " ++ (reading_text (state_after l plan t) ++ 10 ∷ []))))))
