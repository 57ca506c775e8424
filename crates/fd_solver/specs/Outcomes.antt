-- The outcome of a search under a budget.
use Rattle.std.specs.Prelude.{ℕ, ◌==◌, Bool, true, false, List, length, take, find, nat_le, Option}
use Rattle.std.specs.Prelude.{Some, None}
use Rattle.assign.specs.Assignment.{Assignment, assigned}
use Rattle.language.specs.declared.candidates.Candidate.{Candidate}
use Rattle.language.specs.Language.{Language, variable_count}
use Rattle.language.specs.Search.{assignment_of, walk_by}
pub use Rattle.language.specs.Search.{IsOrder}
use Rattle.propagators.specs.Families.{has_family}
use Rattle.fd_solver.specs.declared.outcome.Outcome.{Outcome}
use Rattle.fd_solver.specs.declared.outcome.Outcome.TheVariants.{Found, Absent, Spent}

-- what the first complete prefix says, or that there is none and whether all were looked at
abbrev pub outcome_from : (List ℕ → Assignment) → Option (List ℕ) → Bool → Outcome
outcome_from assign (Some prefix) whole = Found (assign prefix)
outcome_from assign None true = Absent
outcome_from assign None false = Spent

-- The first complete one, with n values, among the first members, or whether these were all. It
-- says what a prefix assigns.
abbrev pub outcome_by : ℕ → (List ℕ → Assignment) → List (List ℕ) → ℕ → Outcome
outcome_by n assign members budget = outcome_from assign
    (find (λ p. length p == n) (take budget members)) (nat_le (length members) budget)

-- the outcome of a candidate's walk
abbrev pub outcome_of : Language → Candidate → List (List ℕ) → ℕ → Outcome
outcome_of l c members budget = outcome_by (variable_count l) (assignment_of l c) members budget

-- among the values that a prefix leaves is an arc-consistent family of nonempty sets, for the
-- network and the candidate's contrary
abbrev pub is_alive : Language → List Candidate → Candidate → List ℕ → Bool
is_alive l network c prefix = has_family l network (Some c) (assignment_of l c prefix)

abbrev pub alive_walk : Language → List Candidate → Candidate → List (List ℕ)
alive_walk l network c = walk_by (is_alive l network c) l

-- the outcome of a candidate's walk over alive prefixes
abbrev pub outcome_of_candidate : Language → List Candidate → Candidate → ℕ → Outcome
outcome_of_candidate l network c budget = outcome_of l c (alive_walk l network c) budget

-- the same for any list, any order, and perhaps no candidate against
abbrev pub is_alive_in : Language → List Candidate → Option Candidate → List ℕ → List ℕ → Bool
is_alive_in l list against order prefix =
    has_family l list against (assigned (variable_count l) order prefix)

-- the outcome of the walk over alive prefixes in this order; in a candidate's own order, against
-- it, this is the candidate's
abbrev pub search_outcome : Language → List Candidate → Option Candidate → List ℕ → ℕ → Outcome
search_outcome l list against order budget = outcome_by (variable_count l)
    (assigned (variable_count l) order) (walk_by (is_alive_in l list against order) l) budget
