-- The next question of a session, from the outcomes of the kept candidates' searches.
use Rattle.std.specs.Prelude.{ℕ, ◌==◌, Bool, true, false, ◌&&◌, List, [], ◌∷◌, map, filter, Option}
use Rattle.std.specs.Prelude.{Some, None}
use Rattle.std.specs.List.{list_any, filter_map}
use Rattle.assign.specs.Assignment.{Assignment}
use Rattle.language.specs.declared.candidates.Candidate.{Candidate}
use Rattle.language.specs.Language.{Language, candidates}
use Rattle.fd_solver.specs.declared.outcome.Outcome.{Outcome}
use Rattle.fd_solver.specs.declared.outcome.Outcome.TheVariants.{Found, Absent, Spent}
use Rattle.fd_solver.specs.Outcomes.{outcome_of_candidate}
use Rattle.query_gen.specs.declared.query.Query.{Query}
use Rattle.query_gen.specs.declared.query.Query.TheVariants.{Ask, AllImplied, Undecided}

-- whether a candidate is one of these
abbrev pub is_among : List Candidate → Candidate → Bool
is_among list c = list_any (λ d. (d.scope == c.scope) && (d.rel == c.rel)) list

-- the candidates of a set, in candidate order
abbrev pub in_order : Language → List Candidate → List Candidate
in_order l kept = filter (is_among kept) (candidates l)

abbrev pub found_in : Outcome → Option Assignment
found_in (Found e) = Some e
found_in Absent = None
found_in Spent = None

abbrev pub is_spent : Outcome → Bool
is_spent (Found e) = false
is_spent Absent = false
is_spent Spent = true

abbrev pub query_from : List Assignment → Bool → Query
query_from (e ∷ es) spent = Ask e
query_from [] true = Undecided
query_from [] false = AllImplied

-- the first found of the outcomes, and else whether one is spent
abbrev pub query_of : List Outcome → Query
query_of outcomes = query_from (filter_map found_in outcomes) (list_any is_spent outcomes)

-- the next question, where these candidates are kept
abbrev pub next_query : Language → List Candidate → List Candidate → ℕ → Query
next_query l network kept budget =
    query_of (map (λ c. outcome_of_candidate l network c budget) (in_order l kept))
