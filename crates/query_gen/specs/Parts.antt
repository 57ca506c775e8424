-- A part of the candidates, what its search leaves, and how a screen takes that over.
use Rattle.std.specs.Prelude.{ℕ, ◌≡◌, ◌==◌, ◌<◌, ◌≤◌, ◌+◌, ◌-◌, ◌/◌, ◌⊎◌, ◌&&◌, not, if◌then◌else◌}
use Rattle.std.specs.Prelude.{min, max, Bool, true, false, List, length, map, filter, slice_range}
use Rattle.std.specs.Prelude.{slice_index_or}
use Rattle.language.specs.declared.candidates.Candidate.{Candidate}
use Rattle.language.specs.Language.{Language, IsCandidate, candidates, number_of}
use Rattle.fd_solver.specs.declared.outcome.Outcome.{Outcome}
use Rattle.fd_solver.specs.declared.outcome.Outcome.TheVariants as outcomes
use Rattle.fd_solver.specs.Outcomes.{outcome_of_candidate}
use Rattle.query_gen.specs.declared.place.Place.{Place}
use Rattle.query_gen.specs.declared.query.Query.{Query}
use Rattle.query_gen.specs.declared.query.Query.TheVariants.{Ask, AllImplied, Undecided}
use Rattle.query_gen.specs.declared.screen.Mark.{Mark}
use Rattle.query_gen.specs.declared.screen.Mark.TheVariants.{Blank, Implied}
use Rattle.query_gen.specs.declared.screen.Mark.TheVariants as marks
use Rattle.query_gen.specs.Questions.{is_among, query_of}
use Rattle.query_gen.specs.Marks.{Remembered}
use Rattle.query_gen.specs.Inside.{without_spent}

-- an eighth of the candidates, rounded up: no part has more of them
abbrev pub part_size : Language → ℕ
part_size l = (length (candidates l) + 7) / 8

-- the next question, where only the kept candidates with numbers from first to below end are looked
-- through
abbrev pub query_in : Language → List Candidate → List Candidate → ℕ → ℕ → ℕ → Query
query_in l network kept budget first end =
    query_of (map (λ c. outcome_of_candidate l network c budget)
    (filter (is_among kept) (slice_range (candidates l) first end)))

-- what the candidates of two parts say, from what those of each say
abbrev pub query_then : Query → Query → Query
query_then (Ask e) next = Ask e
query_then AllImplied next = next
query_then Undecided (Ask e) = Ask e
query_then Undecided AllImplied = Undecided
query_then Undecided Undecided = Undecided

abbrev pub is_ask : Query → Bool
is_ask (Ask e) = true
is_ask AllImplied = false
is_ask Undecided = false

-- whether a search from this number on comes to the candidate: it is kept, and no earlier one gives
-- a question
abbrev pub is_looked_at : Language → List Candidate → List Candidate → ℕ → ℕ → Candidate → Bool
is_looked_at l network kept budget first c =
    is_among kept c && not (is_ask (query_in l network kept budget first (number_of l c)))

-- the byte for an outcome: 1 says that nothing is left to ask, 2 that the budget was spent, and 3
-- that a question was found
abbrev pub byte_for : Outcome → ℕ
byte_for (outcomes.Found e) = 3
byte_for outcomes.Absent = 1
byte_for outcomes.Spent = 2

-- What a search of the candidates with numbers from first to below end leaves in a place: its
-- answer, and a byte for each of these candidates, which speaks of those that were looked at alone.
pub record IsSearched (l : Language) (network kept : List Candidate) (budget first end : ℕ)
    (bytes : List ℕ) (answer : Query) : Type 0 where
  pub answered : answer ≡ query_in l network kept budget first end
  pub marked : (c : Candidate) → IsCandidate l c → first ≤ number_of l c → number_of l c < end →
      slice_index_or bytes (number_of l c - first) 0 ≡ (if is_looked_at l network kept budget first
      c then byte_for (outcome_of_candidate l network c budget) else 0)

-- the same as far as this number, with no byte set from there on
pub record IsSearchedTo (l : Language) (network kept : List Candidate) (budget first number : ℕ)
    (bytes : List ℕ) (answer : Query) : Type 0 where
  pub searched : IsSearched l network kept budget first number bytes answer
  pub unset : (k : ℕ) → number ≤ first + k → slice_index_or bytes k 0 ≡ 0

-- each byte of the candidates with numbers from first to below end says what the candidate's search
-- says, or nothing
abbrev pub AreTrue : Language → List Candidate → ℕ → ℕ → ℕ → List ℕ → Type 0
AreTrue l network budget first end bytes =
    (c : Candidate) → IsCandidate l c → first ≤ number_of l c → number_of l c < end →
    (b : Bool) × (slice_index_or bytes (number_of l c - first) 0
    ≡ (if b then byte_for (outcome_of_candidate l network c budget) else 0))

-- of the candidates with numbers from first to below end, the least number that was searched for,
-- and the one behind the greatest
abbrev pub searched_from : Place → ℕ → ℕ
searched_from place first = max first place.searched.least

abbrev pub searched_end : Place → ℕ → ℕ
searched_end place end = min end (place.searched.greatest + 1)

-- the number that a search from first to below end comes to, where it has come to this one
abbrev pub reach : ℕ → ℕ → ℕ → ℕ
reach first end number = max first (min end number)

-- the number of the first candidate on a scope
abbrev pub scope_start : Language → ℕ → ℕ
scope_start l scope = number_of l (record { scope = scope; rel = 0 })

-- some candidates on the scope may be of the part
pub record IsScopeOf (l : Language) (first end scope : ℕ) : Type 0 where
  pub known : scope < length l.scopes
  pub ends : first < scope_start l (scope + 1)
  pub begins : scope_start l scope < end
  pub rising : first ≤ end

-- a part is searched as far as the scope
abbrev pub IsSearchedBefore : Language → List Candidate → List Candidate → ℕ → ℕ → ℕ → ℕ → List ℕ →
    Query → Type 0
IsSearchedBefore l network kept budget first end scope bytes answer =
    IsSearchedTo l network kept budget first (reach first end (scope_start l scope)) bytes answer

-- a mark, once the byte of a search is there: "spent" counts no longer, and "implied" stays
abbrev pub mark_taken : Mark → ℕ → Mark
mark_taken m byte = if byte == 1 then Implied else if byte == 2 then marks.Spent
    else without_spent m

-- The marks from first to below end have taken the bytes over, and the others are as they were.
pub record AreTaken (bytes : List ℕ) (first end : ℕ) (old new : List Mark) : Type 0 where
  pub size : length new ≡ length old
  pub inside : (n : ℕ) → first ≤ n → n < end → slice_index_or new n Blank
      ≡ mark_taken (slice_index_or old n Blank) (slice_index_or bytes (n - first) 0)
  pub outside : (n : ℕ) → (n < first) ⊎ (end ≤ n) →
      slice_index_or new n Blank ≡ slice_index_or old n Blank

-- the same of a screen
pub record HasTaken (bytes : List ℕ) (first end : ℕ) (old new : Remembered) : Type 0 where
  pub numbers : new.first ≡ old.first
  pub size : length new.marks ≡ length old.marks
  pub learned : new.learned ≡ old.learned
  pub budgeted : new.budget ≡ old.budget
  pub index : new.index ≡ old.index
  pub finds : new.finds ≡ old.finds
  pub inside : (n : ℕ) → first ≤ n → n < end → slice_index_or new.marks n Blank
      ≡ mark_taken (slice_index_or old.marks n Blank) (slice_index_or bytes (n - first) 0)
  pub outside : (n : ℕ) → (n < first) ⊎ (end ≤ n) →
      slice_index_or new.marks n Blank ≡ slice_index_or old.marks n Blank
