-- What a screen remembers of searches.
use Rattle.std.specs.Prelude.{ℕ, ◌≡◌, ◌≤◌, Bool, true, false, List, length, map, take, All}
use Rattle.std.specs.Prelude.{slice_index_or, Option, None}
use Rattle.std.specs.Option.{ForSome}
use Rattle.assign.specs.Sets.{numbers}
use Rattle.language.specs.declared.candidates.Candidate.{Candidate}
use Rattle.language.specs.Language.{Language, IsCandidate, candidates, number_of}
use Rattle.propagators.specs.declared.index.Index.{Index}
use Rattle.propagators.specs.Indexes.{IsIndexOf}
use Rattle.fd_solver.specs.declared.outcome.Outcome.TheVariants as outcomes
use Rattle.fd_solver.specs.Outcomes.{outcome_of_candidate}
use Rattle.query_gen.specs.declared.find.Find.{Find}
use Rattle.query_gen.specs.declared.screen.Mark.{Mark}
use Rattle.query_gen.specs.declared.screen.Mark.TheVariants.{Blank, Implied, Spent}

pub record Remembered : Type 0 where
  -- for each scope the number of its first candidate
  pub first : List ℕ
  -- for each candidate's number its mark
  pub marks : List Mark
  -- how many candidates were learned when the marks "spent" were set, and their budget
  pub learned : ℕ
  pub budget : ℕ
  -- what is known before searches against candidates
  pub index : Index
  -- for each eighth of the candidates the last question that a search found there
  pub finds : List (Option Find)

-- the numbers of the language's candidates, a mark for each of these, and an index of such
-- candidates
pub record AreMarksFor (l : Language) (s : Remembered) : Type 0 where
  pub first : s.first ≡ map (λ scope. number_of l (record { scope = scope; rel = 0 }))
      (numbers (length l.scopes))
  pub marks : length s.marks ≡ length (candidates l)
  pub index : IsIndexOf l s.index

-- no candidate has a mark, and no find is kept
pub record HasNoMarks (s : Remembered) : Type 0 where
  pub marks : All (λ m. m ≡ Blank) s.marks
  pub finds : All (λ f. f ≡ None) s.finds

-- a candidate's mark
abbrev pub mark_of : Language → Remembered → Candidate → Mark
mark_of l s c = slice_index_or s.marks (number_of l c) Blank

abbrev pub is_mark_spent : Mark → Bool
is_mark_spent Blank = false
is_mark_spent Implied = false
is_mark_spent Spent = true

-- whether the last search of a candidate was spent
abbrev pub is_open : Language → Remembered → Candidate → Bool
is_open l s c = is_mark_spent (mark_of l s c)

-- The question is what the search of its candidate found under this budget, over a network that
-- this one begins with.
pub record IsFindOf (l : Language) (network : List Candidate) (budget : ℕ) (f : Find) : Type 0 where
  pub learned : f.learned ≤ length network
  pub found : (c : Candidate) → IsCandidate l c → number_of l c ≡ f.number →
      outcome_of_candidate l (take f.learned network) c budget ≡ outcomes.Found f.question

-- The marks are true under this network and budget. Those of another network or budget count for
-- nothing where they say "spent".
pub record MarksHold (l : Language) (network : List Candidate) (budget : ℕ) (s : Remembered) :
    Type 0 where
  pub implied : (c : Candidate) → IsCandidate l c → mark_of l s c ≡ Implied →
      outcome_of_candidate l network c budget ≡ outcomes.Absent
  pub spent : (c : Candidate) → IsCandidate l c → mark_of l s c ≡ Spent →
      s.learned ≡ length network → s.budget ≡ budget →
      outcome_of_candidate l network c budget ≡ outcomes.Spent
  -- no mark says so of a longer network
  pub earlier : (c : Candidate) → IsCandidate l c → mark_of l s c ≡ Spent →
      s.learned ≤ length network
  pub finds : All (λ f. ForSome f (IsFindOf l network budget)) s.finds
