-- Learning several candidates from one example: which part of it is asked about next.
use Rattle.std.specs.Prelude.{ℕ, zero, suc, Bool, true, false, ◌&&◌, List, [], ◌∷◌, ◌++◌, map, find}
use Rattle.std.specs.Prelude.{Option, Some, None}
use Rattle.std.specs.List.{list_any}
use Rattle.language.specs.declared.candidates.Candidate.{Candidate}
use Rattle.assign.specs.Sets.{is_within, without}
use Rattle.assign.specs.Assignment.{Assignment, restrict}
use Rattle.language.specs.Language.{Language, violates, scope_of}

-- the example, the sets that wait (the top first), and how many more may be taken
pub record Walk : Type 0 where
  pub example : Assignment
  pub waiting : List (List ℕ)
  pub left : ℕ

-- ended with no set left, or cut off with some
pub data WalkEnd : Type 0 where
  Ended : Assignment → WalkEnd
  Capped : Assignment → WalkEnd

-- it asks about the example on a set, or is at its end
pub data Turn : Type 0 where
  Asks : List ℕ → Walk → Turn
  Ends : WalkEnd → Turn

-- whether e violates some of the candidates
abbrev pub violates_some : Language → List Candidate → Assignment → Bool
violates_some l cs e = list_any (λ c. violates l c e) cs

-- the first learned candidate that e violates and whose scope lies within the set
abbrev pub learned_within : Language → List Candidate → Assignment → List ℕ → Option Candidate
learned_within l network e set = find (λ c. violates l c e && is_within (scope_of l c) set) network

-- the set without each variable of a scope in turn
abbrev pub parts_without : List ℕ → List ℕ → List (List ℕ)
parts_without set scope = map (λ v. without set v) scope

-- what to put for a set that is taken: a learned candidate within it splits it
abbrev pub take_set : Language → List Candidate → List Candidate → Assignment → List ℕ →
    Option Candidate → (List (List ℕ) → Turn) → Turn → Turn
take_set l network kept e set (Some c) next asked = next (parts_without set (scope_of l c))
take_set l network kept e set None next asked =
    elim (violates_some l kept (restrict e set)) [ true ↦ asked | false ↦ next [] ]

-- Sets are taken from the top, until one is asked about or an end comes. kept are the kept
-- candidates.
unfoldable pub next_turn : Language → List Candidate → List Candidate → Assignment → ℕ →
    List (List ℕ) → Turn
next_turn l network kept e left [] = Ends (Ended e)
next_turn l network kept e zero (set ∷ waiting) = Ends (Capped e)
next_turn l network kept e (suc left) (set ∷ waiting) =
    take_set l network kept e set (learned_within l network e set)
    (λ parts. next_turn l network kept e left (parts ++ waiting))
    (Asks set (record { example = e; waiting = waiting; left = left }))
