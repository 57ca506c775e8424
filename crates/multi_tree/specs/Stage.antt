-- Where a walk of an example stands.
use Rattle.std.specs.Prelude.{ℕ, List, [], ◌∷◌, Option, Some, None}
use Rattle.assign.specs.Sets.{numbers}
use Rattle.assign.specs.Assignment.{Assignment}
use Rattle.language.specs.declared.candidates.Candidate.{Candidate}
use Rattle.language.specs.Language.{Language, variable_count, IsQuestion}
use Rattle.session_laws.specs.Walk.{Walk, WalkEnd, Ended, Capped, Turn, Asks, Ends, next_turn}
use Rattle.session_laws.specs.Session.{MOST_SETS}

pub data Stage : Type 0 where
  -- the next turn takes a set
  Ready : Walk → Stage
  -- this set is asked about
  Asked : List ℕ → Walk → Stage
  -- it is at its end
  Done : WalkEnd → Stage

-- the walk, where it isn't at its end
abbrev pub walk_in : Stage → Option Walk
walk_in (Ready walk) = Some walk
walk_in (Asked set walk) = Some walk
walk_in (Done end) = None

-- the set that is asked about
abbrev pub asked_in : Stage → Option (List ℕ)
asked_in (Ready walk) = None
asked_in (Asked set walk) = Some set
asked_in (Done end) = None

abbrev pub example_of_end : WalkEnd → Assignment
example_of_end (Ended e) = e
example_of_end (Capped e) = e

-- the example
abbrev pub example_in : Stage → Assignment
example_in (Ready walk) = walk.example
example_in (Asked set walk) = walk.example
example_in (Done end) = example_of_end end

-- the walk of an example of the language, where it isn't at its end
abbrev pub IsWalkOn : Language → Stage → Type 0
IsWalkOn l (Ready walk) = IsQuestion l walk.example
IsWalkOn l (Asked set walk) = IsQuestion l walk.example
IsWalkOn l (Done end) = Unit {0}

-- ---- what is done to it

-- it begins with the set of all variables
abbrev pub stage_begun : Language → Assignment → Stage
stage_begun l e =
    Ready (record { example = e; waiting = numbers (variable_count l) ∷ []; left = MOST_SETS })

-- the next turn
abbrev pub turn_at : Language → List Candidate → List Candidate → Stage → Turn
turn_at l network kept (Ready walk) = next_turn l network kept walk.example walk.left walk.waiting
turn_at l network kept (Asked set walk) =
    next_turn l network kept walk.example walk.left walk.waiting
turn_at l network kept (Done end) = Ends end

abbrev pub stage_after : Turn → Stage
stage_after (Asks set walk) = Asked set walk
stage_after (Ends end) = Done end

-- the set that was asked about is put again
abbrev pub put_again : Stage → Stage
put_again (Ready walk) = Ready walk
put_again (Asked set walk) = Ready (record walk { waiting = set ∷ walk.waiting })
put_again (Done end) = Done end

-- it has come to the set of all variables, as its first turn does for an example that may be put
abbrev pub first_asked : Language → Assignment → Stage
first_asked l e =
    Asked (numbers (variable_count l)) (record { example = e; waiting = []; left = 4095 })
