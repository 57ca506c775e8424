-- Where a walk stands, after all that was done to it.
use Rattle.std.specs.Prelude.{ℕ, ◌≡◌, List, [], ◌∷◌}
use Rattle.assign.specs.Assignment.{Assignment}
use Rattle.language.specs.declared.candidates.Candidate.{Candidate}
use Rattle.language.specs.Language.{Language}
use Rattle.session_laws.specs.Walk.{Turn, Asks, Ends, Ended, Capped}
use Rattle.multi_tree.specs.declared.tree.TreeNext.{TreeNext}
use Rattle.multi_tree.specs.declared.tree.TreeNext.TheVariants as next
use Rattle.multi_tree.specs.Stage.{Stage, stage_begun, turn_at, stage_after, put_again}

-- what a turn answers
abbrev pub next_of_turn : Turn → TreeNext
next_of_turn (Asks set walk) = next.Ask set
next_of_turn (Ends (Ended e)) = next.End
next_of_turn (Ends (Capped e)) = next.Capped

-- the turn of an answer, with the sets and the number that it leaves
abbrev pub turn_told : Assignment → TreeNext → List (List ℕ) → ℕ → Turn
turn_told e (next.Ask set) waiting left =
    Asks set (record { example = e; waiting = waiting; left = left })
turn_told e next.End waiting left = Ends (Ended e)
turn_told e next.Capped waiting left = Ends (Capped e)

-- a turn with these learned and these kept candidates, or the set that was asked about is put again
pub data Move : Type 0 where
  Turns : List Candidate → List Candidate → Move
  PutsAgain : Move

abbrev pub moved : Language → Stage → Move → Stage
moved l stage (Turns network kept) = stage_after (turn_at l network kept stage)
moved l stage PutsAgain = put_again stage

-- where the moves lead
unfoldable pub after_moves : Language → Stage → List Move → Stage
after_moves l stage [] = stage
after_moves l stage (move ∷ moves) = after_moves l (moved l stage move) moves

-- it stands where the moves lead from the beginning of the walk of e
abbrev pub StageStandsFor : Stage → Language → Assignment → List Move → Type 0
StageStandsFor stage l e moves = stage ≡ after_moves l (stage_begun l e) moves
