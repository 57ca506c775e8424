-- One move more.
use Rattle.multi_tree.proofs.Prelude.{◌≡◌, List, [], ◌∷◌, ◌++◌, refl, sym, ◌∙◌, ap, Assignment, Language, Stage, stage_begun, Move, moved, after_moves, StageStandsFor}

pub nothing_done : (l : Language) (e : Assignment) (stage : Stage) → stage ≡ stage_begun l e → StageStandsFor stage l e []
unfolding after_moves
nothing_done l e stage is = is

one_more : (l : Language) (stage : Stage) (moves : List Move) (move : Move) → after_moves l stage (moves ++ move ∷ []) ≡ moved l (after_moves l stage moves) move
unfolding after_moves
one_more l stage [] move = refl
one_more l stage (m ∷ moves) move = one_more l (moved l stage m) moves move

pub move_stands : (l : Language) (e : Assignment) (old new : Stage) (moves : List Move) (move : Move) → new ≡ moved l old move → StageStandsFor old l e moves → StageStandsFor new l e (moves ++ move ∷ [])
move_stands l e old new moves move is stands = is ∙ ap (λ stage. moved l stage move) stands ∙ sym (one_more l (stage_begun l e) moves move)
