use Rattle.find_c.proofs.Prelude.{◌<◌, length, All, relations_on, scene_of, ones_of}
use Rattle.find_c.proofs.Differences.{IsAmong}
use Rattle.find_c.proofs.choices.some_rejects.Given as goal

abbrev pub invariant-loop-left : goal.invariant-loop-left
invariant-loop-left l = record {
  known : All (λ r. r < length (relations_on l.lang l.s)) (ones_of l.left);
  among : IsAmong (scene_of l.lang l.s) 0 l.fn.relations l.left;
}

abbrev pub decreases-loop-left : goal.decreases-loop-left
decreases-loop-left l = length (ones_of l.left)
