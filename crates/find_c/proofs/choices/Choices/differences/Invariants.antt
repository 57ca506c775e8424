use Rattle.find_c.proofs.Prelude.{◌<◌, length, All, relations_on, scene_of, ones_of, allows_at}
use Rattle.find_c.proofs.Differences.{IsSeen, rejects_at}
use Rattle.find_c.proofs.choices.Choices.differences.Given as goal

abbrev pub invariant-loop-left : goal.invariant-loop-left
invariant-loop-left l = record {
  known : All (λ r. r < length (relations_on l.lang l.s)) (ones_of l.left);
  accepts : IsSeen (scene_of l.lang l.s) l.place (allows_at (scene_of l.lang l.s)) l.self-inside.relations l.accepted l.left;
  rejects : IsSeen (scene_of l.lang l.s) l.place (rejects_at (scene_of l.lang l.s)) l.self-inside.relations l.rejected l.left;
}

abbrev pub decreases-loop-left : goal.decreases-loop-left
decreases-loop-left l = length (ones_of l.left)
