use Rattle.std.proofs.Common.{length, ◌-◌, ◌≡◌, ◌≤◌, ◌++◌, take, drop}
use Rattle.std.specs.Option.{ForSome}
use Rattle.file_disk.proofs.file_disk.read_whole.Given as goal

-- what was read so far stands in front, and behind it what was there
abbrev pub invariant-loop-done : goal.invariant-loop-done
invariant-loop-done g l =
    (l.done ≤ length l.fn.buf) × (length l.buf ≡ length l.fn.buf)
    × ForSome (g.F.NamedFile.content l.fn.file) (λ bytes. (l.done ≤ length bytes - l.fn.at) × (l.buf ≡ take l.done (drop l.fn.at bytes) ++ drop l.done l.fn.buf))

abbrev pub decreases-loop-done : goal.decreases-loop-done
decreases-loop-done g l = length l.fn.buf - l.done
