use Rattle.acq_said.proofs.Prelude.{◌≡◌, length, take, is_back}
use Rattle.std.specs.Prelude.{filter}
use Rattle.acq_said.proofs.shows.take_backs.Given as goal

abbrev pub invariant-loop-i : goal.invariant-loop-i
invariant-loop-i l = l.backs ≡ length (filter is_back (take l.i l.events.items))
