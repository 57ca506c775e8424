use Rattle.net_reduce.proofs.Searching.{IsUnderway}
use Rattle.net_reduce.proofs.reducing.reduce.Given as goal

abbrev pub invariant-loop-number : goal.invariant-loop-number
invariant-loop-number l = IsUnderway l.fn.lang l.fn.net.list l.fn.budget l.number l.kept l.part.items
