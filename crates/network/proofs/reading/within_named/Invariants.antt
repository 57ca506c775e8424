use Rattle.network.proofs.Prelude.{drop, texts_of}
use Rattle.network.proofs.Joined.{IsMasked}
use Rattle.network.proofs.reading.within_named.Given as goal

abbrev pub invariant-loop-name : goal.invariant-loop-name
invariant-loop-name l = IsMasked l.lang l.s (texts_of l.names) (texts_of (drop l.name-index l.names)) l.relations
