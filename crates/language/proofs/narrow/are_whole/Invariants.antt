use Rattle.language.proofs.Prelude.{◌≡◌, drop, are_whole}
use Rattle.language.proofs.narrow.are_whole.Given as goal

abbrev pub invariant-loop-v : goal.invariant-loop-v
invariant-loop-v l = are_whole l.ranges l.d l.scope ≡ are_whole l.ranges l.d (drop l.v-index l.scope)
