use Rattle.propagators.proofs.Prelude.{◌≡◌, ◌*◌, length, conditions, AreTakenIn}
use Rattle.propagators.proofs.arranging.take_in.Given as goal

abbrev pub invariant-loop-i : goal.invariant-loop-i
invariant-loop-i l = record {
  taken : AreTakenIn l.cons.lang.now (conditions l.cons) l.briefs l.sets l.limits l.aparts l.i;
  wide : length l.limits ≡ 128;
  long : length l.sets ≡ 128 * l.words;
  two : length l.aparts ≡ 128 * 2;
}
