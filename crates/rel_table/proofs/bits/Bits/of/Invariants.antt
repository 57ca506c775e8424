use Rattle.rel_table.proofs.Prelude.{◌≡◌, length}
use Rattle.rel_table.proofs.Copying.{copied}
use Rattle.rel_table.proofs.bits.Bits.of.Given as goal

abbrev pub invariant-loop-i : goal.invariant-loop-i
invariant-loop-i l = record {
  long : length l.bits ≡ length l.truth;
  copied : l.bits ≡ copied l.truth l.i;
}
