use Rattle.multi_tree.proofs.Prelude.{◌≡◌, AreListed}
use Rattle.multi_tree.proofs.listing.look_on.Given as goal

abbrev pub invariant-loop-i : goal.invariant-loop-i
invariant-loop-i l = record {
  listed : AreListed l.fn.lang l.net l.fn.example l.places l.listed;
  all : l.listed.looked_at ≡ l.i;
}
