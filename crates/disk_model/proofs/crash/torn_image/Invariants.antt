use Rattle.disk_model.proofs.Prelude.{◌<◌, ℕ, take, length, Contains, put, AreTorn, contents}
use Rattle.disk_model.proofs.crash.torn_image.Given as goal

abbrev pub invariant-loop-cut : goal.invariant-loop-cut
invariant-loop-cut l = record {
  each : AreTorn l.at (length l.bytes) l.image l.torn.items;
  cuts : (k : ℕ) → k < l.cut → Contains (contents l.torn.items) (put l.image l.at (take k l.bytes));
}
