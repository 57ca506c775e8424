use Rattle.disk_model.proofs.Prelude.{◌<◌, ℕ, length, All, slice_index_or, Vec, HaveCutsOf, IsTornOf}
use Rattle.std.specs.declared.alloc.Global.{Global}
use Rattle.disk_model.proofs.crash.torn_images.Given as goal

abbrev pub invariant-loop-image : goal.invariant-loop-image
invariant-loop-image l = record {
  each : All (IsTornOf l.at (length l.bytes) l.images) l.torn.items;
  cuts : (k : ℕ) (d : Vec ℕ Global) → k < l.image-index → HaveCutsOf l.at l.bytes (slice_index_or l.images k d).items l.torn.items;
}
