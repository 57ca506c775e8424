-- The names from outside that these proofs cite, passed on from one place. Declares nothing.
pub use Rattle.std.proofs.Common.{Err, Global, List, Ok, Result, Some, Vec, [], add-one, ap, ap₂, arith, drop, get_or, inl, inr, is_some, length, length-append, min, refl, subst, suc, sym, take, take_all, zero, ℕ, ◌++◌, ◌+◌, ◌<◌, ◌∙◌, ◌∷◌, ◌≡◌, ◌≤◌, ◌⊎◌}
pub use Rattle.std.proofs.lemmas.Bool.{cases_lt, cond-true}
pub use Rattle.std.proofs.lemmas.List.Elements.{All-append, All-push, Contains-append_left, Contains-append_right}
pub use Rattle.std.specs.Prelude.{All, Contains, IsErrAnd, OnOk, slice_index_or}
pub use Rattle.disk_model.specs.Crash.{AreTorn, HaveAllCuts, HaveCutsOf, IsReplay, IsTornOf, contents, mark_bytes, step_of}
pub use Rattle.disk_model.specs.Disk.{Torn}
pub use Rattle.disk_model.specs.Images.{bytes_in-sync, bytes_in-write, content-sync, content-write, cut-sync, cut-write, elapses-to, image-content, image-synced, image-torn, leaves-sync, leaves-write, steps_of-sync, steps_of-write, torn-put, within-sync, within-write}
pub use Rattle.disk_model.specs.MemDisk.{content_of, start_of, steps_in}
pub use Rattle.disk_model.specs.Record.{CutShort, Leaves, Step, Synced, Wrote, are_within, bytes_in, content_after, put, steps_of}
pub use Rattle.disk_model.specs.Tape.{tape_steps}
pub use Rattle.disk_model.specs.declared.tape.Mark.{Mark}
pub use Rattle.disk_model.specs.declared.tape.Mark.TheVariants.{Sync, Write}
