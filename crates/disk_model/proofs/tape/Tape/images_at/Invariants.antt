use Rattle.disk_model.proofs.Prelude.{◌≡◌, take, drop, bytes_in, tape_steps, IsReplay}
use Rattle.disk_model.proofs.tape.Tape.images_at.Given as goal

abbrev pub invariant-loop-mark : goal.invariant-loop-mark
invariant-loop-mark l = record {
  replayed : IsReplay l.self.start.items (take l.mark-index (tape_steps l.self)) l.replay.now.items l.replay.images.items;
  left : l.rest ≡ drop (bytes_in (take l.mark-index l.self.marks.items)) l.self.written.items;
}
