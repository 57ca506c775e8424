use Rattle.disk_model.proofs.Replays.{steps_count}
use Rattle.std.proofs.Common.{rules}
use Rattle.disk_model.proofs.mem_disk.MemDisk.has_room_to_sync.Goals as goal

pub returns : goal.returns
returns c = search (rules, steps_count)
