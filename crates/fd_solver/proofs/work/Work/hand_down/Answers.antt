use Rattle.fd_solver.proofs.Prelude.{◌+◌, [], ap, arith, length, length-set, slice_index_or}
use Rattle.fd_solver.proofs.work.Work.hand_down.Goals as goal

pub invariant_of-self-2 : goal.invariant_of-self-2
invariant_of-self-2 c = record {
  depths = (let room = c.copy_down.ensures.room in let deep = c.self.invariant.depths in omega arith);
  entailed = (let room = c.copy_known.ensures.room in let deep = c.self.invariant.entailed in omega arith);
  same = (let both = c.self.invariant.same in
      let copied = ap length c.copy_down.ensures.is in
      let size = length-set c.self.inside.depths.items (c.args.at + 1) (slice_index_or c.self.inside.depths.items c.from-row.result []) in
      let known = c.copy_known.ensures.size in
      let before = c.self.inside.entailed.ok.0 in
      let after = c.copy_known.new.entailed.ok.0 in
      omega arith);
}
