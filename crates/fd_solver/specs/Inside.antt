-- What the room of a search is seen as.
use Rattle.std.specs.Prelude.{◌≡◌, ◌≤◌, length, vec_capacity}
use Rattle.fd_solver.specs.Ready.{Room}
use Rattle.fd_solver.specs.declared.work.Work.TheInside.{Inside}

abbrev pub seen : Inside → Room
seen a =
    record { depths = a.depths.items; entailed = a.entailed.items; rows = a.rows; plan = a.plan }

-- room for rows from no value up to 128, of which as many are there for both
pub record IsDeep (a : Inside) : Type 0 where
  pub depths : 129 ≤ vec_capacity a.depths
  pub entailed : 129 ≤ vec_capacity a.entailed
  pub same : length a.entailed.items ≡ length a.depths.items
