-- The network teacher that the fields stand for.
use Rattle.std.specs.Prelude.{map, vec_items}
use Rattle.std.specs.Option.{option_map}
use Rattle.target_oracle.specs.NetTurns.{Owner}
use Rattle.target_oracle.specs.declared.net.NetTeacher.TheInside.{Inside}

abbrev pub seen : Inside → Owner
seen a = record {
  network = a.network.list;
  quiet = a.quiet;
  lists = option_map (λ lists. map vec_items lists.items) a.lists;
}
