-- The frame that the fields stand for.
use Rattle.std.specs.Prelude.{length, map, take, String, string_bytes}
use Rattle.std.specs.declared.alloc.Global.{Global}
use Rattle.language.specs.Building.{Frame, IsFrame}
use Rattle.language.specs.declared.frame.Frame.TheInside.{Inside}

abbrev pub seen : Inside → Frame
seen a = record {
  names = map (λ (s : String Global). string_bytes s) a.names.items;
  least_value = a.least_value;
  value_count = a.value_count;
  ranges = take (length a.names.items) a.ranges;
}

abbrev pub IsSound : Inside → Type 0
IsSound a = IsFrame (seen a)
