-- How large the arrays of a JSON value are.
use Rattle.std.specs.Prelude.{ℕ, max, Option, Some, None}
use Rattle.serde_json.specs.Data.{Data, null, boolean, number, string, array, object, Items}
use Rattle.serde_json.specs.Data.{no_items, item, Members, no_members, member}
use Rattle.serde_json.specs.Events.{items_len}

-- how many values the largest array has, the value itself or within it
abbrev mutual
  pub widest : Data → ℕ
  widest null = 0
  widest (boolean b) = 0
  widest (number n) = 0
  widest (string s) = 0
  widest (array ds) = max (items_len ds) (items_widest ds)
  widest (object ms) = members_widest ms

  pub items_widest : Items → ℕ
  items_widest no_items = 0
  items_widest (item d ds) = max (widest d) (items_widest ds)

  pub members_widest : Members → ℕ
  members_widest no_members = 0
  members_widest (member k d ms) = max (widest d) (members_widest ms)

-- that of a value that may be absent
abbrev pub widest_in : Option Data → ℕ
widest_in None = 0
widest_in (Some d) = widest d
