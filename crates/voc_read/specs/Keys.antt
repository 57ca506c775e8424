-- The keys of an object.
use Rattle.std.specs.Prelude.{ℕ, Bool, false, not, ◌||◌, List, Option, Some, None, Result}
use Rattle.std.specs.Prelude.{if◌then◌else◌}
use Rattle.std.specs.List.{list_any}
use Rattle.std.specs.Option.{ok_or, option_map_or}
use Rattle.std.specs.Str.{bytes_eq}
use Rattle.serde_json.specs.Data.{Data, Members, no_members, member}
use Rattle.serde_json.specs.Find.{as_object, get}
use Rattle.voc_read.specs.declared.fault.Spot.{Spot}
use Rattle.voc_read.specs.declared.fault.VocFault.{VocFault}
use Rattle.voc_read.specs.declared.fault.VocFault.TheVariants.{Missing, WrongKind, UnknownKey}

-- whether a key is one of the known ones
abbrev pub is_known : List (List ℕ) → List ℕ → Bool
is_known known key = list_any (λ name. bytes_eq name key) known

-- whether an object has another key than the known ones
abbrev pub has_other_key : List (List ℕ) → Members → Bool
has_other_key known no_members = false
has_other_key known (member key value members) =
    not (is_known known key) || has_other_key known members

-- why a value is no object of the known keys alone
abbrev pub keys_refusal : List (List ℕ) → Spot → Data → Option VocFault
keys_refusal known spot value =
    option_map_or (λ members. if has_other_key known members then Some (UnknownKey spot)
    else None) (as_object value) (Some (WrongKind spot))

-- the value under a key
abbrev pub under : List ℕ → Spot → Data → Result Data VocFault
under key spot value = ok_or (get key value) (Missing spot)
