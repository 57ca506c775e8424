-- What a vocabulary holds, before its relations and scopes are read.
use Rattle.std.specs.Prelude.{ℕ, ℤ, ◌≤◌, Bool, false, List, [], ◌∷◌, length, codes, Option, Some}
use Rattle.std.specs.Prelude.{None, Result, Ok, IfSome, if◌then◌else◌}
use Rattle.std.specs.Option.{ok_or, option_map, option_map_or}
use Rattle.std.specs.Borrow.{Bor}
use Rattle.serde_json.specs.declared.value.Value.{Value}
use Rattle.std.specs.Str.{bytes_eq}
use Rattle.serde_json.specs.Data.{Data, Items, no_items}
use Rattle.serde_json.specs.Find.{as_array, as_str, get}
use Rattle.serde_json.specs.View.{view, items_view}
use Rattle.voc_read.specs.declared.fault.VocFault.{VocFault}
use Rattle.voc_read.specs.declared.fault.VocFault.TheVariants.{WrongKind}
use Rattle.voc_read.specs.declared.fault.Spot.TheVariants.{Whole, Variables, Domain, Relations}
use Rattle.voc_read.specs.declared.fault.Spot.TheVariants.{Scopes, Ranges}
use Rattle.voc_read.specs.declared.outline.Held.{Held}
use Rattle.voc_read.specs.declared.outline.Outline.{Outline}
use Rattle.voc_read.specs.Answers.{then_on, unless}
use Rattle.voc_read.specs.Keys.{keys_refusal, under}
use Rattle.voc_read.specs.Texts.{texts_of}
use Rattle.voc_read.specs.Values.{text_list, number_pair}
use Rattle.voc_read.specs.Widest.{widest, widest_in, items_widest}

-- the values under the keys of a vocabulary
pub record HeldData : Type 0 where
  pub variables : Data
  pub domain : Data
  pub relations : Data
  pub scopes : Data
  -- the key may be absent
  pub ranges : Option Data

abbrev pub vocabulary_keys : List (List ℕ)
vocabulary_keys =
    codes "variables" ∷ codes "domain" ∷ codes "relations" ∷ codes "scopes" ∷ codes "ranges" ∷ []

-- the values that an object holds under exactly these keys, of which `ranges` alone may be absent
abbrev pub held_by : Data → Result HeldData VocFault
held_by whole =
    unless (keys_refusal vocabulary_keys Whole whole) (
    then_on (under (codes "variables") Variables whole) (λ variables.
    then_on (under (codes "domain") Domain whole) (λ domain.
    then_on (under (codes "relations") Relations whole) (λ relations.
    then_on (under (codes "scopes") Scopes whole) (λ scopes.
    Ok (record {
      variables = variables;
      domain = domain;
      relations = relations;
      scopes = scopes;
      ranges = get (codes "ranges") whole;
    }
    ))))))

-- a value that may be absent
abbrev pub found_data : Option (Bor Value) → Option Data
found_data found = option_map (λ value. view value.now) found

abbrev pub held_data : Held → HeldData
held_data held = record {
  variables = view held.variables.now;
  domain = view held.domain.now;
  relations = view held.relations.now;
  scopes = view held.scopes.now;
  ranges = found_data held.ranges;
}

-- no array of what is held, the domain aside, has more values than this
pub record IsHeldWithin (most : ℕ) (held : HeldData) : Type 0 where
  pub variables : widest held.variables ≤ most
  pub relations : widest held.relations ≤ most
  pub scopes : widest held.scopes ≤ most
  pub ranges : widest_in held.ranges ≤ most

-- the names and the domain, with the relations, the scopes and the ranges that are still to be read
pub record OutlineData : Type 0 where
  pub names : List (List ℕ)
  pub least_value : ℤ
  pub greatest_value : ℤ
  pub relations : Items
  -- the scopes that are listed, where they are
  pub listed : Option Items
  pub ranges : Items

-- the string `all`
abbrev pub is_all : Data → Bool
is_all scopes = option_map_or (λ text. bytes_eq text (codes "all")) (as_str scopes) false

-- the scopes that are listed, or none for the string `all`
abbrev pub listed_under : Data → Result (Option Items) VocFault
listed_under scopes = if is_all scopes then Ok None
    else then_on (ok_or (as_array scopes) (WrongKind Scopes)) (λ items. Ok (Some items))

-- the ranges that are stated, none where the key is absent
abbrev pub ranges_under : Option Data → Result Items VocFault
ranges_under None = Ok no_items
ranges_under (Some ranges) = ok_or (as_array ranges) (WrongKind Ranges)

-- what the values are, where each is of its kind
abbrev pub outline_of : HeldData → Result OutlineData VocFault
outline_of held =
    then_on (ok_or (text_list held.variables) (WrongKind Variables)) (λ names.
    then_on (ok_or (number_pair held.domain) (WrongKind Domain)) (λ bounds.
    then_on (ok_or (as_array held.relations) (WrongKind Relations)) (λ relations.
    then_on (listed_under held.scopes) (λ listed.
    then_on (ranges_under held.ranges) (λ ranges.
    Ok (record {
      names = names;
      least_value = bounds.0;
      greatest_value = bounds.1;
      relations = relations;
      listed = listed;
      ranges = ranges;
    }))))))

-- values that are listed, where some are
abbrev pub listed_items : Option (Bor (List Value)) → Option Items
listed_items listed = option_map (λ list. items_view list.now) listed

abbrev pub outline_data : Outline → OutlineData
outline_data outline = record {
  names = texts_of outline.names.items;
  least_value = outline.least_value;
  greatest_value = outline.greatest_value;
  relations = items_view outline.relations.now;
  listed = listed_items outline.listed;
  ranges = items_view outline.ranges.now;
}

-- no list has more values than the largest array of what it is read from
pub record IsOutlineWithin (held : HeldData) (outline : Outline) : Type 0 where
  pub names : length outline.names.items ≤ widest held.variables
  pub relations : length outline.relations.now ≤ widest held.relations
  pub parts : items_widest (items_view outline.relations.now) ≤ widest held.relations
  pub listed : IfSome outline.listed (λ list. length list.now ≤ widest held.scopes)
  pub ranges : length outline.ranges.now ≤ widest_in held.ranges
