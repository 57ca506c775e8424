-- The relations of a vocabulary.
use Rattle.std.specs.Prelude.{◌≡◌, ℕ, ◌+◌, ℤ, unsigned_abs, List, [], ◌∷◌, map, codes, Option, Some}
use Rattle.std.specs.Prelude.{None, Result, Ok, Err, if◌then◌else◌, true, string_bytes}
use Rattle.std.specs.Option.{ok_or, option_map}
use Rattle.serde_json.specs.Data.{Data, Items, no_items, item}
use Rattle.serde_json.specs.Find.{as_str}
use Rattle.rel_table.specs.Made.{size_of}
use Rattle.rel_table.specs.declared.table.TableFault.{TableFault}
use Rattle.language.specs.Language.{Given, is_name}
use Rattle.language.specs.declared.parts.RelPart.{RelPart}
use Rattle.voc_read.specs.declared.fault.Spot.{Spot}
use Rattle.voc_read.specs.declared.fault.VocFault.{VocFault}
use Rattle.voc_read.specs.declared.fault.VocFault.TheVariants.{WrongKind, BadRelName, RelRepeated}
use Rattle.voc_read.specs.declared.fault.VocFault.TheVariants.{Table}
use Rattle.voc_read.specs.declared.fault.Spot.TheVariants as spot
use Rattle.voc_read.specs.declared.relations.StatedRelation.{StatedRelation}
use Rattle.voc_read.specs.Answers.{then_on, unless}
use Rattle.voc_read.specs.Keys.{keys_refusal, under}
use Rattle.voc_read.specs.Names.{first_repeat}
use Rattle.voc_read.specs.Values.{whole_number}
use Rattle.voc_read.specs.Rules.{RuleData, stated_under, rule_in, rule_data, relation_of_rule}

-- a relation as a vocabulary states it
pub record RelationData : Type 0 where
  pub name : List ℕ
  pub arity : ℤ
  pub rule : RuleData (List (List ℤ))

abbrev pub relation_keys : List (List ℕ)
relation_keys = codes "name" ∷ codes "arity" ∷ codes "tuples" ∷ codes "formula" ∷ []

-- what an object states under these keys, each value of its kind; `tuples` and `formula` exclude
-- each other
abbrev pub relation_data : Spot → Data → Result RelationData VocFault
relation_data here value =
    unless (keys_refusal relation_keys here value) (
    then_on (under (codes "name") here value) (λ name.
    then_on (under (codes "arity") here value) (λ arity.
    then_on (stated_under here value) (λ stated.
    then_on (ok_or (as_str name) (WrongKind here)) (λ name.
    then_on (ok_or (whole_number arity) (WrongKind here)) (λ arity.
    then_on (rule_in here stated) (λ rule.
    Ok (record { name = name; arity = arity; rule = rule }))))))))

abbrev pub stated_relation : StatedRelation → RelationData
stated_relation stated =
    record { name = stated.name.now; arity = stated.arity; rule = rule_data stated.rule }

-- why relation i is refused by its name
abbrev pub name_refusal : ℕ → List ℕ → Option VocFault
name_refusal i name = if is_name name then None else Some (BadRelName i)

-- an arity, where so many tuples of it are counted
abbrev pub counted_arity : ℕ → ℤ → Result ℕ TableFault → Result ℕ VocFault
counted_arity i arity (Ok size) = Ok (unsigned_abs arity)
counted_arity i arity (Err fault) = Err (Table i fault)

-- the arity of relation i, where there are 1 to 65,536 tuples of it
abbrev pub small_arity : ℕ → ℕ → ℤ → Result ℕ VocFault
small_arity i value_count arity = counted_arity i arity (size_of arity value_count)

-- relation i, made of what is stated
abbrev pub made_of : ℕ → ℤ → ℕ → RelationData → Result Given VocFault
made_of i least_value value_count stated =
    unless (name_refusal i stated.name) (
    then_on (small_arity i value_count stated.arity) (λ arity.
    then_on (relation_of_rule i least_value value_count arity stated.rule) (λ relation.
    Ok (record { name = stated.name; arity = arity; relation = relation }))))

-- what relation i is
abbrev pub relation_stated : ℕ → ℤ → ℕ → Data → Result Given VocFault
relation_stated i least_value value_count value =
    then_on (relation_data (spot.Relation i) value) (made_of i least_value value_count)

-- what the relations from i on are
abbrev pub relations_from : ℕ → ℤ → ℕ → Items → Result (List Given) VocFault
relations_from i least_value value_count no_items = Ok []
relations_from i least_value value_count (item value values) =
    then_on (relation_stated i least_value value_count value) (λ relation.
    then_on (relations_from (i + 1) least_value value_count values) (λ relations.
    Ok (relation ∷ relations)))

-- its name has the form of one
abbrev pub IsNamed : RelPart → Type 0
IsNamed part = is_name (string_bytes part.name) ≡ true

-- the names of relations
abbrev pub given_names : List Given → List (List ℕ)
given_names given = map (λ (g : Given). g.name) given

-- why the relations are refused by their names together
abbrev pub relation_names_refusal : List Given → Option VocFault
relation_names_refusal given =
    option_map (λ pair. RelRepeated pair.0 pair.1) (first_repeat (given_names given))

-- relations over so many values from the least one on, no two of one name
abbrev pub listed_relations : ℤ → ℕ → Items → Result (List Given) VocFault
listed_relations least_value value_count relations =
    then_on (relations_from 0 least_value value_count relations)
    (λ given. unless (relation_names_refusal given) (Ok given))
