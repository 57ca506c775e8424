-- What tells which tuples a relation accepts: a list of them, or a formula.
use Rattle.std.specs.Prelude.{ℕ, ◌^◌, nat_eq, ℤ, List, map, length, codes, Option, Some, None}
use Rattle.std.specs.Prelude.{Result, Ok, Err}
use Rattle.std.specs.List.{list_any, range_with_len}
use Rattle.std.specs.Option.{ok_or, option_map}
use Rattle.serde_json.specs.Data.{Data}
use Rattle.serde_json.specs.Find.{get}
use Rattle.serde_json.specs.View.{view}
use Rattle.rel_table.specs.Relation.{Relation}
use Rattle.rel_table.specs.Made.{place_of_shown, first_fault, lists}
use Rattle.rel_formula.specs.Formula.{Truth, first_too_big, relation_from_formula}
use Rattle.rel_formula.specs.Reading.{formula_in}
use Rattle.rel_formula.specs.declared.fault.FormulaFault.{FormulaFault}
use Rattle.rel_formula.specs.declared.fault.TableOfFault.TheVariants.{TooBig}
use Rattle.voc_read.specs.declared.fault.Spot.{Spot}
use Rattle.voc_read.specs.declared.fault.VocFault.{VocFault}
use Rattle.voc_read.specs.declared.fault.VocFault.TheVariants.{Missing, WrongKind, Formula, Table, TableOf}
use Rattle.voc_read.specs.declared.rules.Stated.{Stated}
use Rattle.voc_read.specs.declared.rules.Stated.TheVariants as stated
use Rattle.voc_read.specs.declared.rules.Rule.{Rule}
use Rattle.voc_read.specs.declared.rules.Rule.TheVariants as rule
use Rattle.voc_read.specs.Answers.{then_on, unless}
use Rattle.voc_read.specs.Values.{tuple_list}
use Rattle.voc_read.specs.Widest.{widest}

-- the tuples, as they are kept in T, or the value that is to be a formula
pub data RuleData (T : Type 0) : Type 0 where
  tuples : T → RuleData T
  formula : Data → RuleData T

-- what stands under `tuples` or `formula`: one of the keys is there, and not both
abbrev pub one_of : Spot → Option Data → Option Data → Result (RuleData Data) VocFault
one_of here None None = Err (Missing here)
one_of here (Some found) None = Ok (tuples found)
one_of here None (Some found) = Ok (formula found)
one_of here (Some found) (Some other) = Err (WrongKind here)

abbrev pub stated_under : Spot → Data → Result (RuleData Data) VocFault
stated_under here value = one_of here (get (codes "tuples") value) (get (codes "formula") value)

abbrev pub stated_data : Stated → RuleData Data
stated_data (stated.Tuples value) = tuples (view value.now)
stated_data (stated.Formula value) = formula (view value.now)

-- how many values the largest array of what is stated has
abbrev pub stated_widest : RuleData Data → ℕ
stated_widest (tuples value) = widest value
stated_widest (formula value) = widest value

-- the tuples are an array of arrays of whole numbers
abbrev pub rule_in : Spot → RuleData Data → Result (RuleData (List (List ℤ))) VocFault
rule_in here (tuples value) =
    then_on (ok_or (tuple_list value) (WrongKind here)) (λ list. Ok (tuples list))
rule_in here (formula value) = Ok (formula value)

abbrev pub rule_data : Rule → RuleData (List (List ℤ))
rule_data (rule.Tuples list) = tuples (lists list.items)
rule_data (rule.Formula value) = formula (view value.now)

-- how many tuples are given
abbrev pub tuple_count : Rule → ℕ
tuple_count (rule.Tuples list) = length list.items
tuple_count (rule.Formula value) = 0

-- the relation that accepts exactly the tuples: for each place, whether one of them stands there
abbrev pub accepting : ℤ → ℕ → ℕ → List (List ℤ) → Relation
accepting least_value value_count arity given =
    map (λ at. list_any (λ tuple. nat_eq (place_of_shown least_value value_count tuple) at) given)
    (range_with_len 0 (value_count ^ arity))

-- the relation of tuples, for relation i
abbrev pub relation_of_tuples : ℕ → ℤ → ℕ → ℕ → List (List ℤ) → Result Relation VocFault
relation_of_tuples i least_value value_count arity given =
    unless (option_map (Table i) (first_fault arity least_value value_count 0 given))
    (Ok (accepting least_value value_count arity given))

-- the formula of relation i
abbrev pub rule_formula : ℕ → Result Truth FormulaFault → Result Truth VocFault
rule_formula i (Ok truth) = Ok truth
rule_formula i (Err fault) = Err (Formula i fault)

-- the relation of a formula, for relation i
abbrev pub relation_of_formula : ℕ → ℤ → ℕ → ℕ → Data → Result Relation VocFault
relation_of_formula i least_value value_count arity value =
    then_on (rule_formula i (formula_in arity value)) (λ truth.
    unless (option_map (λ place. TableOf i (TooBig place))
    (first_too_big truth arity least_value value_count)) (
    Ok (relation_from_formula truth arity least_value value_count)))

-- the relation of a rule, for relation i
abbrev pub relation_of_rule : ℕ → ℤ → ℕ → ℕ → RuleData (List (List ℤ)) → Result Relation VocFault
relation_of_rule i least_value value_count arity (tuples given) =
    relation_of_tuples i least_value value_count arity given
relation_of_rule i least_value value_count arity (formula value) =
    relation_of_formula i least_value value_count arity value
