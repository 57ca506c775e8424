-- The text of each fault.
use Rattle.std.specs.Prelude.{ℕ, List, ◌++◌, codes}
use Rattle.std.specs.Fmt.{decimal}
use Rattle.rel_table.specs.declared.table.CloseFault.{CloseFault}
use Rattle.rel_table.specs.declared.table.CloseFault.TheVariants as closing
use Rattle.rel_table.specs.declared.table.TableFault.{TableFault}
use Rattle.rel_table.specs.declared.table.TableFault.TheVariants as table
use Rattle.rel_formula.specs.declared.fault.FormulaFault.{FormulaFault}
use Rattle.rel_formula.specs.declared.fault.FormulaFault.TheVariants as formula
use Rattle.rel_formula.specs.declared.fault.TableOfFault.{TableOfFault}
use Rattle.rel_formula.specs.declared.fault.TableOfFault.TheVariants as evaluation
use Rattle.language.specs.declared.parts.LangFault.{LangFault}
use Rattle.language.specs.declared.parts.LangFault.TheVariants as lang
use Rattle.voc_read.specs.declared.fault.Spot.{Spot}
use Rattle.voc_read.specs.declared.fault.Spot.TheVariants.{Whole, Variables, Domain, Relations}
use Rattle.voc_read.specs.declared.fault.Spot.TheVariants.{Relation, Scopes, Scope, Ranges, Range}
use Rattle.voc_read.specs.declared.fault.VocFault.{VocFault}
use Rattle.voc_read.specs.declared.fault.VocFault.TheVariants.{TooLong, NotJson, Missing, WrongKind}
use Rattle.voc_read.specs.declared.fault.VocFault.TheVariants.{UnknownKey, BadName, NameRepeated}
use Rattle.voc_read.specs.declared.fault.VocFault.TheVariants.{BadRelName, RelRepeated}
use Rattle.voc_read.specs.declared.fault.VocFault.TheVariants.{UnknownVariable, RangeName, BadRange}
use Rattle.voc_read.specs.declared.fault.VocFault.TheVariants.{RangeRepeated, Formula, Table}
use Rattle.voc_read.specs.declared.fault.VocFault.TheVariants.{TableOf, Lang, Memory}

-- where a fault is
abbrev pub spot_text : Spot → List ℕ
spot_text Whole = codes "whole"
spot_text Variables = codes "variables"
spot_text Domain = codes "domain"
spot_text Relations = codes "relations"
spot_text (Relation i) = codes "relation " ++ decimal i
spot_text Scopes = codes "scopes"
spot_text (Scope i) = codes "scope " ++ decimal i
spot_text Ranges = codes "ranges"
spot_text (Range i) = codes "range " ++ decimal i

-- two numbers
abbrev pub pair_text : ℕ → ℕ → List ℕ
pair_text i j = decimal i ++ (codes " " ++ decimal j)

-- why there is no table
abbrev pub table_text : TableFault → List ℕ
table_text table.BadArity = codes "bad arity"
table_text (table.TupleLength t) = codes "tuple length " ++ decimal t
table_text (table.ValueOut t) = codes "value out " ++ decimal t
table_text table.TooLarge = codes "too large"
table_text table.Memory = codes "memory"

-- why a value is no formula
abbrev pub formula_text : FormulaFault → List ℕ
formula_text (formula.BadShape p) = codes "bad shape " ++ decimal p
formula_text (formula.BadOperator p) = codes "bad operator " ++ decimal p
formula_text (formula.BadPosition p) = codes "bad position " ++ decimal p
formula_text formula.TooDeep = codes "too deep"
formula_text formula.TooManyNodes = codes "too many nodes"
formula_text formula.Memory = codes "memory"

-- why there is no table of a formula
abbrev pub evaluation_text : TableOfFault → List ℕ
evaluation_text (evaluation.TooBig p) = codes "value too big " ++ decimal p
evaluation_text evaluation.Memory = codes "memory"

-- why relations have no closing
abbrev pub close_fault_text : CloseFault → List ℕ
close_fault_text (closing.TooMany arity) = codes "too many relations " ++ decimal arity
close_fault_text closing.Memory = codes "memory"

-- why there is no language
abbrev pub lang_text : LangFault → List ℕ
lang_text lang.NoVariables = codes "no variables"
lang_text lang.TooManyVariables = codes "too many variables"
lang_text lang.BadDomain = codes "bad domain"
lang_text lang.NoRelations = codes "no relations"
lang_text (lang.ScopeOrder i) = codes "scope order " ++ decimal i
lang_text lang.TooManyScopes = codes "too many scopes"
lang_text (lang.ScopeRepeated i j) = codes "scope repeated " ++ pair_text i j
lang_text (lang.Nested i j) = codes "nested " ++ pair_text i j
lang_text (lang.NoRelationOfArity i) = codes "no relation of arity " ++ decimal i
lang_text (lang.Closing fault) = close_fault_text fault
lang_text lang.Memory = codes "memory"

-- why a vocabulary is refused
abbrev pub fault_text : VocFault → List ℕ
fault_text TooLong = codes "too long"
fault_text NotJson = codes "not json"
fault_text (Missing spot) = codes "missing " ++ spot_text spot
fault_text (WrongKind spot) = codes "wrong kind " ++ spot_text spot
fault_text (UnknownKey spot) = codes "unknown key " ++ spot_text spot
fault_text (BadName i) = codes "bad name " ++ decimal i
fault_text (NameRepeated i j) = codes "name repeated " ++ pair_text i j
fault_text (RangeName i) = codes "range name " ++ decimal i
fault_text (BadRange i) = codes "bad range " ++ decimal i
fault_text (RangeRepeated i j) = codes "range repeated " ++ pair_text i j
fault_text (BadRelName i) = codes "bad relation name " ++ decimal i
fault_text (RelRepeated i j) = codes "relation repeated " ++ pair_text i j
fault_text (UnknownVariable i) = codes "unknown variable " ++ decimal i
fault_text (Formula i fault) =
    codes "relation " ++ (decimal i ++ (codes " formula " ++ formula_text fault))
fault_text (Table i fault) =
    codes "relation " ++ (decimal i ++ (codes " table " ++ table_text fault))
fault_text (TableOf i fault) =
    codes "relation " ++ (decimal i ++ (codes " " ++ evaluation_text fault))
fault_text (Lang fault) = lang_text fault
fault_text Memory = codes "memory"
