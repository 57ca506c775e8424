-- Which faults are want of memory: a vocabulary's own, or that of what is found in it.
use Rattle.std.specs.Prelude.{Bool, true, false}
use Rattle.rel_table.specs.declared.table.CloseFault.{CloseFault}
use Rattle.rel_table.specs.declared.table.CloseFault.TheVariants as closing
use Rattle.rel_table.specs.declared.table.TableFault.{TableFault}
use Rattle.rel_table.specs.declared.table.TableFault.TheVariants as table
use Rattle.rel_formula.specs.declared.fault.FormulaFault.{FormulaFault}
use Rattle.rel_formula.specs.declared.fault.FormulaFault.TheVariants as formula
use Rattle.rel_formula.specs.declared.fault.TableOfFault.{TableOfFault}
use Rattle.rel_formula.specs.declared.fault.TableOfFault.TheVariants as evaluation
use Rattle.language.specs.declared.parts.LangFault.{LangFault}
use Rattle.language.specs.declared.parts.LangFault.TheVariants as lang
use Rattle.voc_read.specs.declared.fault.VocFault.{VocFault}
use Rattle.voc_read.specs.declared.fault.VocFault.TheVariants.{Formula, Table, TableOf, Lang}
use Rattle.voc_read.specs.declared.fault.VocFault.TheVariants.{Memory}

abbrev pub table_wants : TableFault → Bool
table_wants table.Memory = true
table_wants other = false

abbrev pub formula_wants : FormulaFault → Bool
formula_wants formula.Memory = true
formula_wants other = false

abbrev pub evaluation_wants : TableOfFault → Bool
evaluation_wants evaluation.Memory = true
evaluation_wants other = false

abbrev pub closing_wants : CloseFault → Bool
closing_wants closing.Memory = true
closing_wants other = false

abbrev pub lang_wants : LangFault → Bool
lang_wants lang.Memory = true
lang_wants (lang.Closing fault) = closing_wants fault
lang_wants other = false

abbrev pub wants_memory : VocFault → Bool
wants_memory Memory = true
wants_memory (Formula i fault) = formula_wants fault
wants_memory (Table i fault) = table_wants fault
wants_memory (TableOf i fault) = evaluation_wants fault
wants_memory (Lang fault) = lang_wants fault
wants_memory other = false
