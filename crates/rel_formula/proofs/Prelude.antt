-- The names from outside that these proofs cite, passed on from one place. Declares nothing.
pub use Rattle.std.proofs.Common.{Bool, Err, IfErr, IsSome, List, None, Ok, OnOk, Option, Result, SFits, Some, [], add-one, ap, append_assoc, arith, drop, eqb-true, false, get_or, if◌then◌else◌, is_some, le-ltb, length, length-append, lt-ltb, not, of_z, pos, refl, reverse, rules, set, subst, suc, sym, take, to_z, true, w64, zero, ℕ, ℤ, ◌%◌, ◌*◌, ◌/◌, ◌++◌, ◌+ℤ◌, ◌+◌, ◌-◌, ◌<◌, ◌^◌, ◌||◌, ◌∙◌, ◌∷◌, ◌≡◌, ◌≤◌}
pub use Rattle.std.proofs.Math.Seq.{drop-cons, take-suc}
pub use Rattle.std.proofs.lemmas.Int.{to_z-of_z}
pub use Rattle.std.proofs.lemmas.List.{append-nil, get_or-map, get_or-set_other, get_or-set_same, length-map, length-set, length-take, map_more, take_all, take_more_set}
pub use Rattle.std.specs.List.{fold, position_or_len}
pub use Rattle.std.specs.Prelude.{⊤}
pub use Rattle.rel_table.proofs.PlaceLemmas.{get_or-tuples, length-tuple_at, length-tuples}
pub use Rattle.rel_table.specs.Relation.{tuple_at, tuples}
pub use Rattle.serde_json.specs.View.{items_view, view}
pub use Rattle.serde_json.specs.declared.value.Value.{Value}
pub use Rattle.rel_formula.specs.Adding.{AddsSteps, ReadsSteps}
pub use Rattle.rel_formula.specs.Answers.{then_on}
pub use Rattle.rel_formula.specs.Formula.{Term, Truth, absolute, combine, combined, compare, compared, first_too_big, fits, fitting, is_too_big, is_true, join, joined, opposite, parts, parts_of, relation_from_formula, shown, shown_tuple, size, some_too_big, value, whole}
pub use Rattle.rel_formula.specs.Machine.{MachineEnd, run}
pub use Rattle.rel_formula.specs.Names.{as_term_operator, as_truth_operator, operand_count, operator_in, term_operator_in, term_takes, truth_operator_in, truth_takes}
pub use Rattle.rel_formula.specs.Reading.{applied, comparison_of, connected, negated, read_term, read_term_call, read_terms, read_truth, read_truth_call, read_truths, truth_by}
pub use Rattle.rel_formula.specs.StepLemmas.{formula_of-steps, regrouped, steps-formula_of}
pub use Rattle.rel_formula.specs.Steps.{term_steps, truth_steps}
pub use Rattle.rel_formula.specs.declared.fault.FormulaFault.{FormulaFault}
pub use Rattle.rel_formula.specs.declared.fault.FormulaFault.TheVariants.{BadShape, Memory}
pub use Rattle.rel_formula.specs.declared.reading.Reading.{Reading}
pub use Rattle.rel_formula.specs.declared.step.Connective.{Connective}
pub use Rattle.rel_formula.specs.declared.step.Operator.{Operator}
pub use Rattle.rel_formula.specs.declared.step.Step.{Step}
pub use Rattle.rel_formula.specs.declared.step.Step.TheVariants.{Combine, Compare, Join, Negate}
pub use Rattle.rel_formula.specs.declared.step.TermOperator.TheVariants.{Absolute, Arithmetic}
