-- What a JSON value is, read as a formula over tuples of an arity: the formula, or the first fault.
-- Nodes are read in preorder: an array is one node, and its operands follow. Each reading begins at
-- a depth and the number of a node, and ends with what was read and the number of the next node.
use Rattle.std.specs.Prelude.{ℕ, ◌+◌, nat_le, if◌then◌else◌, pos, List, [], ◌∷◌, Option, Some, None}
use Rattle.std.specs.Prelude.{Result, Ok, Err}
use Rattle.std.specs.List.{fold}
use Rattle.std.specs.Option.{ok_or}
use Rattle.serde_json.specs.Data.{Data, null, boolean, number, string, array, object, Items}
use Rattle.serde_json.specs.Data.{no_items, item}
use Rattle.serde_json.specs.Find.{as_i64}
use Rattle.rel_formula.specs.declared.fault.FormulaFault.{FormulaFault}
use Rattle.rel_formula.specs.declared.fault.FormulaFault.TheVariants.{BadShape, BadPosition}
use Rattle.rel_formula.specs.declared.fault.FormulaFault.TheVariants.{TooDeep, TooManyNodes}
use Rattle.rel_formula.specs.declared.step.TermOperator.{TermOperator}
use Rattle.rel_formula.specs.declared.step.TermOperator.TheVariants as term
use Rattle.rel_formula.specs.declared.step.TruthOperator.{TruthOperator}
use Rattle.rel_formula.specs.declared.step.TruthOperator.TheVariants as truth
use Rattle.rel_formula.specs.declared.step.Connective.{Connective}
use Rattle.rel_formula.specs.declared.step.Comparison.{Comparison}
use Rattle.rel_formula.specs.Formula.{Term, whole, shown, absolute, combined, Truth, compared}
use Rattle.rel_formula.specs.Formula.{joined, opposite}
use Rattle.rel_formula.specs.Steps.{no_formula}
use Rattle.rel_formula.specs.Answers.{then_on, unless}
use Rattle.rel_formula.specs.Names.{position_of, term_operator_in, truth_operator_in}

-- why a node is refused before it is looked at
abbrev pub limit_refusal : ℕ → ℕ → Option FormulaFault
limit_refusal node depth = if nat_le 200 node then Some TooManyNodes else if nat_le 33 depth
    then Some TooDeep else None

-- an operator's term of its operands, from the left; there is one operand at least
abbrev pub applied : TermOperator → List Term → Term
applied op [] = whole (pos 0)
applied (term.Arithmetic op) (first ∷ more) = fold (combined op) first more
applied term.Absolute (first ∷ more) = absolute first

-- a text where a number is wanted
abbrev pub text_term : ℕ → ℕ → List ℕ → Result (Term × ℕ) FormulaFault
text_term arity node text =
    then_on (ok_or (position_of arity text) (BadPosition node)) (λ at. Ok (shown at, node + 1))

abbrev mutual
  -- a value where a number is wanted
  pub read_term : ℕ → ℕ → ℕ → Data → Result (Term × ℕ) FormulaFault
  read_term arity depth node null = unless (limit_refusal node depth) (Err (BadShape node))
  read_term arity depth node (boolean b) = unless (limit_refusal node depth) (Err (BadShape node))
  read_term arity depth node (number n) = unless (limit_refusal node depth)
      (then_on (ok_or (as_i64 n) (BadShape node)) (λ x. Ok (whole x, node + 1)))
  read_term arity depth node (string text) =
      unless (limit_refusal node depth) (text_term arity node text)
  read_term arity depth node (array items) =
      unless (limit_refusal node depth) (read_term_call arity depth node items)
  read_term arity depth node (object ms) = unless (limit_refusal node depth) (Err (BadShape node))

  -- an operator and its operands
  pub read_term_call : ℕ → ℕ → ℕ → Items → Result (Term × ℕ) FormulaFault
  read_term_call arity depth node no_items = Err (BadShape node)
  read_term_call arity depth node (item head operands) =
      then_on (term_operator_in node (item head operands)) (λ op.
      then_on (read_terms arity (depth + 1) (node + 1) operands) (λ read.
      Ok (applied op read.0, read.1)))

  -- values where numbers are wanted, one after the other
  pub read_terms : ℕ → ℕ → ℕ → Items → Result (List Term × ℕ) FormulaFault
  read_terms arity depth node no_items = Ok ([], node)
  read_terms arity depth node (item value values) =
      then_on (read_term arity depth node value) (λ first.
      then_on (read_terms arity depth first.1 values) (λ more.
      Ok (first.0 ∷ more.0, more.1)))

-- a comparison of two operands
abbrev pub comparison_of : Comparison → List Term → Truth
comparison_of op (a ∷ b ∷ more) = compared op a b
comparison_of op (a ∷ []) = no_formula
comparison_of op [] = no_formula

-- a connective's truth of its operands, from the left; there are two at least
abbrev pub connected : Connective → List Truth → Truth
connected op [] = no_formula
connected op (first ∷ more) = fold (joined op) first more

abbrev pub negated : List Truth → Truth
negated [] = no_formula
negated (p ∷ more) = opposite p

-- an operator's truth of its operands, read as terms or as truths, whichever it takes
abbrev pub truth_by : TruthOperator → Result (List Term × ℕ) FormulaFault →
    Result (List Truth × ℕ) FormulaFault → Result (Truth × ℕ) FormulaFault
truth_by (truth.Comparison op) terms truths =
    then_on terms (λ read. Ok (comparison_of op read.0, read.1))
truth_by (truth.Connective op) terms truths =
    then_on truths (λ read. Ok (connected op read.0, read.1))
truth_by truth.Not terms truths = then_on truths (λ read. Ok (negated read.0, read.1))

-- a text where a truth is wanted: it gives none
abbrev pub text_truth : ℕ → ℕ → List ℕ → Result (Truth × ℕ) FormulaFault
text_truth arity node text =
    then_on (ok_or (position_of arity text) (BadPosition node)) (λ at. Err (BadShape node))

abbrev mutual
  -- a value where a truth is wanted
  pub read_truth : ℕ → ℕ → ℕ → Data → Result (Truth × ℕ) FormulaFault
  read_truth arity depth node null = unless (limit_refusal node depth) (Err (BadShape node))
  read_truth arity depth node (boolean b) = unless (limit_refusal node depth) (Err (BadShape node))
  read_truth arity depth node (number n) = unless (limit_refusal node depth) (Err (BadShape node))
  read_truth arity depth node (string text) =
      unless (limit_refusal node depth) (text_truth arity node text)
  read_truth arity depth node (array items) =
      unless (limit_refusal node depth) (read_truth_call arity depth node items)
  read_truth arity depth node (object ms) = unless (limit_refusal node depth) (Err (BadShape node))

  -- an operator and its operands
  pub read_truth_call : ℕ → ℕ → ℕ → Items → Result (Truth × ℕ) FormulaFault
  read_truth_call arity depth node no_items = Err (BadShape node)
  read_truth_call arity depth node (item head operands) =
      then_on (truth_operator_in node (item head operands)) (λ op.
      truth_by op (read_terms arity (depth + 1) (node + 1) operands)
      (read_truths arity (depth + 1) (node + 1) operands))

  -- values where truths are wanted, one after the other
  pub read_truths : ℕ → ℕ → ℕ → Items → Result (List Truth × ℕ) FormulaFault
  read_truths arity depth node no_items = Ok ([], node)
  read_truths arity depth node (item value values) =
      then_on (read_truth arity depth node value) (λ first.
      then_on (read_truths arity depth first.1 values) (λ more.
      Ok (first.0 ∷ more.0, more.1)))

-- the formula that a value is
abbrev pub formula_in : ℕ → Data → Result Truth FormulaFault
formula_in arity value = then_on (read_truth arity 1 0 value) (λ read. Ok read.0)
