-- The names of positions and operators, and how many operands an operator takes.
use Rattle.std.specs.Prelude.{ℕ, Bool, nat_eq, nat_lt, nat_le, if◌then◌else◌, List, [], ◌∷◌, codes}
use Rattle.std.specs.Prelude.{Option, Some, None, Result, Ok, Err}
use Rattle.std.specs.Option.{ok_or, option_or, option_map}
use Rattle.std.specs.Str.{bytes_eq}
use Rattle.serde_json.specs.Data.{Items, no_items, item}
use Rattle.serde_json.specs.Events.{items_len}
use Rattle.serde_json.specs.Find.{as_str}
use Rattle.rel_formula.specs.declared.fault.FormulaFault.{FormulaFault}
use Rattle.rel_formula.specs.declared.fault.FormulaFault.TheVariants.{BadShape, BadOperator}
use Rattle.rel_formula.specs.declared.step.Arithmetic.TheVariants.{Sum, Difference, Product, Least}
use Rattle.rel_formula.specs.declared.step.Arithmetic.TheVariants.{Greatest}
use Rattle.rel_formula.specs.declared.step.Comparison.TheVariants.{Equal, Different, Below, AtMost}
use Rattle.rel_formula.specs.declared.step.Comparison.TheVariants.{Above, AtLeast}
use Rattle.rel_formula.specs.declared.step.Connective.TheVariants.{And, Or}
use Rattle.rel_formula.specs.declared.step.Operator.{Operator}
use Rattle.rel_formula.specs.declared.step.Operator.TheVariants.{Term, Truth}
use Rattle.rel_formula.specs.declared.step.TermOperator.{TermOperator}
use Rattle.rel_formula.specs.declared.step.TermOperator.TheVariants as term
use Rattle.rel_formula.specs.declared.step.TruthOperator.{TruthOperator}
use Rattle.rel_formula.specs.declared.step.TruthOperator.TheVariants as truth
use Rattle.rel_formula.specs.Answers.{then_on}

-- what stands beside a name in a list of names
abbrev pub named : {A : Type 0} → List (List ℕ × A) → List ℕ → Option A
named [] text = None
named (entry ∷ entries) text = if bytes_eq text entry.0 then Some entry.1 else named entries text

abbrev pub positions : List (List ℕ × ℕ)
positions = (codes "$0", 0) ∷ (codes "$1", 1) ∷ (codes "$2", 2) ∷ (codes "$3", 3) ∷ []

-- a position, where it is below the arity
abbrev pub below : ℕ → Option ℕ → Option ℕ
below arity None = None
below arity (Some at) = if nat_lt at arity then Some at else None

-- the position below the arity that a text names
abbrev pub position_of : ℕ → List ℕ → Option ℕ
position_of arity text = below arity (named positions text)

abbrev pub term_operators : List (List ℕ × TermOperator)
term_operators =
    (codes "+", term.Arithmetic Sum) ∷ (codes "-", term.Arithmetic Difference)
    ∷ (codes "*", term.Arithmetic Product)
    ∷ (codes "min", term.Arithmetic Least) ∷ (codes "max", term.Arithmetic Greatest)
    ∷ (codes "abs", term.Absolute) ∷ []

abbrev pub truth_operators : List (List ℕ × TruthOperator)
truth_operators =
    (codes "=", truth.Comparison Equal) ∷ (codes "!=", truth.Comparison Different)
    ∷ (codes "<", truth.Comparison Below) ∷ (codes "<=", truth.Comparison AtMost)
    ∷ (codes ">", truth.Comparison Above) ∷ (codes ">=", truth.Comparison AtLeast)
    ∷ (codes "and", truth.Connective And) ∷ (codes "or", truth.Connective Or)
    ∷ (codes "not", truth.Not) ∷ []

-- the operator that a text names
abbrev pub operator_of : List ℕ → Option Operator
operator_of text = option_or (option_map Term (named term_operators text))
    (option_map Truth (named truth_operators text))

-- an operator takes so many operands
abbrev pub term_takes : TermOperator → ℕ → Bool
term_takes (term.Arithmetic Sum) count = nat_le 2 count
term_takes (term.Arithmetic Difference) count = nat_eq count 2
term_takes (term.Arithmetic Product) count = nat_le 2 count
term_takes (term.Arithmetic Least) count = nat_le 2 count
term_takes (term.Arithmetic Greatest) count = nat_le 2 count
term_takes term.Absolute count = nat_eq count 1

abbrev pub truth_takes : TruthOperator → ℕ → Bool
truth_takes (truth.Comparison op) count = nat_eq count 2
truth_takes (truth.Connective op) count = nat_le 2 count
truth_takes truth.Not count = nat_eq count 1

-- the operator of an array, its first member
abbrev pub operator_in : ℕ → Items → Result Operator FormulaFault
operator_in node no_items = Err (BadShape node)
operator_in node (item head operands) = then_on (ok_or (as_str head) (BadShape node))
    (λ text. ok_or (operator_of text) (BadOperator node))

-- how many operands follow it
abbrev pub operand_count : Items → ℕ
operand_count no_items = 0
operand_count (item head operands) = items_len operands

-- the operator, where it gives a number and takes as many operands as there are
abbrev pub as_term_operator : ℕ → ℕ → Operator → Result TermOperator FormulaFault
as_term_operator node count (Term op) = if term_takes op count then Ok op else Err (BadShape node)
as_term_operator node count (Truth op) = Err (BadShape node)

-- the operator, where it gives a truth and takes as many operands as there are
abbrev pub as_truth_operator : ℕ → ℕ → Operator → Result TruthOperator FormulaFault
as_truth_operator node count (Term op) = Err (BadShape node)
as_truth_operator node count (Truth op) =
    if truth_takes op count then Ok op else Err (BadShape node)

abbrev pub term_operator_in : ℕ → Items → Result TermOperator FormulaFault
term_operator_in node items =
    then_on (operator_in node items) (as_term_operator node (operand_count items))

abbrev pub truth_operator_in : ℕ → Items → Result TruthOperator FormulaFault
truth_operator_in node items =
    then_on (operator_in node items) (as_truth_operator node (operand_count items))
