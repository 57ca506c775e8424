-- No value is refused as a formula for want of memory.
use Rattle.voc_read.proofs.Prelude.{◌≡◌, ℕ, ◌+◌, Bool, true, false, cond, nat_le, List, Option, Some, None, Result, Ok, Err, refl, ok_or, Data, null, boolean, number, string, array, object, Items, no_items, item, as_i64, as_str, FormulaFault, Term, Truth, limit_refusal, text_term, text_truth, truth_by, read_term, read_term_call, read_terms, read_truth, read_truth_call, read_truths, formula_in, formula_wants}
use Rattle.rel_formula.specs.declared.fault.FormulaFault.TheVariants.{BadShape, BadOperator, BadPosition, TooDeep, TooManyNodes}
use Rattle.rel_formula.specs.declared.step.Operator.{Operator}
use Rattle.rel_formula.specs.declared.step.Operator.TheVariants as operator
use Rattle.rel_formula.specs.declared.step.TruthOperator.{TruthOperator}
use Rattle.rel_formula.specs.declared.step.TruthOperator.TheVariants as truth
use Rattle.rel_formula.specs.Answers.{then_on, unless}
use Rattle.rel_formula.specs.Names.{position_of, operator_of, operator_in, operand_count, term_takes, truth_takes, as_term_operator, as_truth_operator, term_operator_in, truth_operator_in}

-- a fault of the value
abbrev pub OfErr : {A : Type 0} → Result A FormulaFault → Type 0
OfErr (Ok x) = Unit {0}
OfErr (Err fault) = formula_wants fault ≡ false

after : {A B : Type 0} (r : Result A FormulaFault) (next : A → Result B FormulaFault) → OfErr r → ((x : A) → OfErr (next x)) → OfErr (then_on r next)
after (Ok x) next first rest = rest x
after (Err fault) next first rest = first

or_else : {A : Type 0} (o : Option A) (fault : FormulaFault) → formula_wants fault ≡ false → OfErr (ok_or o fault)
or_else None fault real = real
or_else (Some x) fault real = tt

tested : {A : Type 0} (b : Bool) (x : A) (fault : FormulaFault) → formula_wants fault ≡ false → OfErr (cond b (Ok x) (Err fault))
tested true x fault real = tt
tested false x fault real = real

-- ---- Limits and operators

two_limits : {A : Type 0} (many deep : Bool) (next : Result A FormulaFault) → OfErr next → OfErr (unless (cond many (Some TooManyNodes) (cond deep (Some TooDeep) None)) next)
two_limits true deep next h = refl
two_limits false true next h = refl
two_limits false false next h = h

limited : {A : Type 0} (node depth : ℕ) (next : Result A FormulaFault) → OfErr next → OfErr (unless (limit_refusal node depth) next)
limited node depth next h = two_limits (nat_le 200 node) (nat_le 33 depth) next h

operator_read : (node : ℕ) (items : Items) → OfErr (operator_in node items)
operator_read node no_items = refl
operator_read node (item head operands) =
    after (ok_or (as_str head) (BadShape node)) _ (or_else (as_str head) (BadShape node) refl) (λ text. or_else (operator_of text) (BadOperator node) refl)

as_term : (node count : ℕ) (op : Operator) → OfErr (as_term_operator node count op)
as_term node count (operator.Term op) = tested (term_takes op count) op (BadShape node) refl
as_term node count (operator.Truth op) = refl

as_truth : (node count : ℕ) (op : Operator) → OfErr (as_truth_operator node count op)
as_truth node count (operator.Term op) = refl
as_truth node count (operator.Truth op) = tested (truth_takes op count) op (BadShape node) refl

term_operator : (node : ℕ) (items : Items) → OfErr (term_operator_in node items)
term_operator node items = after (operator_in node items) (as_term_operator node (operand_count items)) (operator_read node items) (as_term node (operand_count items))

truth_operator : (node : ℕ) (items : Items) → OfErr (truth_operator_in node items)
truth_operator node items = after (operator_in node items) (as_truth_operator node (operand_count items)) (operator_read node items) (as_truth node (operand_count items))

-- ---- Terms

text_read : (arity node : ℕ) (text : List ℕ) → OfErr (text_term arity node text)
text_read arity node text = after (ok_or (position_of arity text) (BadPosition node)) _ (or_else (position_of arity text) (BadPosition node) refl) (λ at. tt)

mutual
  term_read : (arity depth node : ℕ) (value : Data) → OfErr (read_term arity depth node value)
  term_read arity depth node null = limited {A = Term × ℕ} node depth (Err (BadShape node)) refl
  term_read arity depth node (boolean b) = limited {A = Term × ℕ} node depth (Err (BadShape node)) refl
  term_read arity depth node (number n) = limited node depth _ (after (ok_or (as_i64 n) (BadShape node)) _ (or_else (as_i64 n) (BadShape node) refl) (λ x. tt))
  term_read arity depth node (string text) = limited node depth (text_term arity node text) (text_read arity node text)
  term_read arity depth node (array items) = limited node depth (read_term_call arity depth node items) (call_read arity depth node items)
  term_read arity depth node (object ms) = limited {A = Term × ℕ} node depth (Err (BadShape node)) refl

  call_read : (arity depth node : ℕ) (items : Items) → OfErr (read_term_call arity depth node items)
  call_read arity depth node no_items = refl
  call_read arity depth node (item head operands) =
      after (term_operator_in node (item head operands)) _ (term_operator node (item head operands)) (λ op.
      after (read_terms arity (depth + 1) (node + 1) operands) _ (terms_read arity (depth + 1) (node + 1) operands) (λ read. tt))

  terms_read : (arity depth node : ℕ) (items : Items) → OfErr (read_terms arity depth node items)
  terms_read arity depth node no_items = tt
  terms_read arity depth node (item value values) =
      after (read_term arity depth node value) _ (term_read arity depth node value) (λ first.
      after (read_terms arity depth first.1 values) _ (terms_read arity depth first.1 values) (λ more. tt))

-- ---- Truths

no_truth : (arity node : ℕ) (text : List ℕ) → OfErr (text_truth arity node text)
no_truth arity node text = after (ok_or (position_of arity text) (BadPosition node)) _ (or_else (position_of arity text) (BadPosition node) refl) (λ at. refl)

by_operator : (op : TruthOperator) (terms : Result (List Term × ℕ) FormulaFault) (truths : Result (List Truth × ℕ) FormulaFault) → OfErr terms → OfErr truths → OfErr (truth_by op terms truths)
by_operator (truth.Comparison op) terms truths x y = after terms _ x (λ read. tt)
by_operator (truth.Connective op) terms truths x y = after truths _ y (λ read. tt)
by_operator truth.Not terms truths x y = after truths _ y (λ read. tt)

mutual
  truth_read : (arity depth node : ℕ) (value : Data) → OfErr (read_truth arity depth node value)
  truth_read arity depth node null = limited {A = Truth × ℕ} node depth (Err (BadShape node)) refl
  truth_read arity depth node (boolean b) = limited {A = Truth × ℕ} node depth (Err (BadShape node)) refl
  truth_read arity depth node (number n) = limited {A = Truth × ℕ} node depth (Err (BadShape node)) refl
  truth_read arity depth node (string text) = limited node depth (text_truth arity node text) (no_truth arity node text)
  truth_read arity depth node (array items) = limited node depth (read_truth_call arity depth node items) (truth_call_read arity depth node items)
  truth_read arity depth node (object ms) = limited {A = Truth × ℕ} node depth (Err (BadShape node)) refl

  truth_call_read : (arity depth node : ℕ) (items : Items) → OfErr (read_truth_call arity depth node items)
  truth_call_read arity depth node no_items = refl
  truth_call_read arity depth node (item head operands) =
      after (truth_operator_in node (item head operands)) _ (truth_operator node (item head operands)) (λ op.
      by_operator op (read_terms arity (depth + 1) (node + 1) operands) (read_truths arity (depth + 1) (node + 1) operands)
      (terms_read arity (depth + 1) (node + 1) operands) (truths_read arity (depth + 1) (node + 1) operands))

  truths_read : (arity depth node : ℕ) (items : Items) → OfErr (read_truths arity depth node items)
  truths_read arity depth node no_items = tt
  truths_read arity depth node (item value values) =
      after (read_truth arity depth node value) _ (truth_read arity depth node value) (λ first.
      after (read_truths arity depth first.1 values) _ (truths_read arity depth first.1 values) (λ more. tt))

pub formula_read : (arity : ℕ) (value : Data) → OfErr (formula_in arity value)
formula_read arity value = after (read_truth arity 1 0 value) _ (truth_read arity 1 0 value) (λ read. tt)
