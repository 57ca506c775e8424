-- The operands of an operator that gives a truth.
use Rattle.rel_formula.proofs.Prelude.{◌≡◌, ℕ, ◌+◌, ◌-◌, ◌≤◌, true, List, [], ◌∷◌, ◌++◌, length, get_or, Result, Ok, Err, OnOk, IfErr, sym, ◌∙◌, ap, subst, arith, eqb-true, append_assoc, length-append, ⊤, view, items_view, Value, FormulaFault, BadShape, Memory, Reading, Operator, Connective, AddsSteps, ReadsSteps, then_on, Term, Truth, compared, opposite, operand_count, operator_in, truth_takes, as_truth_operator, truth_operator_in, read_term, read_terms, read_truth, read_truths, read_truth_call, truth_by, comparison_of, connected, negated, term_steps, truth_steps}
use Rattle.rel_formula.specs.declared.step.Step.TheVariants as step
use Rattle.rel_formula.specs.declared.step.Operator.TheVariants as kind
use Rattle.rel_formula.specs.declared.step.TruthOperator.{TruthOperator}
use Rattle.rel_formula.specs.declared.step.TruthOperator.TheVariants as op
use Rattle.rel_formula.specs.declared.step.Comparison.{Comparison}
use Rattle.rel_formula.proofs.Operands.{operands_of, operands_of-cons, length-operands_of, passed, one_term}

-- ---- the operator takes as many operands as there are

truth_taken : (node count : ℕ) (r : Result Operator FormulaFault) (o : TruthOperator) → then_on r (as_truth_operator node count) ≡ Ok o → truth_takes o count ≡ true
truth_taken node count (Err fault) o e = absurd (cc)
truth_taken node count (Ok (kind.Term found)) o e = absurd (cc)
truth_taken node count (Ok (kind.Truth found)) o e =
    let h = passed (truth_takes found count) found o (BadShape node) e in subst (λ o. truth_takes o count ≡ true) h.1 h.0

pub not_of_one : (node : ℕ) (items : List Value) → truth_operator_in node (items_view items) ≡ Ok op.Not → length (operands_of items) ≡ 1
not_of_one node items e =
    length-operands_of items ∙ eqb-true (operand_count (items_view items)) 1 (truth_taken node (operand_count (items_view items)) (operator_in node (items_view items)) op.Not e)

pub comparison_of_two : (node : ℕ) (items : List Value) (o : Comparison) → truth_operator_in node (items_view items) ≡ Ok (op.Comparison o) → length (operands_of items) ≡ 2
comparison_of_two node items o e =
    length-operands_of items ∙ eqb-true (operand_count (items_view items)) 2 (truth_taken node (operand_count (items_view items)) (operator_in node (items_view items)) (op.Comparison o) e)

-- ---- what a call is, by its operator

call_is : (arity depth node next : ℕ) (items : List Value) (o : TruthOperator) → truth_operator_in node (items_view items) ≡ Ok o → next ≡ node + 1 →
    read_truth_call arity depth node (items_view items) ≡ truth_by o (read_terms arity (depth + 1) next (items_view (operands_of items))) (read_truths arity (depth + 1) next (items_view (operands_of items)))
call_is arity depth node next [] o e same = absurd (cc)
call_is arity depth node next (head ∷ operands) o e same =
    ap (λ r. then_on r (λ o. truth_by o (read_terms arity (depth + 1) (node + 1) (items_view operands)) (read_truths arity (depth + 1) (node + 1) (items_view operands)))) e
    ∙ ap (λ n. truth_by o (read_terms arity (depth + 1) n (items_view operands)) (read_truths arity (depth + 1) n (items_view operands))) (sym same)
    ∙ ap (λ vs. truth_by o (read_terms arity (depth + 1) next (items_view vs)) (read_truths arity (depth + 1) next (items_view vs))) (sym (operands_of-cons head operands))

pub comparison_call_is : (arity depth node next : ℕ) (items : List Value) (o : Comparison) → truth_operator_in node (items_view items) ≡ Ok (op.Comparison o) → next ≡ node + 1 →
    read_truth_call arity depth node (items_view items) ≡ then_on (read_terms arity (depth + 1) next (items_view (operands_of items))) (λ read. Ok (comparison_of o read.0, read.1))
comparison_call_is arity depth node next items o e same = call_is arity depth node next items (op.Comparison o) e same

pub connective_call_is : (arity depth node next : ℕ) (items : List Value) (o : Connective) → truth_operator_in node (items_view items) ≡ Ok (op.Connective o) → next ≡ node + 1 →
    read_truth_call arity depth node (items_view items) ≡ then_on (read_truths arity (depth + 1) next (items_view (operands_of items))) (λ read. Ok (connected o read.0, read.1))
connective_call_is arity depth node next items o e same = call_is arity depth node next items (op.Connective o) e same

pub not_call_is : (arity depth node next : ℕ) (items : List Value) → truth_operator_in node (items_view items) ≡ Ok op.Not → next ≡ node + 1 →
    read_truth_call arity depth node (items_view items) ≡ then_on (read_truths arity (depth + 1) next (items_view (operands_of items))) (λ read. Ok (negated read.0, read.1))
not_call_is arity depth node next items e same = call_is arity depth node next items op.Not e same

-- ---- the operands of a negation and of a comparison

one_truth : (arity depth node next : ℕ) (value : Value) (tree : Truth) → read_truth arity depth node (view value) ≡ Ok (tree, next) → read_truths arity depth node (items_view (value ∷ [])) ≡ Ok (tree ∷ [], next)
one_truth arity depth node next value tree e =
    ap (λ r. then_on r (λ first. then_on (read_truths arity depth first.1 (items_view [])) (λ more. Ok (first.0 ∷ more.0, more.1)))) e

two_terms : (arity depth node middle next : ℕ) (first second : Value) (a b : Term) → read_term arity depth node (view first) ≡ Ok (a, middle) →
    read_term arity depth middle (view second) ≡ Ok (b, next) → read_terms arity depth node (items_view (first ∷ second ∷ [])) ≡ Ok (a ∷ b ∷ [], next)
two_terms arity depth node middle next first second a b e f =
    ap (λ r. then_on r (λ head. then_on (read_terms arity depth head.1 (items_view (second ∷ []))) (λ more. Ok (head.0 ∷ more.0, more.1)))) e
    ∙ ap (λ r. then_on r (λ more. Ok (a ∷ more.0, more.1))) (one_term arity depth middle next second b f)

pub negated_read : (arity depth : ℕ) (operands : List Value) (value : Value) (old mid new : Reading) (result : Result ⊤ FormulaFault) → operands ≡ value ∷ [] → 1 ≤ old.next →
    AddsSteps truth_steps (read_truth arity depth old.next (view value)) old.next old mid → OnOk result (new.steps.items ≡ mid.steps.items ++ step.Negate ∷ []) → new.next ≡ mid.next →
    IfErr result (λ fault. fault ≡ Memory) →
    ReadsSteps truth_steps (then_on (read_truths arity depth old.next (items_view operands)) (λ read. Ok (negated read.0, read.1))) (old.next - 1) old new result
negated_read arity depth operands value old mid new (Ok u) e low adds put same memory =
    let size : length new.steps.items ≡ length mid.steps.items + 1 = ap length put ∙ length-append mid.steps.items (step.Negate ∷ []) in
    let before = adds.few in
    let nodes = adds.nodes in
    record {
      tree = opposite adds.tree;
      read =
          ap (λ vs. then_on (read_truths arity depth old.next (items_view vs)) (λ read. Ok (negated read.0, read.1))) e
          ∙ ap (λ r. then_on r (λ read. Ok (negated read.0, read.1))) (one_truth arity depth old.next mid.next value adds.tree adds.read)
          ∙ ap (λ n. Ok (opposite adds.tree, n)) (sym same);
      steps = put ∙ ap (λ xs. xs ++ step.Negate ∷ []) adds.steps ∙ append_assoc old.steps.items (truth_steps adds.tree) (step.Negate ∷ []);
      few = omega arith;
      nodes = omega arith;
    }
negated_read arity depth operands value old mid new (Err fault) e low adds put same memory = λ other. absurd (other memory)

-- a list of two elements
pub pair_of : (operands : List Value) (first second : Value) → length operands ≡ 2 → first ≡ get_or operands 0 first → second ≡ get_or operands 1 second → operands ≡ first ∷ second ∷ []
pair_of [] first second two is too = absurd (omega arith)
pair_of (v ∷ []) first second two is too = absurd (omega arith)
pair_of (v ∷ w ∷ []) first second two is too = ap (λ x. x ∷ w ∷ []) (sym is) ∙ ap (λ x. first ∷ x ∷ []) (sym too)
pair_of (v ∷ w ∷ x ∷ more) first second two is too = absurd (omega arith)

pub compared_read : (o : Comparison) (arity depth : ℕ) (operands : List Value) (first second : Value) (old mid late new : Reading) (result : Result ⊤ FormulaFault) → operands ≡ first ∷ second ∷ [] →
    AddsSteps term_steps (read_term arity depth old.next (view first)) old.next old mid → AddsSteps term_steps (read_term arity depth mid.next (view second)) mid.next mid late →
    OnOk result (new.steps.items ≡ late.steps.items ++ step.Compare o ∷ []) → new.next ≡ late.next → IfErr result (λ fault. fault ≡ Memory) →
    ReadsSteps truth_steps (then_on (read_terms arity depth old.next (items_view operands)) (λ read. Ok (comparison_of o read.0, read.1))) old.next old new result
compared_read o arity depth operands first second old mid late new (Ok u) e a b put same memory =
    let size : length new.steps.items ≡ length late.steps.items + 1 = ap length put ∙ length-append late.steps.items (step.Compare o ∷ []) in
    let before = a.few in
    let after = b.few in
    let nodes = b.nodes in
    record {
      tree = compared o a.tree b.tree;
      read =
          ap (λ vs. then_on (read_terms arity depth old.next (items_view vs)) (λ read. Ok (comparison_of o read.0, read.1))) e
          ∙ ap (λ r. then_on r (λ read. Ok (comparison_of o read.0, read.1))) (two_terms arity depth old.next mid.next late.next first second a.tree b.tree a.read b.read)
          ∙ ap (λ n. Ok (compared o a.tree b.tree, n)) (sym same);
      steps =
          put ∙ ap (λ xs. xs ++ step.Compare o ∷ []) (b.steps ∙ ap (λ xs. xs ++ term_steps b.tree) a.steps)
          ∙ append_assoc (old.steps.items ++ term_steps a.tree) (term_steps b.tree) (step.Compare o ∷ [])
          ∙ append_assoc old.steps.items (term_steps a.tree) (term_steps b.tree ++ step.Compare o ∷ []);
      few = omega arith;
      nodes = omega arith;
    }
compared_read o arity depth operands first second old mid late new (Err fault) e a b put same memory = λ other. absurd (other memory)
