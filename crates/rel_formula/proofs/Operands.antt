-- The operands of an array.
use Rattle.rel_formula.proofs.Prelude.{◌≡◌, ℕ, ◌+◌, ◌-◌, ◌≤◌, suc, Bool, true, false, List, [], ◌∷◌, ◌++◌, length, get_or, take, drop, Result, Ok, Err, OnOk, IfErr, if◌then◌else◌, refl, sym, ◌∙◌, ap, subst, arith, eqb-true, append_assoc, length-append, drop-cons, take_all, ⊤, view, items_view, Value, FormulaFault, BadShape, Memory, Reading, Step, Operator, Absolute, AddsSteps, ReadsSteps, then_on, Term, absolute, operand_count, operator_in, term_takes, as_term_operator, term_operator_in, read_term, read_terms, read_term_call, applied, term_steps}
use Rattle.serde_json.proofs.Views.{items_len-items_view}
use Rattle.rel_formula.specs.declared.step.Step.TheVariants as step
use Rattle.rel_formula.specs.declared.step.Operator.TheVariants as kind
use Rattle.rel_formula.specs.declared.step.TermOperator.{TermOperator}

pub operand_count-items_view : (items : List Value) → operand_count (items_view items) ≡ length items - 1
operand_count-items_view [] = refl
operand_count-items_view (head ∷ operands) = items_len-items_view operands ∙ (let e : length operands ≡ suc (length operands) - 1 = omega arith in e)

-- what follows the first member, as the code takes it
abbrev pub operands_of : List Value → List Value
operands_of items = take (length items - 1) (drop 1 items)

pub operands_of-cons : (head : Value) (operands : List Value) → operands_of (head ∷ operands) ≡ operands
operands_of-cons head operands = take_all (suc (length operands) - 1) operands (omega arith)

pub length-operands_of : (items : List Value) → length (operands_of items) ≡ operand_count (items_view items)
length-operands_of [] = refl
length-operands_of (head ∷ operands) = ap length (operands_of-cons head operands) ∙ sym (items_len-items_view operands)

-- ---- the operator takes as many operands as there are

pub passed : {A : Type 0} (b : Bool) (x y : A) (fault : FormulaFault) → (if b then Ok x else Err fault) ≡ Ok y → (b ≡ true) × (x ≡ y)
passed true x y fault e = (refl, (cc))
passed false x y fault e = absurd (cc)

term_taken : (node count : ℕ) (r : Result Operator FormulaFault) (op : TermOperator) → then_on r (as_term_operator node count) ≡ Ok op → term_takes op count ≡ true
term_taken node count (Err fault) op e = absurd (cc)
term_taken node count (Ok (kind.Truth found)) op e = absurd (cc)
term_taken node count (Ok (kind.Term found)) op e =
    let h = passed (term_takes found count) found op (BadShape node) e in subst (λ o. term_takes o count ≡ true) h.1 h.0

pub absolute_of_one : (node : ℕ) (items : List Value) → term_operator_in node (items_view items) ≡ Ok Absolute → length (operands_of items) ≡ 1
absolute_of_one node items e =
    length-operands_of items ∙ eqb-true (operand_count (items_view items)) 1 (term_taken node (operand_count (items_view items)) (operator_in node (items_view items)) Absolute e)

pub term_call_is : (arity depth node next : ℕ) (items : List Value) (op : TermOperator) → term_operator_in node (items_view items) ≡ Ok op → next ≡ node + 1 →
    read_term_call arity depth node (items_view items) ≡ then_on (read_terms arity (depth + 1) next (items_view (operands_of items))) (λ read. Ok (applied op read.0, read.1))
term_call_is arity depth node next [] op e same = absurd (cc)
term_call_is arity depth node next (head ∷ operands) op e same =
    ap (λ r. then_on r (λ o. then_on (read_terms arity (depth + 1) (node + 1) (items_view operands)) (λ read. Ok (applied o read.0, read.1)))) e
    ∙ ap (λ n. then_on (read_terms arity (depth + 1) n (items_view operands)) (λ read. Ok (applied op read.0, read.1))) (sym same)
    ∙ ap (λ vs. then_on (read_terms arity (depth + 1) next (items_view vs)) (λ read. Ok (applied op read.0, read.1))) (sym (operands_of-cons head operands))

-- ---- what a call answers

-- the reading of operands, as the reading of their array, one node before
pub of_call : {Tree : Type 0} (steps_of : Tree → List Step) (stated inner : Result (Tree × ℕ) FormulaFault) (node start : ℕ) (old new : Reading) (result : Result ⊤ FormulaFault) →
    stated ≡ inner → node ≤ start → ReadsSteps steps_of inner start old new result → ReadsSteps steps_of stated node old new result
of_call steps_of stated inner node start old new (Ok u) e low adds = record {
  tree = adds.tree;
  read = e ∙ adds.read;
  steps = adds.steps;
  few = let h = adds.few in omega arith;
  nodes = adds.nodes;
}
of_call steps_of stated inner node start old new (Err fault) e low refused = λ other. e ∙ refused other

-- one operand
pub one_term : (arity depth node next : ℕ) (value : Value) (tree : Term) → read_term arity depth node (view value) ≡ Ok (tree, next) → read_terms arity depth node (items_view (value ∷ [])) ≡ Ok (tree ∷ [], next)
one_term arity depth node next value tree e =
    ap (λ r. then_on r (λ first. then_on (read_terms arity depth first.1 (items_view [])) (λ more. Ok (first.0 ∷ more.0, more.1)))) e

-- the one operand of an absolute value
pub absolute_read : (arity depth : ℕ) (operands : List Value) (value : Value) (old mid new : Reading) (result : Result ⊤ FormulaFault) → operands ≡ value ∷ [] → 1 ≤ old.next →
    AddsSteps term_steps (read_term arity depth old.next (view value)) old.next old mid → OnOk result (new.steps.items ≡ mid.steps.items ++ step.Absolute ∷ []) → new.next ≡ mid.next →
    IfErr result (λ fault. fault ≡ Memory) →
    ReadsSteps term_steps (then_on (read_terms arity depth old.next (items_view operands)) (λ read. Ok (applied Absolute read.0, read.1))) (old.next - 1) old new result
absolute_read arity depth operands value old mid new (Ok u) e low adds put same memory =
    let size : length new.steps.items ≡ length mid.steps.items + 1 = ap length put ∙ length-append mid.steps.items (step.Absolute ∷ []) in
    let before = adds.few in
    let nodes = adds.nodes in
    record {
      tree = absolute adds.tree;
      read =
          ap (λ vs. then_on (read_terms arity depth old.next (items_view vs)) (λ read. Ok (applied Absolute read.0, read.1))) e
          ∙ ap (λ r. then_on r (λ read. Ok (applied Absolute read.0, read.1))) (one_term arity depth old.next mid.next value adds.tree adds.read)
          ∙ ap (λ n. Ok (absolute adds.tree, n)) (sym same);
      steps = put ∙ ap (λ xs. xs ++ step.Absolute ∷ []) adds.steps ∙ append_assoc old.steps.items (term_steps adds.tree) (step.Absolute ∷ []);
      few = omega arith;
      nodes = omega arith;
    }
absolute_read arity depth operands value old mid new (Err fault) e low adds put same memory = λ other. absurd (other memory)

-- a list of one element
pub alone : (operands : List Value) (value : Value) → length operands ≡ 1 → value ≡ get_or operands 0 value → operands ≡ value ∷ []
alone [] value one is = absurd (omega arith)
alone (first ∷ []) value one is = ap (λ v. v ∷ []) (sym is)
alone (first ∷ second ∷ more) value one is = absurd (omega arith)

-- the rest of a list from an index on
pub from_index : (values : List Value) (i : ℕ) (value : Value) → suc i ≤ length values → value ≡ get_or values i value → drop i values ≡ value ∷ drop (i + 1) values
from_index values i value within is =
    let next : i + 1 ≡ suc i = omega arith in
    rw next (drop-cons values i value within ∙ ap (λ v. v ∷ drop (suc i) values) (sym is))
