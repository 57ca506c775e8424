-- Operands that are read in turn and joined from the left.
use Rattle.rel_formula.proofs.Prelude.{◌≡◌, ℕ, ◌+◌, ◌*◌, ◌≤◌, List, [], ◌∷◌, ◌++◌, length, Result, Ok, Err, refl, sym, ◌∙◌, ap, arith, append_assoc, length-append, fold, view, items_view, Value, FormulaFault, Reading, Step, then_on, AddsSteps}
use Rattle.serde_json.specs.Data.{Data, Items, no_items, item}

-- what is read in turn, and how it is joined
pub record Way (Tree : Type 0) : Type 0 where
  pub one : ℕ → Data → Result (Tree × ℕ) FormulaFault
  pub all : ℕ → Items → Result (List Tree × ℕ) FormulaFault
  pub join : Tree → Tree → Tree
  pub whole : List Tree → Tree
  pub steps_of : Tree → List Step
  pub joint : Step
  pub all_none : (node : ℕ) → all node no_items ≡ Ok ([], node)
  pub all_more : (node : ℕ) (value : Data) (values : Items) →
      all node (item value values) ≡ then_on (one node value) (λ first. then_on (all first.1 values) (λ more. Ok (first.0 ∷ more.0, more.1)))
  pub whole_is : (first : Tree) (more : List Tree) → whole (first ∷ more) ≡ fold join first more
  pub steps_join : (a b : Tree) → steps_of (join a b) ≡ steps_of a ++ (steps_of b ++ joint ∷ [])

-- what all operands make together
abbrev pub stated : {Tree : Type 0} → Way Tree → ℕ → List Value → Result (Tree × ℕ) FormulaFault
stated w start operands = then_on (w.all start (items_view operands)) (λ read. Ok (w.whole read.0, read.1))

-- what further operands make of the tree so far
abbrev pub further : {Tree : Type 0} → Way Tree → Tree → ℕ → List Value → Result (Tree × ℕ) FormulaFault
further w tree node rest = then_on (w.all node (items_view rest)) (λ more. Ok (fold w.join tree more.0, more.1))

-- some operands were read, and these are left
pub record SoFar {Tree : Type 0} (w : Way Tree) (operands rest : List Value) (old now : Reading) : Type 0 where
  pub tree : Tree
  pub steps : now.steps.items ≡ old.steps.items ++ w.steps_of tree
  pub few : length now.steps.items + 2 * old.next + 1 ≤ length old.steps.items + 2 * now.next
  pub nodes : now.next ≤ 200
  pub left : further w tree now.next rest ≡ stated w old.next operands

module _ {Tree : Type 0} (w : Way Tree) where
  joined : (so_far tree : Tree) (rest : Result (List Tree × ℕ) FormulaFault) →
      then_on {A = List Tree × ℕ} {B = Tree × ℕ} (then_on {A = List Tree × ℕ} {B = List Tree × ℕ} rest (λ more. Ok (tree ∷ more.0, more.1))) (λ more. Ok (fold w.join so_far more.0, more.1)) ≡ then_on {A = List Tree × ℕ} {B = Tree × ℕ} rest (λ more. Ok (fold w.join (w.join so_far tree) more.0, more.1))
  joined so_far tree (Ok more) = refl
  joined so_far tree (Err fault) = refl

  -- an operand that was read, before others
  all_read : (node next : ℕ) (value : Value) (rest : List Value) (tree : Tree) → w.one node (view value) ≡ Ok (tree, next) →
      w.all node (items_view (value ∷ rest)) ≡ then_on (w.all next (items_view rest)) (λ more. Ok (tree ∷ more.0, more.1))
  all_read node next value rest tree e =
      w.all_more node (view value) (items_view rest) ∙ ap (λ r. then_on r (λ first. then_on (w.all first.1 (items_view rest)) (λ more. Ok (first.0 ∷ more.0, more.1)))) e

  pub one_more : (operands left : List Value) (value : Value) (rest : List Value) (old mid read new : Reading) → left ≡ value ∷ rest → SoFar w operands left old mid →
      AddsSteps w.steps_of (w.one mid.next (view value)) mid.next mid read → new.steps.items ≡ read.steps.items ++ w.joint ∷ [] → new.next ≡ read.next → SoFar w operands rest old new
  one_more operands left value rest old mid read new e so_far adds put same =
      let size : length new.steps.items ≡ length read.steps.items + 1 = ap length put ∙ length-append read.steps.items (w.joint ∷ []) in
      let before = so_far.few in
      let after = adds.few in
      let low = adds.nodes in
      record {
        tree = w.join so_far.tree adds.tree;
        steps =
            put ∙ ap (λ xs. xs ++ w.joint ∷ []) (adds.steps ∙ ap (λ xs. xs ++ w.steps_of adds.tree) so_far.steps)
            ∙ append_assoc (old.steps.items ++ w.steps_of so_far.tree) (w.steps_of adds.tree) (w.joint ∷ [])
            ∙ append_assoc old.steps.items (w.steps_of so_far.tree) (w.steps_of adds.tree ++ w.joint ∷ [])
            ∙ ap (λ xs. old.steps.items ++ xs) (sym (w.steps_join so_far.tree adds.tree));
        few = omega arith;
        nodes = omega arith;
        left =
            ap (λ n. further w (w.join so_far.tree adds.tree) n rest) same
            ∙ sym (joined so_far.tree adds.tree (w.all read.next (items_view rest)))
            ∙ sym (ap (λ r. then_on r (λ more. Ok (fold w.join so_far.tree more.0, more.1))) (all_read mid.next read.next value rest adds.tree adds.read))
            ∙ sym (ap (further w so_far.tree mid.next) e)
            ∙ so_far.left;
      }
