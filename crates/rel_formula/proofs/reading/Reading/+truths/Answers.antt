use Rattle.rel_formula.proofs.Prelude.{◌-◌, Ok, rules, sym, ◌∙◌, ap, arith, truth_steps}
use Rattle.rel_formula.proofs.InTurn.{one_more}
use Rattle.rel_formula.proofs.Operands.{of_call, operands_of, alone, from_index}
use Rattle.rel_formula.proofs.TruthOperands.{comparison_of_two, not_of_one, comparison_call_is, connective_call_is, not_call_is, negated_read}
use Rattle.rel_formula.proofs.Ways.{truth_way}
use Rattle.rel_formula.proofs.reading.Reading.+truths.Goals as goal

pub read_negation-returns : goal.read_negation-returns
read_negation-returns t c =
    negated_read c.args.arity c.args.depth c.args.operands.now c.index-operands-0.result c.args.self.now c.truth.new.self c.put.new.self c.put.result
    (alone c.args.operands.now c.index-operands-0.result c.requires.one c.index-operands-0.is) c.requires.begun c.in_ok-truth.ensures c.put.ensures.steps c.put.ensures.next c.put.ensures.memory

pub read_connective-loop-operand-preserved : goal.read_connective-loop-operand-preserved
read_connective-loop-operand-preserved t c =
    one_more (truth_way c.args.operator c.args.arity c.args.depth) c.args.operands.now _ c.operand-item.result _ c.args.self.now c.loop-operand.self c.truth-in-loop-operand.new.self c.put.new.self
    (from_index (operands_of c.args.operands.now) c.loop-operand.operand-index c.operand-item.result (omega arith) c.operand-item.is)
    c.loop-operand.invariant c.in_ok-truth-2.ensures c.in_ok-put.ensures.steps c.in_ok-put.ensures.next

pub truth_call-read_comparison-requires : goal.truth_call-read_comparison-requires
truth_call-read_comparison-requires t c =
    record {
      depth = omega (arith, c.requires.depth);
      two = comparison_of_two c.args.node c.args.items.now c.in-Comparison.operator (sym c.truth_operator_in.ensures ∙ c.in_ok-operator.was ∙ ap (λ o. Ok o) c.in-Comparison.is);
    }

pub truth_call-read_negation-requires : goal.truth_call-read_negation-requires
truth_call-read_negation-requires t c =
    (search rules, (omega (arith, c.requires.depth), (not_of_one c.args.node c.args.items.now (sym c.truth_operator_in.ensures ∙ c.in_ok-operator.was ∙ ap (λ o. Ok o) c.in-Not.is), omega (arith, c.requires.begun))))

pub truth_call-returns-in-Comparison : goal.truth_call-returns-in-Comparison
truth_call-returns-in-Comparison t c =
    of_call truth_steps _ _ c.args.node c.args.self.now.next c.args.self.now c.read_comparison.new.self c.read_comparison.result
    (comparison_call_is c.args.arity c.args.depth c.args.node c.args.self.now.next c.args.items.now c.in-Comparison.operator
    (sym c.truth_operator_in.ensures ∙ c.in_ok-operator.was ∙ ap (λ o. Ok o) c.in-Comparison.is) c.requires.begun)
    (omega (arith, c.requires.begun)) c.read_comparison.ensures

pub truth_call-returns-in-Connective : goal.truth_call-returns-in-Connective
truth_call-returns-in-Connective t c =
    of_call truth_steps _ _ c.args.node c.args.self.now.next c.args.self.now c.read_connective.new.self c.read_connective.result
    (connective_call_is c.args.arity c.args.depth c.args.node c.args.self.now.next c.args.items.now c.in-Connective.operator
    (sym c.truth_operator_in.ensures ∙ c.in_ok-operator.was ∙ ap (λ o. Ok o) c.in-Connective.is) c.requires.begun)
    (omega (arith, c.requires.begun)) c.read_connective.ensures

pub truth_call-returns-in-Not : goal.truth_call-returns-in-Not
truth_call-returns-in-Not t c =
    of_call truth_steps _ _ c.args.node (c.args.self.now.next - 1) c.args.self.now c.read_negation.new.self c.read_negation.result
    (not_call_is c.args.arity c.args.depth c.args.node c.args.self.now.next c.args.items.now
    (sym c.truth_operator_in.ensures ∙ c.in_ok-operator.was ∙ ap (λ o. Ok o) c.in-Not.is) c.requires.begun)
    (omega (arith, c.requires.begun)) c.read_negation.ensures
