use Rattle.rel_formula.proofs.Prelude.{◌-◌, Ok, rules, sym, ◌∙◌, ap, arith, Arithmetic, Absolute, term_steps}
use Rattle.rel_formula.proofs.InTurn.{one_more}
use Rattle.rel_formula.proofs.Operands.{of_call, operands_of, absolute_of_one, term_call_is, absolute_read, alone, from_index}
use Rattle.rel_formula.proofs.Ways.{term_way}
use Rattle.rel_formula.proofs.reading.Reading.+terms.Goals as goal

pub absolute-returns : goal.absolute-returns
absolute-returns t c =
    absolute_read c.args.arity c.args.depth c.args.operands.now c.index-operands-0.result c.args.self.now c.term.new.self c.put.new.self c.put.result
    (alone c.args.operands.now c.index-operands-0.result c.requires.one c.index-operands-0.is) c.requires.begun c.in_ok-term.ensures c.put.ensures.steps c.put.ensures.next c.put.ensures.memory

pub read_arithmetic-loop-operand-preserved : goal.read_arithmetic-loop-operand-preserved
read_arithmetic-loop-operand-preserved t c =
    one_more (term_way c.args.operator c.args.arity c.args.depth) c.args.operands.now _ c.operand-item.result _ c.args.self.now c.loop-operand.self c.term-in-loop-operand.new.self c.put.new.self
    (from_index (operands_of c.args.operands.now) c.loop-operand.operand-index c.operand-item.result (omega arith) c.operand-item.is)
    c.loop-operand.invariant c.in_ok-term-2.ensures c.in_ok-put.ensures.steps c.in_ok-put.ensures.next

pub term_call-absolute-requires : goal.term_call-absolute-requires
term_call-absolute-requires t c =
    (search rules, (omega (arith, c.requires.depth), (absolute_of_one c.args.node c.args.items.now (sym c.term_operator_in.ensures ∙ c.in_ok-operator.was ∙ ap (λ o. Ok o) c.in-Absolute.is), omega (arith, c.requires.begun))))

pub term_call-returns-in-Arithmetic : goal.term_call-returns-in-Arithmetic
term_call-returns-in-Arithmetic t c =
    of_call term_steps _ _ c.args.node c.args.self.now.next c.args.self.now c.read_arithmetic.new.self c.read_arithmetic.result
    (term_call_is c.args.arity c.args.depth c.args.node c.args.self.now.next c.args.items.now (Arithmetic c.in-Arithmetic.operator)
    (sym c.term_operator_in.ensures ∙ c.in_ok-operator.was ∙ ap (λ o. Ok o) c.in-Arithmetic.is) c.requires.begun)
    (omega (arith, c.requires.begun)) c.read_arithmetic.ensures

pub term_call-returns-in-Absolute : goal.term_call-returns-in-Absolute
term_call-returns-in-Absolute t c =
    of_call term_steps _ _ c.args.node (c.args.self.now.next - 1) c.args.self.now c.absolute.new.self c.absolute.result
    (term_call_is c.args.arity c.args.depth c.args.node c.args.self.now.next c.args.items.now Absolute
    (sym c.term_operator_in.ensures ∙ c.in_ok-operator.was ∙ ap (λ o. Ok o) c.in-Absolute.is) c.requires.begun)
    (omega (arith, c.requires.begun)) c.absolute.ensures

pub term-returns-in-None : goal.term-returns-in-None
term-returns-in-None t c = search rules
