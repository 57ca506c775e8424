use Rattle.rel_formula.proofs.TruthOperands.{pair_of, compared_read}
use Rattle.rel_formula.proofs.reading.Reading.read_comparison.Goals as goal

pub returns : goal.returns
returns c =
    compared_read c.args.operator c.args.arity c.args.depth c.args.operands.now c.index-operands-0.result c.index-operands-1.result
    c.args.self.now c.term.new.self c.term-2.new.self c.put.new.self c.put.result
    (pair_of c.args.operands.now c.index-operands-0.result c.index-operands-1.result c.requires.two c.index-operands-0.is c.index-operands-1.is)
    c.in_ok-term.ensures c.in_ok-term-2.ensures c.put.ensures.steps c.put.ensures.next c.put.ensures.memory
