use Rattle.rel_formula.proofs.Prelude.{reverse}
use Rattle.rel_formula.specs.Batch.{DoesStep}
use Rattle.rel_formula.proofs.Rows.{of_step}
use Rattle.rel_formula.proofs.batch.Batch.take.Goals as goal

pub returns-in-Absolute : goal.returns-in-Absolute
returns-in-Absolute c =
    of_step _ c.args.step c.size_last.result (λ step. DoesStep step c.args.tuples.now (reverse c.args.self.now.numbers.items) (reverse c.args.self.now.truths.items) (reverse c.size_last.new.numbers.items) (reverse c.args.self.now.truths.items))
    c.in-Absolute.is (λ does. does c.args.tuples.now (reverse c.args.self.now.truths.items)) c.size_last.ensures

pub returns-in-Combine : goal.returns-in-Combine
returns-in-Combine c =
    of_step _ c.args.step c.combine_last.result (λ step. DoesStep step c.args.tuples.now (reverse c.args.self.now.numbers.items) (reverse c.args.self.now.truths.items) (reverse c.combine_last.new.numbers.items) (reverse c.args.self.now.truths.items))
    c.in-Combine.is (λ does. does c.args.tuples.now (reverse c.args.self.now.truths.items)) c.combine_last.ensures

pub returns-in-Compare : goal.returns-in-Compare
returns-in-Compare c =
    of_step _ c.args.step c.compare_last.result (λ step. DoesStep step c.args.tuples.now (reverse c.args.self.now.numbers.items) (reverse c.args.self.now.truths.items) (reverse c.compare_last.new.numbers.items) (reverse c.compare_last.new.truths.items))
    c.in-Compare.is (λ does. does c.args.tuples.now) c.compare_last.ensures
