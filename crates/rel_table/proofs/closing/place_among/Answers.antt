use Rattle.rel_table.proofs.Prelude.{rules, sym, ◌∙◌}
use Rattle.rel_table.proofs.Inserting.{one_above, below_here}
use Rattle.rel_table.proofs.closing.place_among.Goals as goal

pub loop-at-preserved : goal.loop-at-preserved
loop-at-preserved c =
    one_above c.args.ordered.now c.args.table.now c.index-ordered-at.result c.loop-at.at c.equals.result c.loop-at-test.true c.index-ordered-at.is c.requires.kinds c.arity-arity.ensures.lawful
    c.if-equals.false c.equals.ensures.1 (sym c.is_above.ensures ∙ c.if-is_above.false) c.loop-at.invariant

pub returns-then-is_above-clause-after : goal.returns-then-is_above-clause-after
returns-then-is_above-clause-after c =
    below_here c.args.ordered.now c.args.table.now.truth c.index-ordered-at.result c.loop-at.at c.loop-at-test.true c.index-ordered-at.is
    (sym c.is_above.ensures ∙ c.if-is_above.true)

pub returns-then-equals-clause-after : goal.returns-then-equals-clause-after
returns-then-equals-clause-after c = search rules
