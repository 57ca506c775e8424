use Rattle.rel_formula.proofs.Prelude.{◌≡◌, ◌^◌, length, arith, ap, ◌∙◌}
use Rattle.rel_formula.proofs.Places.{length-relation_of}
use Rattle.rel_formula.proofs.tables.table_of.Goals as goal

pub from_truth-requires-clause-each : goal.from_truth-requires-clause-each
from_truth-requires-clause-each c =
    ap length (c.deref.ensures.value ∙ c.in_ok-truths.ensures.truth) ∙ length-relation_of c.args.f.now c.args.arity _ c.args.d

pub from_truth-requires-clause-fits : goal.from_truth-requires-clause-fits
from_truth-requires-clause-fits c =
    let size : length c.deref.result.now ≡ c.args.d ^ c.args.arity =
    ap length (c.deref.ensures.value ∙ c.in_ok-truths.ensures.truth) ∙ length-relation_of c.args.f.now c.args.arity _ c.args.d in
    omega (arith, size, c.requires.fits)
