use Rattle.rel_table.proofs.Prelude.{◌≡◌, length, ap, sym, ◌∙◌, set, true, false, arith, length-set, length-replicate}
use Rattle.rel_table.proofs.Copying.{copied, none_copied, mark_one, skip_one, all_copied}
use Rattle.rel_table.proofs.bits.Bits.of.Goals as goal
use Rattle.rel_table.proofs.bits.Bits.of.Goals.{then-truth-i, else-truth-i}

pub loop-i-preserved : goal.loop-i-preserved
loop-i-preserved c = elim c.if-truth-i.branch [
  | then-truth-i w ↦ record {
    long = ap length (w.bits-is ∙ w.mark.ensures) ∙ length-set c.loop-i.bits c.loop-i.i true ∙ c.loop-i.invariant.long;
    copied = w.bits-is ∙ w.mark.ensures ∙ ap (λ bits. set bits c.loop-i.i true) c.loop-i.invariant.copied ∙ mark_one c.args.truth.now c.loop-i.i c.loop-i-test.true w.if-truth-i.true;
  }
  | else-truth-i w ↦ record {
    long = ap length w.bits-is ∙ c.loop-i.invariant.long;
    copied = w.bits-is ∙ c.loop-i.invariant.copied ∙ skip_one c.args.truth.now c.loop-i.i c.loop-i-test.true w.if-truth-i.false;
  }
]

pub loop-i-init : goal.loop-i-init
loop-i-init c = record {
  long = ap length c.in_ok-bits.ensures ∙ length-replicate (length c.args.truth.now) false;
  copied = c.in_ok-bits.ensures ∙ sym (none_copied c.args.truth.now);
}

pub returns : goal.returns
returns c =
    let ended : c.loop-i.i ≡ length c.args.truth.now = omega (arith, c.loop-i-test.false, c.loop-i.auto.i-end) in
    c.loop-i.invariant.copied ∙ ap (copied c.args.truth.now) ended ∙ all_copied c.args.truth.now
