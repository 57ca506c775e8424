use Rattle.disk_model.proofs.Prelude.{List, ℕ, Vec, Global, length, subst, sym, arith, All, slice_index_or, ◌<◌, ◌+◌, AreTorn, HaveCutsOf, IsTornOf}
use Rattle.disk_model.proofs.Replays.{torn_more, cuts_more, cuts_all}
use Rattle.disk_model.proofs.crash.torn_images.Goals as goal

pub loop-image-preserved : goal.loop-image-preserved
loop-image-preserved c =
    let n = length c.args.bytes.now in
    let images = c.args.images.now in
    let more = c.in_ok-more.more.items in
    let new : AreTorn c.args.at n c.image-item.result.items more = subst (λ (l : List ℕ). AreTorn c.args.at n l more) c.deref.ensures.value c.in_ok-more.ensures.each in
    let new_cuts : HaveCutsOf c.args.at c.args.bytes.now c.image-item.result.items more = subst (λ (l : List ℕ). HaveCutsOf c.args.at c.args.bytes.now l more) c.deref.ensures.value c.in_ok-more.ensures.cuts in
    record {
      each = subst (All (IsTornOf c.args.at n images)) (sym c.in_ok-append.ensures.items)
          (torn_more c.args.at n images c.loop-image.torn.items more c.loop-image.image-index c.image-item.result c.loop-image-test.true c.image-item.is c.loop-image.invariant.each new);
      cuts = subst (λ (l : List (Vec ℕ Global)). (k : ℕ) (d : Vec ℕ Global) → k < c.loop-image.image-index + 1 → HaveCutsOf c.args.at c.args.bytes.now (slice_index_or images k d).items l) (sym c.in_ok-append.ensures.items)
          (cuts_more c.args.at c.args.bytes.now images c.loop-image.torn.items more c.loop-image.image-index c.image-item.result c.image-item.is c.loop-image-test.true c.loop-image.invariant.cuts new_cuts);
    }

pub returns-clause-cuts : goal.returns-clause-cuts
returns-clause-cuts c =
    cuts_all c.args.at c.args.bytes.now c.args.images.now c.loop-image.torn.items (λ k d less. c.loop-image.invariant.cuts k d (omega (arith, c.loop-image-test.false)))
