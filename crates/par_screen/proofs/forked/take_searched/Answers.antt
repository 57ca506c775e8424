use Rattle.par_screen.proofs.Prelude.{ℕ, ◌+◌, subst, sym, Place, IsSearched, part_start}
use Rattle.par_screen.proofs.forked.take_searched.Goals as goal

pub loop-part-preserved : goal.loop-part-preserved
loop-part-preserved c =
    let place : Place = c.index-places-part.result in
    let part = subst (λ (p : Place). IsSearched c.args.lang.now c.args.net.now.list c.args.kept.now.members c.args.budget (part_start c.args.lang.now c.loop-part.part) (part_start c.args.lang.now (c.loop-part.part + 1)) p.marks.items p.answer)
    (sym c.index-places-part.is) (c.requires.searched c.loop-part.part place c.loop-part-test.true) in
    let here = subst (λ (n : ℕ). IsSearched c.args.lang.now c.args.net.now.list c.args.kept.now.members c.args.budget n (part_start c.args.lang.now (c.loop-part.part + 1)) place.marks.items place.answer) (sym c.part_start-start.ensures) part in
    let there = subst (λ (n : ℕ). IsSearched c.args.lang.now c.args.net.now.list c.args.kept.now.members c.args.budget c.part_start-start.result n place.marks.items place.answer) (sym c.part_start.ensures) here in
    record {
      made = c.take_searched.ensures.made c.args.lang.now c.loop-part.invariant.made;
      holds = c.take_searched.ensures.holds c.args.lang.now c.args.kept.now.members c.loop-part.invariant.made c.loop-part.invariant.holds there;
    }
