use Rattle.par_screen.proofs.Prelude.{◌≡◌, ℕ, ◌+◌, ◌<◌, length, subst, sym, ◌∙◌, ap, arith, number_of, Place, remembered_begun, is_ask, IsSearched, HasTaken, IsTakenTo, part_start}
use Rattle.par_screen.proofs.Eighths.{start_whole, says_all, taken_part}
use Rattle.par_screen.proofs.forked.take_parts.Goals as goal
use Rattle.language.proofs.Counting.{number_below}

pub loop-part-preserved : goal.loop-part-preserved
loop-part-preserved c =
    let place : Place = c.index-places-part.result in
    let low : c.loop-part.part < 8 = c.loop-part-test.true in
    let part = subst (λ (p : Place). IsSearched c.args.lang.now c.args.net.now.list c.args.kept.now.members c.args.budget (part_start c.args.lang.now c.loop-part.part) (part_start c.args.lang.now (c.loop-part.part + 1)) p.marks.items p.answer)
    (sym c.index-places-part.is) (c.requires.searched c.loop-part.part place low) in
    let taken = subst (λ (n : ℕ). HasTaken place.marks.items n (part_start c.args.lang.now (c.loop-part.part + 1)) (remembered_begun c.loop-part.screen (length c.args.net.now.list) c.args.budget) c.take_marks.new.self) c.part_start.ensures
    (subst (λ (n : ℕ). HasTaken place.marks.items c.part_start.result n (remembered_begun c.loop-part.screen (length c.args.net.now.list) c.args.budget) c.take_marks.new.self) c.part_start-in-loop-part.ensures c.take_marks.ensures.taken) in
    taken_part c.args.lang.now c.args.net.now.list c.args.kept.now.members c.args.budget c.loop-part.part place.marks.items place.answer c.loop-part.screen c.take_marks.new.self c.loop-part.invariant taken part

pub returns-clause-open : goal.returns-clause-open
returns-clause-open c = λ none d known.
    let over = c.loop-part-test.false in
    let within = c.loop-part.auto.part-end in
    let all : c.loop-part.part ≡ 8 = omega arith in
    let taken = subst (λ (n : ℕ). IsTakenTo c.args.lang.now c.args.net.now.list c.args.kept.now.members c.args.budget (part_start c.args.lang.now n) c.loop-part.screen) all c.loop-part.invariant in
    let below : number_of c.args.lang.now d < part_start c.args.lang.now 8 = subst (λ (n : ℕ). number_of c.args.lang.now d < n) (sym (start_whole c.args.lang.now)) (number_below c.args.lang.now d known) in
    taken.opened (ap is_ask (says_all c.args.lang.now c.args.net.now.list c.args.kept.now.members c.args.budget) ∙ none) d known below
