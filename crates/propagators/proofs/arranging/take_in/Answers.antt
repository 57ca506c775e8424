use Rattle.propagators.proofs.Prelude.{◌≡◌, ◌<◌, ◌+◌, ◌∙◌, ℕ, List, ap, sym, subst, arith, length, slice_index_or, slice_set, variable_count, Arc, arc_of, conditions, Brief, IsApart, IsBriefOf, IsParted, AreApartSoFar, AreTakenIn}
use Rattle.propagators.proofs.Masking.{briefs_next}
use Rattle.propagators.proofs.Lazy.{limits_next}
use Rattle.propagators.proofs.Parting.{first_known, second_known, noted_apart, noted_over, parted_next, parted_other, apart_next, apart_over}
use Rattle.propagators.proofs.arranging.take_in.Goals as goal
use Rattle.propagators.proofs.arranging.take_in.Goals.{in-Apart, in_default}

pub part-requires-clause-first : goal.part-requires-clause-first
part-requires-clause-first c =
    let few = c.requires.lawful.few_variables in
    let low : c.in-Apart.pair.first < variable_count c.args.cons.now.lang.now = first_known c.scope-scope.result.now c.in-Apart.pair (variable_count c.args.cons.now.lang.now) c.in-Apart.ensures.on c.scope-scope.ensures.scope.known in
    omega arith

pub part-requires-clause-second : goal.part-requires-clause-second
part-requires-clause-second c =
    let few = c.requires.lawful.few_variables in
    let low : c.in-Apart.pair.second < variable_count c.args.cons.now.lang.now = second_known c.scope-scope.result.now c.in-Apart.pair (variable_count c.args.cons.now.lang.now) c.in-Apart.ensures.on c.scope-scope.ensures.scope.known in
    omega arith

pub loop-i-preserved : goal.loop-i-preserved
loop-i-preserved c =
    let room : c.loop-i.i < length c.loop-i.briefs = (let end = c.min-end.ensures in let low = c.loop-i-test.true in let long = c.loop-i.auto.briefs in omega arith) in
    let brief : c.match-brief.brief ≡ c.brief_of-brief.result = elim c.match-brief.branch [ in-Apart w ↦ w.brief-is ∙ sym w.in-Apart.is | in_default w ↦ w.brief-is ] in
    record {
      taken = record {
        briefs = briefs_next c.args.cons.now.lang.now (conditions c.args.cons.now) c.loop-i.briefs c.loop-i.i c.match-brief.brief (arc_of c.args.cons.now.lang.now c.condition-holding.result.0 c.condition-holding.result.1)
            room c.condition-holding.ensures.is (subst (IsBriefOf c.args.cons.now.lang.now (arc_of c.args.cons.now.lang.now c.condition-holding.result.0 c.condition-holding.result.1)) (sym brief) c.brief_of-brief.ensures.is) c.loop-i.invariant.taken.briefs;
        limits = limits_next (conditions c.args.cons.now) c.loop-i.briefs c.loop-i.limits c.raise_all.new.limits c.scope-scope.result.now c.loop-i.i c.match-brief.brief
            room (λ a. ap (λ (b : Arc). b.scope) (c.condition-holding.ensures.is a) ∙ sym c.scope-scope.ensures.is) c.raise_all.ensures.there c.raise_all.ensures.grows c.loop-i.invariant.taken.limits;
        noted = elim c.match-brief.branch [
          | in-Apart w ↦
              noted_apart (conditions c.args.cons.now) c.loop-i.briefs c.loop-i.sets c.match-brief.sets c.loop-i.i c.match-brief.brief room w.sets-is (subst IsApart (sym w.brief-is) tt) c.loop-i.invariant.taken.noted
          | in_default w ↦
              noted_over (conditions c.args.cons.now) c.loop-i.briefs c.scope-scope.result.now c.loop-i.sets w.note.new.sets c.match-brief.sets c.loop-i.i c.match-brief.brief w.sets-is
              (λ a. ap (λ (b : Arc). b.scope) (c.condition-holding.ensures.is a) ∙ sym c.scope-scope.ensures.is) w.note.ensures.grows w.note.ensures.there c.loop-i.invariant.taken.noted
        ];
        parted = elim c.match-brief.branch [
          | in-Apart w ↦ λ k b low.
              subst (λ (xs : List ℕ). IsParted xs (slice_index_or (slice_set c.loop-i.briefs c.loop-i.i c.match-brief.brief) k b)) (sym w.aparts-is)
              (parted_next c.loop-i.briefs c.loop-i.aparts w.part.new.aparts c.loop-i.i c.match-brief.brief room w.part.ensures.grows (subst (IsParted w.part.new.aparts) (sym w.brief-is) w.part.ensures.there) c.loop-i.invariant.taken.parted k b low)
          | in_default w ↦ λ k b low.
              subst (λ (xs : List ℕ). IsParted xs (slice_index_or (slice_set c.loop-i.briefs c.loop-i.i c.match-brief.brief) k b)) (sym w.aparts-is)
              (parted_next c.loop-i.briefs c.loop-i.aparts c.loop-i.aparts c.loop-i.i c.match-brief.brief room (λ q x h. h) (parted_other c.loop-i.aparts c.match-brief.brief (λ p e. w.in_default.not-Apart p (sym w.brief-is ∙ e))) c.loop-i.invariant.taken.parted k b low)
        ];
        apart = elim c.match-brief.branch [
          | in-Apart w ↦
              subst (λ (xs : List ℕ). AreApartSoFar (slice_set c.loop-i.briefs c.loop-i.i c.match-brief.brief) xs (c.loop-i.i + 1)) (sym w.aparts-is)
              (subst (λ (b : Brief). AreApartSoFar (slice_set c.loop-i.briefs c.loop-i.i b) w.part.new.aparts (c.loop-i.i + 1)) (sym w.brief-is)
              (apart_next c.loop-i.briefs c.loop-i.aparts w.part.new.aparts c.loop-i.i w.in-Apart.pair room w.part.ensures.only c.loop-i.invariant.taken.apart))
          | in_default w ↦
              subst (λ (xs : List ℕ). AreApartSoFar (slice_set c.loop-i.briefs c.loop-i.i c.match-brief.brief) xs (c.loop-i.i + 1)) (sym w.aparts-is)
              (apart_over c.loop-i.briefs c.loop-i.aparts c.loop-i.i c.match-brief.brief c.loop-i.invariant.taken.apart)
        ];
      };
      wide = (let same = c.raise_all.auto.limits in let wide = c.loop-i.invariant.wide in omega arith);
      long = (let same = c.match-brief.auto.sets in let long = c.loop-i.invariant.long in omega arith);
      two = (let same = c.match-brief.auto.aparts in let two = c.loop-i.invariant.two in omega arith);
    }

pub returns : goal.returns
returns c =
    subst (AreTakenIn c.args.cons.now.lang.now (conditions c.args.cons.now) c.loop-i.briefs c.loop-i.sets c.loop-i.limits c.loop-i.aparts)
    (let end = c.min-end.ensures in let done = c.loop-i-test.false in let most = c.loop-i.auto.i-end in let some = c.requires.some in let count = c.count.ensures in let long = c.loop-i.auto.briefs in omega arith) c.loop-i.invariant.taken
