use Rattle.propagators.proofs.Prelude.{◌≡◌, ◌<◌, ◌∙◌, ap, sym, subst, ℕ, List, length, min, slice_index_or, with_items, with_items_is, Brief, conditions, AreApartSoFar, AreBriefs, AreNoted, AreLimits, IsParted}
use Rattle.propagators.proofs.plan.Plan.arrange.Goals as goal

pub returns-clause-plan : goal.returns-clause-plan
returns-clause-plan c =
    let briefs : (with_items c.fill_room.new.self.briefs c.arrange_all.new.briefs).items ≡ c.arrange_all.new.briefs = with_items_is c.fill_room.new.self.briefs c.arrange_all.new.briefs (c.arrange_all.auto.briefs ∙ ap length c.deref_mut.ensures.value ∙ sym c.fill_room.new.self.briefs.ok.0) in
    let sets : (with_items c.fill_room.new.self.sets c.arrange_all.new.sets).items ≡ c.arrange_all.new.sets = with_items_is c.fill_room.new.self.sets c.arrange_all.new.sets (c.arrange_all.auto.sets ∙ ap length c.deref_mut-2.ensures.value ∙ sym c.fill_room.new.self.sets.ok.0) in
    let limits : (with_items c.fill_room.new.self.limits c.arrange_all.new.limits).items ≡ c.arrange_all.new.limits = with_items_is c.fill_room.new.self.limits c.arrange_all.new.limits (c.arrange_all.auto.limits ∙ ap length c.deref_mut-3.ensures.value ∙ sym c.fill_room.new.self.limits.ok.0) in
    let aparts : (with_items c.fill_room.new.self.aparts c.arrange_all.new.aparts).items ≡ c.arrange_all.new.aparts = with_items_is c.fill_room.new.self.aparts c.arrange_all.new.aparts (c.arrange_all.auto.aparts ∙ ap length c.deref_mut-4.ensures.value ∙ sym c.fill_room.new.self.aparts.ok.0) in
    record {
      briefs = subst (λ (xs : List Brief). AreBriefs c.args.cons.now.lang.now (conditions c.args.cons.now) xs) (sym briefs) c.arrange_all.ensures.briefs;
      limits =
          subst (λ (xs : List ℕ). AreLimits (conditions c.args.cons.now) (with_items c.fill_room.new.self.briefs c.arrange_all.new.briefs).items xs) (sym limits)
          (subst (λ (xs : List Brief). AreLimits (conditions c.args.cons.now) xs c.arrange_all.new.limits) (sym briefs) c.arrange_all.ensures.limits);
      noted =
          subst (λ (xs : List ℕ). AreNoted (conditions c.args.cons.now) (with_items c.fill_room.new.self.briefs c.arrange_all.new.briefs).items c.fill_room.new.self.words xs) (sym sets)
          (subst (λ (xs : List Brief). AreNoted (conditions c.args.cons.now) xs c.fill_room.new.self.words c.arrange_all.new.sets) (sym briefs) c.arrange_all.ensures.noted);
      parted =
          subst (λ (xs : List ℕ). (k : ℕ) (b : Brief) → k < length (with_items c.fill_room.new.self.briefs c.arrange_all.new.briefs).items → k < length (conditions c.args.cons.now) → IsParted xs (slice_index_or (with_items c.fill_room.new.self.briefs c.arrange_all.new.briefs).items k b)) (sym aparts)
          (subst (λ (xs : List Brief). (k : ℕ) (b : Brief) → k < length xs → k < length (conditions c.args.cons.now) → IsParted c.arrange_all.new.aparts (slice_index_or xs k b)) (sym briefs) c.arrange_all.ensures.parted);
      apart =
          subst (λ (xs : List ℕ). AreApartSoFar (with_items c.fill_room.new.self.briefs c.arrange_all.new.briefs).items xs (min (length (with_items c.fill_room.new.self.briefs c.arrange_all.new.briefs).items) (length (conditions c.args.cons.now)))) (sym aparts)
          (subst (λ (xs : List Brief). AreApartSoFar xs c.arrange_all.new.aparts (min (length xs) (length (conditions c.args.cons.now)))) (sym briefs) c.arrange_all.ensures.apart);
    }
