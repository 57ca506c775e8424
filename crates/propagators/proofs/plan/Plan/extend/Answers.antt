use Rattle.propagators.proofs.Prelude.{◌≡◌, ◌+◌, ◌*◌, ◌/◌, ◌∙◌, ℕ, List, length, ap, refl, sym, subst, arith, min, slice_index_or, with_items, with_items_is, Brief, conditions, AreTakenIn}
use Rattle.propagators.proofs.Indexed.{arcs_narrow, taken_front, taken_cleared, taken_as, plan_taken}
use Rattle.propagators.proofs.plan.Plan.extend.Goals as goal

pub take_in-requires-clause-front : goal.take_in-requires-clause-front
take_in-requires-clause-front c =
    let sets : (with_items c.args.self.now.sets c.clear_sets.new.sets).items ≡ c.clear_sets.new.sets = with_items_is c.args.self.now.sets c.clear_sets.new.sets (c.clear_sets.ensures.long ∙ ap length c.deref_mut.ensures.value ∙ sym c.args.self.now.sets.ok.0) in
    taken_as c.args.cons.now.lang.now (conditions c.args.cons.now) c.args.self.now.briefs.items c.deref_mut-2.result.now c.clear_sets.new.sets c.deref_mut-3.result.now c.args.self.now.limits.items c.deref_mut-4.result.now c.args.self.now.aparts.items c.deref_mut-5.result.now c.args.from
    c.deref_mut-2.ensures.value (c.deref_mut-3.ensures.value ∙ sets) c.deref_mut-4.ensures.value c.deref_mut-5.ensures.value
    (taken_cleared c.args.cons.now.lang.now (conditions c.args.cons.now) c.args.self.now.briefs.items c.args.self.now.sets.items c.clear_sets.new.sets c.args.self.now.limits.items c.args.self.now.aparts.items c.args.from c.requires.some
    (arcs_narrow c.args.cons.now.lang.now c.args.cons.now.list.now c.args.cons.now.against c.requires.lawful c.requires.constraints)
    (λ k v low small. c.clear_sets.ensures.before k v low small ∙ ap (λ (xs : List ℕ). slice_index_or xs (k / 64 * 128 + v) 0) c.deref_mut.ensures.value)
    (taken_front c.args.cons.now.lang.now (conditions c.args.cons.now) c.args.from c.args.self.now c.requires.some c.requires.room c.requires.front))

pub returns-clause-plan : goal.returns-clause-plan
returns-clause-plan c =
    let briefs : (with_items c.args.self.now.briefs c.take_in.new.briefs).items ≡ c.take_in.new.briefs = with_items_is c.args.self.now.briefs c.take_in.new.briefs (c.take_in.auto.briefs ∙ ap length c.deref_mut-2.ensures.value ∙ sym c.args.self.now.briefs.ok.0) in
    let sets : (with_items (with_items c.args.self.now.sets c.clear_sets.new.sets) c.take_in.new.sets).items ≡ c.take_in.new.sets =
    with_items_is (with_items c.args.self.now.sets c.clear_sets.new.sets) c.take_in.new.sets (c.take_in.auto.sets ∙ ap length c.deref_mut-3.ensures.value ∙ sym (with_items c.args.self.now.sets c.clear_sets.new.sets).ok.0) in
    let limits : (with_items c.args.self.now.limits c.take_in.new.limits).items ≡ c.take_in.new.limits = with_items_is c.args.self.now.limits c.take_in.new.limits (c.take_in.auto.limits ∙ ap length c.deref_mut-4.ensures.value ∙ sym c.args.self.now.limits.ok.0) in
    let aparts : (with_items c.args.self.now.aparts c.take_in.new.aparts).items ≡ c.take_in.new.aparts = with_items_is c.args.self.now.aparts c.take_in.new.aparts (c.take_in.auto.aparts ∙ ap length c.deref_mut-5.ensures.value ∙ sym c.args.self.now.aparts.ok.0) in
    let long : length (with_items c.args.self.now.briefs c.take_in.new.briefs).items ≡ length c.args.self.now.briefs.items = ap length briefs ∙ c.take_in.auto.briefs ∙ ap length c.deref_mut-2.ensures.value in
    let room = c.requires.room in
    plan_taken c.args.cons.now.lang.now (conditions c.args.cons.now) _ (omega arith)
    (subst (λ (xs : List Brief). AreTakenIn c.args.cons.now.lang.now (conditions c.args.cons.now) xs (with_items (with_items c.args.self.now.sets c.clear_sets.new.sets) c.take_in.new.sets).items (with_items c.args.self.now.limits c.take_in.new.limits).items (with_items c.args.self.now.aparts c.take_in.new.aparts).items
    (min (length xs) (length (conditions c.args.cons.now)))) (sym briefs)
    (taken_as c.args.cons.now.lang.now (conditions c.args.cons.now) c.take_in.new.briefs _ c.take_in.new.sets _ c.take_in.new.limits _ c.take_in.new.aparts _
    (min (length c.take_in.new.briefs) (length (conditions c.args.cons.now))) refl sets limits aparts c.take_in.ensures))
