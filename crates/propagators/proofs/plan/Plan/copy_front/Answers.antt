use Rattle.propagators.proofs.Prelude.{◌≡◌, ◌∙◌, ℕ, List, length, ap, sym, arith, slice_index_or, with_items, with_items_is, Brief}
use Rattle.propagators.proofs.Indexed.{plan_copied}
use Rattle.propagators.proofs.plan.Plan.copy_front.Goals as goal

pub returns-clause-plan : goal.returns-clause-plan
returns-clause-plan c = λ l arcs few narrow is.
    let briefs : (with_items c.args.self.now.briefs c.copy_front.new.to).items ≡ c.copy_front.new.to = with_items_is c.args.self.now.briefs c.copy_front.new.to (c.copy_front.auto.to ∙ ap length c.deref_mut.ensures.value ∙ sym c.args.self.now.briefs.ok.0) in
    let sets : (with_items c.args.self.now.sets c.copy_front-2.new.to).items ≡ c.copy_front-2.new.to = with_items_is c.args.self.now.sets c.copy_front-2.new.to (c.copy_front-2.auto.to ∙ ap length c.deref_mut-2.ensures.value ∙ sym c.args.self.now.sets.ok.0) in
    let limits : (with_items c.args.self.now.limits c.copy_front-3.new.to).items ≡ c.copy_front-3.new.to = with_items_is c.args.self.now.limits c.copy_front-3.new.to (c.copy_front-3.auto.to ∙ ap length c.deref_mut-3.ensures.value ∙ sym c.args.self.now.limits.ok.0) in
    let aparts : (with_items c.args.self.now.aparts c.copy_front-4.new.to).items ≡ c.copy_front-4.new.to = with_items_is c.args.self.now.aparts c.copy_front-4.new.to (c.copy_front-4.auto.to ∙ ap length c.deref_mut-4.ensures.value ∙ sym c.args.self.now.aparts.ok.0) in
    let long : length (with_items c.args.self.now.briefs c.copy_front.new.to).items ≡ length c.args.self.now.briefs.items = ap length briefs ∙ c.copy_front.auto.to ∙ ap length c.deref_mut.ensures.value in
    let room = c.requires.room in
    let used = c.min-used.ensures in
    let rounded = c.div_ceil.ensures in
    let words = c.requires.words in
    plan_copied l arcs c.args.other.now _ c.args.count few c.requires.there (omega arith) narrow c.requires.words
    (λ k b low. ap (λ (xs : List Brief). slice_index_or xs k b) briefs ∙ c.copy_front.ensures k b low ∙ ap (λ (xs : List Brief). slice_index_or xs k b) c.deref.ensures.value)
    (λ i low. ap (λ (xs : List ℕ). slice_index_or xs i 0) sets ∙ c.copy_front-2.ensures i 0 (omega arith) ∙ ap (λ (xs : List ℕ). slice_index_or xs i 0) c.deref-2.ensures.value)
    (λ v low. ap (λ (xs : List ℕ). slice_index_or xs v 0) limits ∙ c.copy_front-3.ensures v 0 low ∙ ap (λ (xs : List ℕ). slice_index_or xs v 0) c.deref-3.ensures.value)
    (λ i d low. ap (λ (xs : List ℕ). slice_index_or xs i d) aparts ∙ c.copy_front-4.ensures i d low ∙ ap (λ (xs : List ℕ). slice_index_or xs i d) c.deref-4.ensures.value)
    is
