use Rattle.propagators.proofs.Prelude.{◌≡◌, ◌<◌, ◌∙◌, ℕ, true, List, [], length, sym, subst, arith, slice_index_or, get_or_read, Brief, Language, Arc, conditions, AreBriefs, IsBriefOf, IsApartOf, IsOnScope}
use Rattle.propagators.specs.declared.briefs.Brief.TheVariants.{Other}
use Rattle.propagators.specs.declared.briefs.OnScope.{OnScope}
use Rattle.propagators.proofs.looks.look_at.Goals as goal

none : Arc
none = record { scope = []; accepted = λ tuple. true }

on_scope : (l : Language) (arcs : List Arc) (briefs : List Brief) (i : ℕ) (b : Brief) (o : OnScope) → AreBriefs l arcs briefs → i < length briefs → i < length arcs → slice_index_or briefs i b ≡ Other o → (a : Arc) → IsOnScope l (slice_index_or arcs i a) o
on_scope l arcs briefs i b o are room low is a = subst (IsBriefOf l (slice_index_or arcs i a)) is (are i a b room low)

pub look_at_pair-requires-clause-pair : goal.look_at_pair-requires-clause-pair
look_at_pair-requires-clause-pair c = λ a.
    (let room = c.requires.plan.room in
    let count = c.requires.count in
    let low = c.if-i-count.false in
    subst (λ (b : Brief). IsBriefOf c.args.cons.now.lang.now (slice_index_or (conditions c.args.cons.now) c.args.i a) b)
    (sym (get_or_read c.args.plan.now.briefs.items c.args.i c.index.result.now (omega arith) c.index.ensures c.index.result.now) ∙ c.in-Two.is)
    (c.requires.plan.plan.briefs c.args.i a c.index.result.now (omega arith) (omega arith)))

pub look_at_pair-requires-in-Apart-clause-pair : goal.look_at_pair-requires-in-Apart-clause-pair
look_at_pair-requires-in-Apart-clause-pair c = λ a.
    (let room = c.requires.plan.room in
    let count = c.requires.count in
    let low = c.if-i-count.false in
    let is : IsApartOf c.args.cons.now.lang.now (slice_index_or (conditions c.args.cons.now) c.args.i a) c.in-Apart.pair =
    subst (λ (b : Brief). IsBriefOf c.args.cons.now.lang.now (slice_index_or (conditions c.args.cons.now) c.args.i a) b)
    (sym (get_or_read c.args.plan.now.briefs.items c.args.i c.index.result.now (omega arith) c.index.ensures c.index.result.now) ∙ c.in-Apart.is)
    (c.requires.plan.plan.briefs c.args.i a c.index.result.now (omega arith) (omega arith)) in
    is.pair)

pub look_at_other-requires-clause-condition : goal.look_at_other-requires-clause-condition
look_at_other-requires-clause-condition c =
    (let room = c.requires.plan.room in
    let count = c.requires.count in
    let low = c.if-i-count.false in
    let on : (a : Arc) → IsOnScope c.args.cons.now.lang.now (slice_index_or (conditions c.args.cons.now) c.args.i a) c.in-Other.other =
    on_scope c.args.cons.now.lang.now (conditions c.args.cons.now) c.args.plan.now.briefs.items c.args.i c.index.result.now c.in-Other.other c.requires.plan.plan.briefs (omega arith) (omega arith)
    (sym (get_or_read c.args.plan.now.briefs.items c.args.i c.index.result.now (omega arith) c.index.ensures c.index.result.now) ∙ c.in-Other.is) in
    record { lawful = c.requires.lawful; constraints = c.requires.constraints; low = omega arith; candidate = (on none).candidate; is = λ a. (on a).is })

pub look_at_other-requires-clause-size : goal.look_at_other-requires-clause-size
look_at_other-requires-clause-size c =
    (let room = c.requires.plan.room in
    let count = c.requires.count in
    let low = c.if-i-count.false in
    on_scope c.args.cons.now.lang.now (conditions c.args.cons.now) c.args.plan.now.briefs.items c.args.i c.index.result.now c.in-Other.other c.requires.plan.plan.briefs (omega arith) (omega arith)
    (sym (get_or_read c.args.plan.now.briefs.items c.args.i c.index.result.now (omega arith) c.index.ensures c.index.result.now) ∙ c.in-Other.is) none).size

pub look_at_other-requires-clause-scope : goal.look_at_other-requires-clause-scope
look_at_other-requires-clause-scope c =
    (let room = c.requires.plan.room in
    let count = c.requires.count in
    let low = c.if-i-count.false in
    on_scope c.args.cons.now.lang.now (conditions c.args.cons.now) c.args.plan.now.briefs.items c.args.i c.index.result.now c.in-Other.other c.requires.plan.plan.briefs (omega arith) (omega arith)
    (sym (get_or_read c.args.plan.now.briefs.items c.args.i c.index.result.now (omega arith) c.index.ensures c.index.result.now) ∙ c.in-Other.is) none).scope
