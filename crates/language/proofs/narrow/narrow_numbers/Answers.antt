use Rattle.language.proofs.Prelude.{◌≡◌, length, map, refl, ap, sym, ◌∙◌, subst, All, Contains, TruthTable, IsClosed, IsRefused, inside, given_by, truths, relations_of_arity}
use Rattle.language.proofs.Widening.{under}
use Rattle.language.proofs.Chosen.{same_over, closed_over, never_many, found, chosen}
use Rattle.language.proofs.narrow.narrow_numbers.Goals as goal
use Rattle.language.proofs.narrow.narrow_numbers.Goals.{After-deref}

mask_is : (c : After-deref) → c.in_ok-mask.mask.truth ≡ inside c.args.ranges.now c.args.d c.args.scope.now
mask_is c = ap (λ (t : TruthTable). t.truth) c.in_ok-mask.ensures

arity_is : (c : After-deref) → c.in_ok-mask.mask.arity ≡ length c.args.scope.now
arity_is c = ap (λ (t : TruthTable). t.arity) c.in_ok-mask.ensures

values_are : (c : After-deref) → c.in_ok-mask.mask.value_count ≡ c.args.d
values_are c = ap (λ (t : TruthTable). t.value_count) c.in_ok-mask.ensures

file_are : (c : After-deref) → truths c.deref.result.now ≡ map (under (inside c.args.ranges.now c.args.d c.args.scope.now)) (relations_of_arity (map given_by c.args.rels.now) (length c.args.scope.now))
file_are c = ap truths c.deref.ensures.value ∙ c.in_ok-given.ensures.are ∙ (λ i. map (under (mask_is c i)) (relations_of_arity (map given_by c.args.rels.now) (arity_is c i)))

file_arity : (c : After-deref) → All (λ (t : TruthTable). t.arity ≡ length c.args.scope.now) c.deref.result.now
file_arity c = subst (All (λ (t : TruthTable). t.arity ≡ length c.args.scope.now)) (sym c.deref.ensures.value) (λ k t low. c.in_ok-given.ensures.arity k t low ∙ arity_is c)

file_over : (c : After-deref) → All (λ (t : TruthTable). t.value_count ≡ c.args.d) c.deref.result.now
file_over c = subst (All (λ (t : TruthTable). t.value_count ≡ c.args.d)) (sym c.deref.ensures.value) (λ k t low. c.in_ok-given.ensures.values k t low ∙ values_are c)

cut_are : (c : After-deref) → truths c.in_ok-under.under.items ≡ map (under (inside c.args.ranges.now c.args.d c.args.scope.now)) (truths c.args.tables.now)
cut_are c = c.in_ok-under.ensures.are ∙ ap (λ m. map (under m) (truths c.args.tables.now)) (mask_is c)

pub close-requires : goal.close-requires
close-requires c = same_over c.args.d c.deref.result.now (file_over c)

pub numbers_among-requires-clause-there : goal.numbers_among-requires-clause-there
numbers_among-requires-clause-there c =
    let at = (goal.at.numbers_among-requires-clause-there c).After-deref in
    let a = length at.args.scope.now in
    let d = at.args.d in
    let mask = inside at.args.ranges.now d at.args.scope.now in
    let closed : IsClosed a d at.deref.result.now c.list.result.now =
    subst (IsClosed a d at.deref.result.now) (sym c.list.ensures)
    (closed_over d a at.deref.result.now _ (file_over at) (c.in-Ok.ensures.closed a at.requires.scope.not_empty at.requires.scope.short)) in
    subst (λ cut. All (Contains cut) c.list.result.now) (sym c.deref-in-Ok.ensures.value)
    (found d a mask (map given_by at.args.rels.now) at.args.tables.now at.requires.closed at.deref.result.now (file_are at) (file_arity at) c.list.result.now closed
    at.in_ok-under.under.items (cut_are at) (λ k t low. at.in_ok-under.ensures.arity k t low ∙ arity_is at) (λ k t low. at.in_ok-under.ensures.values k t low ∙ values_are at))

pub returns-in-Ok : goal.returns-in-Ok
returns-in-Ok c =
    let at = (goal.at.returns-in-Ok c).After-deref in
    let a = length at.args.scope.now in
    let d = at.args.d in
    let mask = inside at.args.ranges.now d at.args.scope.now in
    let closed : IsClosed a d at.deref.result.now c.list.result.now =
    subst (IsClosed a d at.deref.result.now) (sym c.list.ensures)
    (closed_over d a at.deref.result.now _ (file_over at) (c.in-Ok.ensures.closed a at.requires.scope.not_empty at.requires.scope.short)) in
    chosen d a mask (map given_by at.args.rels.now) at.args.tables.now at.requires.closed at.deref.result.now (file_are at) (file_arity at) c.list.result.now closed
    at.args.ranges.now at.args.scope.now c.deref-in-Ok.result.now c.in_ok-numbers_among-in-Ok.field-0.items refl refl (ap truths c.deref-in-Ok.ensures.value ∙ cut_are at)
    c.in_ok-numbers_among-in-Ok.ensures.below c.in_ok-numbers_among-in-Ok.ensures.are

pub unreachable-requires : goal.unreachable-requires
unreachable-requires c =
    let at = (goal.at.unreachable-requires c).After-deref in
    let inside_is = inside at.args.ranges.now at.args.d at.args.scope.now in
    never_many at.args.d (length at.args.scope.now) inside_is (map given_by at.args.rels.now) at.args.tables.now at.requires.closed at.deref.result.now (file_are at) (file_arity at) c.in-Err-TooMany.field-0-0
    (subst (IsRefused at.deref.result.now) c.in-Err-TooMany.field-0-is c.in-Err-TooMany.ensures.refused)
