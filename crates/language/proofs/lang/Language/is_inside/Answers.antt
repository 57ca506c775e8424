use Rattle.language.proofs.Prelude.{◌≡◌, ℕ, true, length, List, [], sym, ◌∙◌, ap, list_all, tuple_at, tuple_at-below, Language, scope_at, is_whole_range, are_whole}
use Rattle.language.proofs.Within.{wholes_from, wholes_in, all_within}
use Rattle.language.proofs.Fields.{lawful_here, known_here}
use Rattle.language.proofs.lang.Language.is_inside.Goals as goal

pub returns-then-self : goal.returns-then-self
returns-then-self c =
    let l : Language = c.args.self.now in
    let scope : List ℕ = scope_at l c.args.s in
    let lawful = lawful_here c.self.inside c.self.invariant l c.self.view_is in
    let is : list_all (is_whole_range l.value_count) l.ranges ≡ true =
    ap (λ (x : Language). list_all (is_whole_range x.value_count) x.ranges) (sym c.self.view_is) ∙ sym c.self.invariant.is_whole ∙ c.if-self.true in
    let whole = wholes_in l.ranges l.value_count scope lawful.some_value is (known_here l lawful scope (lawful.scopes c.args.s [] c.requires.scope)) in
    sym (all_within l.ranges l.value_count scope (tuple_at l.value_count (length scope) c.args.place) whole (tuple_at-below l.value_count (length scope) c.args.place c.requires.place))

pub returns-then-are_whole : goal.returns-then-are_whole
returns-then-are_whole c =
    let l : Language = c.args.self.now in
    let scope : List ℕ = scope_at l c.args.s in
    let lawful = lawful_here c.self.inside c.self.invariant l c.self.view_is in
    let is : are_whole l.ranges l.value_count scope ≡ true =
    (λ i. are_whole (sym c.own_ranges-ranges.ensures.is i) (ap (λ (x : Language). x.value_count) (sym c.self.view_is) i) (sym c.scope-scope.ensures.is i)) ∙ sym c.are_whole.ensures ∙ c.if-are_whole.true in
    let whole = wholes_from l.ranges l.value_count scope lawful.some_value is in
    c.if-are_whole.true ∙ sym (all_within l.ranges l.value_count scope (tuple_at l.value_count (length scope) c.args.place) whole (tuple_at-below l.value_count (length scope) c.args.place c.requires.place))
