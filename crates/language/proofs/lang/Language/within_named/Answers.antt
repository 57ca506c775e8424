use Rattle.language.proofs.Prelude.{◌≡◌, length, map, Option, Some, None, sym, ◌∙◌, ap, subst, option_map, Relation, widened, given_by, Language, of_arity, scope_at, relation_among, relation_named, TellsNamed}
use Rattle.language.proofs.ByNames.{named_sized, among-made}
use Rattle.language.proofs.Fields.{lawful_here}
use Rattle.language.proofs.lang.Language.within_named.Goals as goal
use Rattle.language.proofs.lang.Language.within_named.Goals.{After-table_named}

-- the vocabulary's relation of the name
plain : (c : After-table_named) → relation_among c.args.name.now (of_arity (length (scope_at c.args.self.now c.args.s)) c.args.self.now.given) ≡ option_map (λ t. t.now.truth) c.table_named.result
plain c =
    (λ i. relation_among c.args.name.now (of_arity (length (sym c.scope.ensures.is i)) ((ap (λ (l : Language). l.given) (sym c.self.view_is) ∙ ap (map given_by) (sym c.deref.ensures.value)) i)))
    ∙ sym c.table_named.ensures

named : (c : After-table_named) → relation_named c.args.self.now c.args.s c.args.name.now
    ≡ option_map (widened c.args.self.now.ranges c.args.self.now.value_count (scope_at c.args.self.now c.args.s)) (option_map (λ t. t.now.truth) c.table_named.result)
named c =
    let l : Language = c.args.self.now in
    among-made (widened l.ranges l.value_count (scope_at l c.args.s)) c.args.name.now (of_arity (length (scope_at l c.args.s)) l.given)
    ∙ ap (option_map (widened l.ranges l.value_count (scope_at l c.args.s))) (plain c)

pub within-requires-clause-size : goal.within-requires-clause-size
within-requires-clause-size c =
    let at = (goal.at.within-requires-clause-size c).After-table_named in
    let l : Language = at.args.self.now in
    named_sized l.value_count (length (scope_at l at.args.s)) at.args.name.now l.given c.in_ok-table.table.now.truth (lawful_here at.self.inside at.self.invariant l at.self.view_is).given_sized
    (sym (plain at ∙ ap (option_map (λ t. t.now.truth)) c.in_ok-table.was))

pub returns-in_err-table : goal.returns-in_err-table
returns-in_err-table c =
    let at = (goal.at.returns-in_err-table c).After-table_named in
    let w : Relation → Relation = widened at.args.self.now.ranges at.args.self.now.value_count (scope_at at.args.self.now at.args.s) in
    subst (λ (o : Option _). TellsNamed c.args.self.now c.args.s o c.from_residual.result) (sym (named at ∙ ap (λ (o : Option _). option_map w (option_map (λ t. t.now.truth) o)) c.in_err-table.was))
    (subst (TellsNamed c.args.self.now c.args.s None) (sym c.from_residual.ensures) tt)

pub returns : goal.returns
returns c =
    let at = (goal.at.returns c).After-table_named in
    let w : Relation → Relation = widened at.args.self.now.ranges at.args.self.now.value_count (scope_at at.args.self.now at.args.s) in
    subst (λ (o : Option _). TellsNamed c.args.self.now c.args.s o (Some c.within.result)) (sym (named at ∙ ap (λ (o : Option _). option_map w (option_map (λ t. t.now.truth) o)) c.in_ok-table.was)) c.within.ensures
