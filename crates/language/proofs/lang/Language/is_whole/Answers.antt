use Rattle.language.proofs.Prelude.{◌≡◌, ℕ, true, List, [], sym, ◌∙◌, ap, list_all, Language, scope_at, is_whole_range}
use Rattle.language.proofs.Within.{wholes_in, whole_by}
use Rattle.language.proofs.Fields.{lawful_here, known_here}
use Rattle.language.proofs.lang.Language.is_whole.Goals as goal

pub returns-then-self : goal.returns-then-self
returns-then-self c =
    let l : Language = c.args.self.now in
    let scope : List ℕ = scope_at l c.args.s in
    let lawful = lawful_here c.self.inside c.self.invariant l c.self.view_is in
    let is : list_all (is_whole_range l.value_count) l.ranges ≡ true =
    ap (λ (x : Language). list_all (is_whole_range x.value_count) x.ranges) (sym c.self.view_is) ∙ sym c.self.invariant.is_whole ∙ c.if-self.true in
    c.if-self.true ∙ sym (whole_by l.ranges l.value_count scope (wholes_in l.ranges l.value_count scope lawful.some_value is (known_here l lawful scope (lawful.scopes c.args.s [] c.requires))))
