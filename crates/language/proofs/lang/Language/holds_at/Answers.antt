use Rattle.language.proofs.Prelude.{◌≡◌, Bool, true, false, ◌||◌, [], refl, sym, ◌∙◌, ap, get_or, scope_at, relations_on}
use Rattle.language.proofs.Within.{widened-at}
use Rattle.language.proofs.lang.Language.holds_at.Goals as goal
use Rattle.language.proofs.lang.Language.holds_at.Goals.{After-table_on-table}

left : (a b : Bool) → a ≡ true → (a || b) ≡ a
left true b on = refl
left false b on = absurd (cc)

right : (a b : Bool) → a ≡ false → (a || b) ≡ b
right true b off = absurd (cc)
right false b off = refl

-- the relation's truth value, by the table's
there : (c : After-table_on-table) → get_or (get_or (relations_on c.args.self.now c.args.s) c.args.r []) c.args.place false ≡ (c.args.outside || get_or c.table_on-table.result.now.truth c.args.place false)
there c =
    ap (λ r. get_or r c.args.place false) (sym c.table_on-table.ensures.widened)
    ∙ widened-at c.args.self.now.ranges c.args.self.now.value_count (scope_at c.args.self.now c.args.s) c.table_on-table.result.now.truth c.args.place c.table_on-table.ensures.size c.requires.place
    ∙ ap (λ b. b || get_or c.table_on-table.result.now.truth c.args.place false) (sym c.requires.outside)

pub returns-then-outside : goal.returns-then-outside
returns-then-outside c = sym (there (goal.at.returns-then-outside c).After-table_on-table ∙ left _ _ c.if-outside.true)

pub returns-else-outside : goal.returns-else-outside
returns-else-outside c = c.at.ensures ∙ sym (there (goal.at.returns-else-outside c).After-table_on-table ∙ right _ _ c.if-outside.false)
