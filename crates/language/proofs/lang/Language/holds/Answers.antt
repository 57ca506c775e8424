use Rattle.language.proofs.Prelude.{length, ◌≡◌, ◌||◌, not, [], false, sym, ◌∙◌, ap, get_or, scope_at, relations_on, are_in, tuple_at}
use Rattle.language.proofs.Within.{widened-at, holds_else, holds_there}
use Rattle.language.proofs.lang.Language.holds.Goals as goal
use Rattle.language.proofs.lang.Language.holds.Goals.{After-at}

-- the relation's truth value, by the table's
there : (c : After-at) → get_or (get_or (relations_on c.args.self.now c.args.s) c.args.r []) c.args.place false
    ≡ (not (are_in c.args.self.now.ranges (scope_at c.args.self.now c.args.s) (tuple_at c.args.self.now.value_count (length (scope_at c.args.self.now c.args.s)) c.args.place)) || get_or c.table_on.result.now.truth c.args.place false)
there c =
    ap (λ r. get_or r c.args.place false) (sym c.table_on.ensures.widened)
    ∙ widened-at c.args.self.now.ranges c.args.self.now.value_count (scope_at c.args.self.now c.args.s) c.table_on.result.now.truth c.args.place c.table_on.ensures.size c.requires.place

pub returns-then-at : goal.returns-then-at
returns-then-at c = c.if-at.true ∙ sym (there (goal.at.returns-then-at c).After-at ∙ holds_there _ _ (sym c.at.ensures ∙ c.if-at.true))

pub returns-else-at : goal.returns-else-at
returns-else-at c = ap not c.is_inside.ensures ∙ sym (there (goal.at.returns-else-at c).After-at ∙ holds_else _ _ (sym c.at.ensures ∙ c.if-at.false))
