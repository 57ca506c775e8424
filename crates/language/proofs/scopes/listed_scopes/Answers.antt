use Rattle.language.proofs.Prelude.{◌∙◌, sym, ℕ, Global, SmallVec, is_ordered}
use Rattle.language.proofs.Lawful.{all_pass}
use Rattle.language.proofs.Listed.{first_is, unordered, many}
use Rattle.language.proofs.scopes.listed_scopes.Goals as goal

pub returns-in-Some-clause-refused : goal.returns-in-Some-clause-refused
returns-in-Some-clause-refused c = λ _ given. unordered given c.args.listed.now c.in-Some.i (sym c.first_unordered.ensures ∙ c.in-Some.is)

pub returns-then-listed-gt-MOST_SCOPES-clause-refused :
    goal.returns-then-listed-gt-MOST_SCOPES-clause-refused
returns-then-listed-gt-MOST_SCOPES-clause-refused c = λ _ given. many given c.args.listed.now (sym c.first_unordered.ensures ∙ c.in_default.is) c.if-listed-gt-MOST_SCOPES.true

pub copies-requires : goal.copies-requires
copies-requires c = all_pass (λ (scope : SmallVec ℕ 4 Global). is_ordered scope.items) c.args.listed.now (sym c.first_unordered.ensures ∙ c.in_default.is)

pub returns-clause-ordered : goal.returns-clause-ordered
returns-clause-ordered c = first_is c.args.listed.now ∙ sym c.first_unordered.ensures ∙ c.in_default.is
