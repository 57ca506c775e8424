use Rattle.language.proofs.Prelude.{◌≡◌, ℕ, ◌+◌, List, [], sym, ◌∙◌, ap, subst, arith, get_or, get_or_read, AgreeWithin, Language, scope_at}
use Rattle.language.proofs.Within.{agrees_within, widened_where_whole, wholes_from}
use Rattle.language.proofs.Fields.{IsTableAt, table_here, lawful_here, known_here}
use Rattle.language.proofs.lang.Language.table_on.Goals as goal
use Rattle.language.proofs.lang.Language.table_on.Goals.{After-list-tables}

at : (c : After-list-tables) → IsTableAt c.self.inside c.args.self.now c.args.s c.args.r c.list-tables.result.now
at c =
    table_here c.self.inside c.self.invariant c.args.self.now c.self.view_is c.args.s c.args.r c.scope.result.now c.list-tables.result.now c.requires.scope c.requires.rel c.scope.ensures.is c.scope.ensures.scope c.list-tables.ensures

first_is : (c : After-list-tables) (first : ℕ) → first ≡ get_or c.self.inside.numbers.items c.args.s first → first ≡ get_or c.self.inside.numbers.items c.args.s 0
first_is c first is = get_or_read c.self.inside.numbers.items c.args.s first (at c).start is 0

number_is : (c : After-list-tables) (first number : ℕ) → first ≡ get_or c.self.inside.numbers.items c.args.s first → number ≡ get_or c.self.inside.on.items (first + c.args.r) number →
    number ≡ get_or c.self.inside.on.items (get_or c.self.inside.numbers.items c.args.s 0 + c.args.r) 0
number_is c first number is read =
    let start = first_is c first is in
    get_or_read c.self.inside.on.items (first + c.args.r) number (omega (arith, (at c).place, start)) read 0 ∙ ap (λ (n : ℕ). get_or c.self.inside.on.items (n + c.args.r) 0) start

pub index-number-requires : goal.index-number-requires
index-number-requires c = let here = (goal.at.index-number-requires c).After-list-tables in omega (arith, (at here).place, first_is here c.index.result.now c.index.ensures)

pub bounds-tables-number : goal.bounds-tables-number
bounds-tables-number c =
    let here = (goal.at.bounds-tables-number c).After-list-tables in
    omega (arith, (at here).number, number_is here c.index.result.now c.index-number.result.now c.index.ensures c.index-number.ensures)

pub returns-clause-widened : goal.returns-clause-widened
returns-clause-widened c =
    let here = (goal.at.returns-clause-widened c).After-list-tables in
    (at here).truth c.index-tables-number.result (c.index-tables-number.is ∙ ap (λ (n : ℕ). get_or c.list-tables.result.now n c.index-tables-number.result) (number_is here c.index.result.now c.index-number.result.now c.index.ensures c.index-number.ensures))

pub returns-clause-arity : goal.returns-clause-arity
returns-clause-arity c =
    let here = (goal.at.returns-clause-arity c).After-list-tables in
    ((at here).kind c.index-tables-number.result (c.index-tables-number.is ∙ ap (λ (n : ℕ). get_or c.list-tables.result.now n c.index-tables-number.result) (number_is here c.index.result.now c.index-number.result.now c.index.ensures c.index-number.ensures))).long

pub returns-clause-values : goal.returns-clause-values
returns-clause-values c =
    let here = (goal.at.returns-clause-values c).After-list-tables in
    ((at here).kind c.index-tables-number.result (c.index-tables-number.is ∙ ap (λ (n : ℕ). get_or c.list-tables.result.now n c.index-tables-number.result) (number_is here c.index.result.now c.index-number.result.now c.index.ensures c.index-number.ensures))).values

pub returns-clause-size : goal.returns-clause-size
returns-clause-size c =
    let here = (goal.at.returns-clause-size c).After-list-tables in
    ((at here).kind c.index-tables-number.result (c.index-tables-number.is ∙ ap (λ (n : ℕ). get_or c.list-tables.result.now n c.index-tables-number.result) (number_is here c.index.result.now c.index-number.result.now c.index.ensures c.index-number.ensures))).size

pub returns-clause-agrees : goal.returns-clause-agrees
returns-clause-agrees c =
    let here = (goal.at.returns-clause-agrees c).After-list-tables in
    let l : Language = c.args.self.now in
    let scope : List ℕ = scope_at l c.args.s in
    let lawful = lawful_here c.self.inside c.self.invariant l c.self.view_is in
    let is = c.index-tables-number.is ∙ ap (λ (n : ℕ). get_or c.list-tables.result.now n c.index-tables-number.result) (number_is here c.index.result.now c.index-number.result.now c.index.ensures c.index-number.ensures) in
    subst (AgreeWithin l.ranges l.value_count scope c.index-tables-number.result.truth) ((at here).truth c.index-tables-number.result is)
    (agrees_within l.ranges l.value_count lawful.ranges scope c.index-tables-number.result.truth (known_here l lawful scope (lawful.scopes c.args.s [] c.requires.scope)) ((at here).kind c.index-tables-number.result is).size)

pub returns-clause-whole : goal.returns-clause-whole
returns-clause-whole c whole =
    let here = (goal.at.returns-clause-whole c).After-list-tables in
    let l : Language = c.args.self.now in
    let scope : List ℕ = scope_at l c.args.s in
    let lawful = lawful_here c.self.inside c.self.invariant l c.self.view_is in
    let is = c.index-tables-number.is ∙ ap (λ (n : ℕ). get_or c.list-tables.result.now n c.index-tables-number.result) (number_is here c.index.result.now c.index-number.result.now c.index.ensures c.index-number.ensures) in
    sym (widened_where_whole l.ranges l.value_count scope c.index-tables-number.result.truth (wholes_from l.ranges l.value_count scope lawful.some_value whole) ((at here).kind c.index-tables-number.result is).size)
    ∙ (at here).truth c.index-tables-number.result is
