use Rattle.language.proofs.Prelude.{◌≡◌, ◌<◌, ℕ, ◌+◌, ◌-◌, List, [], length, get_or, refl, sym, ◌∙◌, ap, subst, arith, get_or_read, get_or-map, get_or_default, length-map, Relation, TruthTable, AgreeWithin, Language, scope_at, relations_on, truths, pairs_in, ArePairTables}
use Rattle.language.proofs.Within.{agrees_within}
use Rattle.language.proofs.Fields.{IsTableAt, table_here, lawful_here, known_here}
use Rattle.language.proofs.PairMasking.{pairs_same}
use Rattle.language.proofs.lang.Language.pair_table.Goals as goal
use Rattle.language.proofs.lang.Language.pair_table.Goals.{After-index}

at : (c : After-index) → IsTableAt c.self.inside c.args.self.now c.args.s c.args.r (get_or c.self.inside.relations 1 [])
at c =
    table_here c.self.inside c.self.invariant c.args.self.now c.self.view_is c.args.s c.args.r (scope_at c.args.self.now c.args.s) (get_or c.self.inside.relations 1 []) c.requires.scope c.requires.rel refl
    ((lawful_here c.self.inside c.self.invariant c.args.self.now c.self.view_is).scopes c.args.s [] c.requires.scope) (ap (λ (n : ℕ). get_or c.self.inside.relations (n - 1) []) (sym c.requires.two))

first_is : (c : After-index) (first : ℕ) → first ≡ get_or c.self.inside.numbers.items c.args.s first → first ≡ get_or c.self.inside.numbers.items c.args.s 0
first_is c first is = get_or_read c.self.inside.numbers.items c.args.s first (at c).start is 0

number_is : (c : After-index) (first number : ℕ) → first ≡ get_or c.self.inside.numbers.items c.args.s first → number ≡ get_or c.self.inside.on.items (first + c.args.r) number →
    number ≡ get_or c.self.inside.on.items (get_or c.self.inside.numbers.items c.args.s 0 + c.args.r) 0
number_is c first number is read =
    let start = first_is c first is in
    get_or_read c.self.inside.on.items (first + c.args.r) number (omega (arith, (at c).place, start)) read 0 ∙ ap (λ (n : ℕ). get_or c.self.inside.on.items (n + c.args.r) 0) start

-- the number is below that of the tables
below : (c : After-index) (number : ℕ) → number ≡ get_or c.self.inside.on.items (get_or c.self.inside.numbers.items c.args.s 0 + c.args.r) 0 → number < length (pairs_in c.self.inside)
below c number is = omega (arith, is, (at c).number, length-map (get_or c.self.inside.relations 1 []) (λ (t : TruthTable). t.truth))

agrees : (c : After-index) (number : ℕ) → number ≡ get_or c.self.inside.on.items (get_or c.self.inside.numbers.items c.args.s 0 + c.args.r) 0 →
    AgreeWithin c.args.self.now.ranges c.args.self.now.value_count (scope_at c.args.self.now c.args.s) (get_or (pairs_in c.self.inside) number []) (get_or (relations_on c.args.self.now c.args.s) c.args.r [])
agrees c number is =
    let l : Language = c.args.self.now in
    let scope : List ℕ = scope_at l c.args.s in
    let tables : List TruthTable = get_or c.self.inside.relations 1 [] in
    let lawful = lawful_here c.self.inside c.self.invariant l c.self.view_is in
    let low : number < length tables = omega (arith, is, (at c).number) in
    let none : TruthTable = record { arity = 2; value_count = l.value_count; truth = [] } in
    let table : TruthTable = get_or tables number none in
    let there : table ≡ get_or tables (get_or c.self.inside.on.items (get_or c.self.inside.numbers.items c.args.s 0 + c.args.r) 0) table =
    get_or_default tables number none table low ∙ ap (λ (n : ℕ). get_or tables n table) is in
    let truth : get_or (truths tables) number [] ≡ table.truth = get_or-map (λ (t : TruthTable). t.truth) tables number none [] low in
    subst (λ (r : Relation). AgreeWithin l.ranges l.value_count scope r (get_or (relations_on l c.args.s) c.args.r [])) (sym truth)
    (subst (AgreeWithin l.ranges l.value_count scope table.truth) ((at c).truth table there)
    (agrees_within l.ranges l.value_count lawful.ranges scope table.truth (known_here l lawful scope (lawful.scopes c.args.s [] c.requires.scope)) ((at c).kind table there).size))

pub index-requires-2 : goal.index-requires-2
index-requires-2 c = let here = (goal.at.index-requires-2 c).After-index in omega (arith, (at here).place, first_is here c.index.result.now c.index.ensures)

pub returns-clause-on : goal.returns-clause-on
returns-clause-on c =
    let here = (goal.at.returns-clause-on c).After-index in
    let is = number_is here c.index.result.now c.index-2.result.now c.index.ensures c.index-2.ensures in
    record {
      pairs = pairs_in c.self.inside;
      are = subst (λ (x : Language). ArePairTables x (pairs_in c.self.inside)) c.self.view_is c.self.invariant.pairs;
      agrees = agrees here c.index-2.result.now is;
    }

pub returns-clause-table : goal.returns-clause-table
returns-clause-table c pairs are =
    let here = (goal.at.returns-clause-table c).After-index in
    let is = number_is here c.index.result.now c.index-2.result.now c.index.ensures c.index-2.ensures in
    subst (λ (ps : List Relation). c.index-2.result.now < length ps) (sym (pairs_same c.self.inside c.self.invariant c.args.self.now c.self.view_is pairs are)) (below here c.index-2.result.now is)
