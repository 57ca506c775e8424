use Rattle.language.proofs.Prelude.{◌≡◌, ℕ, ◌+◌, ◌-◌, ◌^◌, ◌≤◌, List, [], ◌∷◌, ◌++◌, length, map, take, get_or, sym, ◌∙◌, ap, subst, arith, All, length-map, length-append, length-take-le, get_or-map, get_or_push, take_more, take_all, All-more, TruthTable, Scope, variables_in, IsScope, given_by, IsClosedOf, scope_in, tables_for, AreChosen, AreAll}
use Rattle.language.proofs.ByScope.{all_more}
use Rattle.language.proofs.SameRanges.{same_ranges, same_length, chosen_same}
use Rattle.language.proofs.numbering.numbers_of.Goals as goal
use Rattle.language.proofs.numbering.numbers_of.Goals.{After-list-tables, then-not-have_same_ranges+in_ok-numbers, else-not-have_same_ranges}

-- the variables of the scope, as a scope
is_scope : (c : After-list-tables) → IsScope (length c.args.ranges.now) c.as_slice-variables.result.now
is_scope c =
    subst (IsScope (length c.args.ranges.now)) (get_or-map variables_in c.args.scopes.now c.loop-scope.scope-index (record { size = 0; variables = [] }) [] c.loop-scope-test.true ∙ sym c.as_slice-variables.ensures.is)
    (c.requires.lawful c.loop-scope.scope-index [] (omega (arith, c.loop-scope-test.true, length-map c.args.scopes.now variables_in)))

pub have_same_ranges-requires-clause-other : goal.have_same_ranges-requires-clause-other
have_same_ranges-requires-clause-other c = (is_scope (goal.at.have_same_ranges-requires-clause-other c).After-list-tables).known

pub numbers_on-requires-clause-scope : goal.numbers_on-requires-clause-scope
numbers_on-requires-clause-scope c = is_scope (goal.at.numbers_on-requires-clause-scope c).After-list-tables

pub numbers_on-requires-clause-fits : goal.numbers_on-requires-clause-fits
numbers_on-requires-clause-fits c =
    subst (λ (scope : List ℕ). c.args.d ^ length scope ≤ 65536)
    (get_or-map variables_in c.args.scopes.now c.loop-scope.scope-index (record { size = 0; variables = [] }) [] c.loop-scope-test.true ∙ sym c.as_slice-variables.ensures.is)
    (c.requires.fits c.loop-scope.scope-index [] (omega (arith, c.loop-scope-test.true, length-map c.args.scopes.now variables_in)))

pub loop-scope-preserved : goal.loop-scope-preserved
loop-scope-preserved c =
    let i : ℕ = c.loop-scope.scope-index in
    let given = map given_by c.args.rels.now in
    let scope : Scope = scope_in c.args.scopes.now i in
    let tables : c.list-tables.result.now ≡ tables_for c.args.relations.now scope = c.list-tables.ensures ∙ ap (λ (n : ℕ). get_or c.args.relations.now (n - 1) []) c.as_slice-variables.ensures.size in
    let here = is_scope (goal.at.loop-scope-preserved c).After-list-tables in
    let numbers : List ℕ = c.if-not-have_same_ranges.numbers.items in
    let found : AreChosen c.args.ranges.now c.args.d given c.list-tables.result.now c.as_slice-variables.result.now numbers = elim c.if-not-have_same_ranges.branch [
      | then-not-have_same_ranges+in_ok-numbers w ↦
          subst (AreChosen c.args.ranges.now c.args.d given c.list-tables.result.now c.as_slice-variables.result.now) (sym (ap (λ v. v.items) w.numbers-is)) w.in_ok-numbers.ensures
      | else-not-have_same_ranges w ↦
          let same = same_ranges c.args.ranges.now c.loop-scope.before.now c.as_slice-variables.result.now (sym c.have_same_ranges.ensures ∙ w.if-not-have_same_ranges.false) in
          let long : length c.loop-scope.before.now ≡ length c.as_slice-variables.result.now = same_length c.args.ranges.now c.args.d c.loop-scope.before.now c.as_slice-variables.result.now same in
          let some = here.not_empty in
          subst (AreChosen c.args.ranges.now c.args.d given c.list-tables.result.now c.as_slice-variables.result.now) (sym (ap (λ v. v.items) w.numbers-is))
          (subst (λ (ts : List TruthTable). AreChosen c.args.ranges.now c.args.d given ts c.as_slice-variables.result.now c.loop-scope.numbers.items)
          (ap (λ (n : ℕ). get_or c.args.relations.now (n - 1) []) long ∙ sym c.list-tables.ensures)
          (chosen_same c.args.ranges.now c.args.d c.loop-scope.before.now c.as_slice-variables.result.now same given (get_or c.args.relations.now (length c.loop-scope.before.now - 1) []) c.loop-scope.numbers.items
          (c.loop-scope.invariant.chosen (omega (arith, some, long)))))
    ] in
    let chosen : AreChosen c.args.ranges.now c.args.d given (tables_for c.args.relations.now scope) (variables_in scope) numbers =
    subst (λ (ts : List TruthTable). AreChosen c.args.ranges.now c.args.d given ts (variables_in scope) numbers) tables
    (subst (λ (vs : List ℕ). AreChosen c.args.ranges.now c.args.d given c.list-tables.result.now vs numbers) c.as_slice-variables.ensures.is found) in
    let now : length (take i c.args.scopes.now) ≡ i = length-take-le i c.args.scopes.now (let low = c.loop-scope-test.true in omega arith) in
    let on_is : c.extend_from_slice.new.self.items ≡ c.loop-scope.on.items ++ numbers =
    c.in_ok-extend_from_slice.ensures.items ∙ ap (λ xs. c.loop-scope.on.items ++ xs) c.deref.ensures.value in
    let long : length c.extend_from_slice.new.self.items ≡ length c.loop-scope.on.items + length numbers = ap length on_is ∙ length-append c.loop-scope.on.items numbers in
    let starts_are : c.push-in-loop-scope.new.self.items ≡ c.loop-scope.starts.items ++ (length c.loop-scope.on.items + length numbers) ∷ [] =
    c.in_ok-push-2.ensures.items ∙ ap (λ n. c.loop-scope.starts.items ++ n ∷ []) ((let is : c.len.result ≡ length c.extend_from_slice.new.self.items = omega arith in is) ∙ long) in
    let all = c.loop-scope.invariant.all in
    let low = c.loop-scope.invariant.low in
    let few = chosen.few in
    record {
      all = subst (λ (scopes : List Scope). AreAll c.args.ranges.now c.args.d given c.args.relations.now scopes c.extend_from_slice.new.self.items c.push-in-loop-scope.new.self.items)
          (sym (take_more c.args.scopes.now i (record { size = 0; variables = [] }) c.loop-scope-test.true))
          (subst (λ (on : List ℕ). AreAll c.args.ranges.now c.args.d given c.args.relations.now (take i c.args.scopes.now ++ scope ∷ []) on c.push-in-loop-scope.new.self.items) (sym on_is)
          (subst (AreAll c.args.ranges.now c.args.d given c.args.relations.now (take i c.args.scopes.now ++ scope ∷ []) (c.loop-scope.on.items ++ numbers)) (sym starts_are)
          (all_more c.args.ranges.now c.args.d given c.args.relations.now (take i c.args.scopes.now) scope c.loop-scope.on.items numbers c.loop-scope.starts.items all
          (ap (λ n. get_or c.loop-scope.starts.items n 0) now ∙ c.loop-scope.invariant.last) chosen)));
      last = ap (λ xs. get_or xs (i + 1) 0) starts_are
          ∙ get_or_push c.loop-scope.starts.items (length c.loop-scope.on.items + length numbers) 0 (i + 1) (all.parts.long ∙ ap (λ n. n + 1) now) ∙ sym long;
      low = omega (arith, low, few, long);
      known = here.known;
      chosen = λ some. subst (λ (ts : List TruthTable). AreChosen c.args.ranges.now c.args.d given ts c.as_slice-variables.result.now numbers) c.list-tables.ensures found;
      sized = All-more (λ (scope : Scope). length (variables_in scope) ≡ scope.size) c.args.scopes.now i (record { size = 0; variables = [] }) c.loop-scope-test.true
          c.loop-scope.invariant.sized (ap length (sym c.as_slice-variables.ensures.is) ∙ c.as_slice-variables.ensures.size);
    }

pub returns-clause-all : goal.returns-clause-all
returns-clause-all c =
    subst (λ (scopes : List Scope). AreAll c.args.ranges.now c.args.d (map given_by c.args.rels.now) c.args.relations.now scopes c.loop-scope.on.items c.loop-scope.starts.items)
    (take_all c.loop-scope.scope-index c.args.scopes.now c.loop-scope-test.false) c.loop-scope.invariant.all

pub returns-clause-sized : goal.returns-clause-sized
returns-clause-sized c =
    subst (All (λ (scope : Scope). length (variables_in scope) ≡ scope.size)) (take_all c.loop-scope.scope-index c.args.scopes.now c.loop-scope-test.false) c.loop-scope.invariant.sized

pub list-tables-requires-clause-some : goal.list-tables-requires-clause-some
list-tables-requires-clause-some c = omega (arith, c.as_slice-variables.ensures.size, (c.requires.sized c.loop-scope.scope-index (record { size = 0; variables = [] }) c.loop-scope-test.true).0)

pub list-tables-requires-clause-short : goal.list-tables-requires-clause-short
list-tables-requires-clause-short c = omega (arith, c.as_slice-variables.ensures.size, (c.requires.sized c.loop-scope.scope-index (record { size = 0; variables = [] }) c.loop-scope-test.true).1)

pub numbers_on-requires-clause-closed : goal.numbers_on-requires-clause-closed
numbers_on-requires-clause-closed c =
    let sized = c.requires.sized c.loop-scope.scope-index (record { size = 0; variables = [] }) c.loop-scope-test.true in
    subst (IsClosedOf c.args.d (length c.as_slice-variables.result.now) (map given_by c.args.rels.now)) (sym c.list-tables.ensures)
    (c.requires.closed (length c.as_slice-variables.result.now) (omega (arith, c.as_slice-variables.ensures.size, sized.0)) (omega (arith, c.as_slice-variables.ensures.size, sized.1)))
