use Rattle.bias_store.proofs.Prelude.{◌≡◌, ◌+◌, length, get_or, ap, sym, subst, ◌∙◌, arith, IsRow}
use Rattle.bias_store.proofs.Rows.{row_none, row_alone, row_on}
use Rattle.bias_store.proofs.tables.row_of.Goals as goal

pub returns-in-len2-scope-clause-row : goal.returns-in-len2-scope-clause-row
returns-in-len2-scope-clause-row c =
    let l = c.args.lang.now in
    let first = c.args.first.now in
    let two : length c.scope.result.now ≡ 2 = omega (arith, c.in-len2.len_at_least, c.in-len2.len_below) in
    subst (IsRow l first c.args.s) (sym c.max.ensures)
    (row_on l first c.args.s c.args.end (ap length (sym c.scope.ensures.is) ∙ two)
    (λ none. c.if-first-from.false (ap (λ i. get_or first i 0) c.from.ensures ∙ none))
    (ap (λ xs. get_or xs 0 0) (sym c.scope-2.ensures.is) ∙ c.if-other-variable.true ∙ ap (λ xs. get_or xs 0 0) c.scope.ensures.is)
    (ap (λ xs. get_or xs 1 0) (sym c.scope-2.ensures.is) ∙ c.if-third-second.true ∙ ap (λ xs. get_or xs 1 0 + 1) c.scope.ensures.is)
    (ap (λ i. get_or first i 0) (sym c.from-else-next-scopes.ensures) ∙ c.if-first-from-2.false ∙ ap (λ i. get_or first i 0) c.from-else-next-scopes-2.ensures)
    c.requires.row)

pub returns-in_default-clause-row : goal.returns-in_default-clause-row
returns-in_default-clause-row c = row_none c.args.lang.now c.args.first.now c.args.s

pub returns-in_default-2-clause-row : goal.returns-in_default-2-clause-row
returns-in_default-2-clause-row c = row_none c.args.lang.now c.args.first.now c.args.s

pub returns-then-first-from-clause-row : goal.returns-then-first-from-clause-row
returns-then-first-from-clause-row c = row_none c.args.lang.now c.args.first.now c.args.s

pub returns-then-next-scopes-clause-row : goal.returns-then-next-scopes-clause-row
returns-then-next-scopes-clause-row c =
    let l = c.args.lang.now in
    let first = c.args.first.now in
    let two : length c.scope.result.now ≡ 2 = omega (arith, c.in-len2.len_at_least, c.in-len2.len_below) in
    row_alone l first c.args.s (ap length (sym c.scope.ensures.is) ∙ two) (λ none. c.if-first-from.false (ap (λ i. get_or first i 0) c.from.ensures ∙ none))

pub returns-in_default-scope-clause-row : goal.returns-in_default-scope-clause-row
returns-in_default-scope-clause-row c =
    let l = c.args.lang.now in
    let first = c.args.first.now in
    let two : length c.scope.result.now ≡ 2 = omega (arith, c.in-len2.len_at_least, c.in-len2.len_below) in
    row_alone l first c.args.s (ap length (sym c.scope.ensures.is) ∙ two) (λ none. c.if-first-from.false (ap (λ i. get_or first i 0) c.from.ensures ∙ none))

pub returns-in_default-scope-2-clause-row : goal.returns-in_default-scope-2-clause-row
returns-in_default-scope-2-clause-row c =
    let l = c.args.lang.now in
    let first = c.args.first.now in
    let two : length c.scope.result.now ≡ 2 = omega (arith, c.in-len2.len_at_least, c.in-len2.len_below) in
    row_alone l first c.args.s (ap length (sym c.scope.ensures.is) ∙ two) (λ none. c.if-first-from.false (ap (λ i. get_or first i 0) c.from.ensures ∙ none))

pub returns-in_default-scope-3-clause-row : goal.returns-in_default-scope-3-clause-row
returns-in_default-scope-3-clause-row c =
    let l = c.args.lang.now in
    let first = c.args.first.now in
    let two : length c.scope.result.now ≡ 2 = omega (arith, c.in-len2.len_at_least, c.in-len2.len_below) in
    row_alone l first c.args.s (ap length (sym c.scope.ensures.is) ∙ two) (λ none. c.if-first-from.false (ap (λ i. get_or first i 0) c.from.ensures ∙ none))

pub returns-in_default-scope-4-clause-row : goal.returns-in_default-scope-4-clause-row
returns-in_default-scope-4-clause-row c =
    let l = c.args.lang.now in
    let first = c.args.first.now in
    let two : length c.scope.result.now ≡ 2 = omega (arith, c.in-len2.len_at_least, c.in-len2.len_below) in
    row_alone l first c.args.s (ap length (sym c.scope.ensures.is) ∙ two) (λ none. c.if-first-from.false (ap (λ i. get_or first i 0) c.from.ensures ∙ none))
