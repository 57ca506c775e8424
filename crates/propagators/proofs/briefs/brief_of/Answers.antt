use Rattle.propagators.proofs.Prelude.{◌≡◌, ◌∙◌, ℕ, List, [], ◌∷◌, ap, sym, refl, length, arith, slice_index_or, is_wanted, IsScope, variable_count, scope_of}
use Rattle.propagators.proofs.briefs.brief_of.Goals as goal

two_of : (xs : List ℕ) → length xs ≡ 2 → xs ≡ slice_index_or xs 0 0 ∷ slice_index_or xs 1 0 ∷ []
two_of [] h = absurd (omega arith)
two_of (x ∷ []) h = absurd (omega arith)
two_of (x ∷ y ∷ []) h = refl
two_of (x ∷ y ∷ z ∷ xs) h = absurd (omega arith)

pub four_places-requires : goal.four_places-requires
four_places-requires c =
    (let known : IsScope (variable_count c.args.lang.now) (scope_of c.args.lang.now c.args.c) = c.requires.lawful.scopes c.args.c.scope [] c.requires.candidate.scope in
    let short = known.short in
    let long = ap length c.requires.scope in
    omega arith)

pub pair_table-table-requires-clause-two : goal.pair_table-table-requires-clause-two
pair_table-table-requires-clause-two c = ap length (sym c.requires.scope) ∙ c.if-scope-ne2.false

pub returns-then-tells_apart-clause-is : goal.returns-then-tells_apart-clause-is
returns-then-tells_apart-clause-is c = record {
  pair = record {
    scope = sym c.requires.scope ∙ two_of c.args.scope.now c.if-scope-ne2.false;
    table = c.pair_table-table.ensures.table;
    pairs = c.pair_table-table.ensures.on.pairs;
    are = c.pair_table-table.ensures.on.are;
    agree = λ tuple long inside. ap (is_wanted c.args.holding) (c.pair_table-table.ensures.on.agrees tuple long inside);
    bounds = c.bounds_of.ensures c.pair_table-table.ensures.on.pairs c.pair_table-table.ensures.on.are;
  };
  apart = c.tells_apart.ensures c.if-tells_apart.true;
}

pub returns-else-tells_apart-clause-is : goal.returns-else-tells_apart-clause-is
returns-else-tells_apart-clause-is c = record {
  scope = sym c.requires.scope ∙ two_of c.args.scope.now c.if-scope-ne2.false;
  table = c.pair_table-table.ensures.table;
  pairs = c.pair_table-table.ensures.on.pairs;
  are = c.pair_table-table.ensures.on.are;
  agree = λ tuple long inside. ap (is_wanted c.args.holding) (c.pair_table-table.ensures.on.agrees tuple long inside);
  bounds = c.bounds_of.ensures c.pair_table-table.ensures.on.pairs c.pair_table-table.ensures.on.are;
}

pub returns-then-tells_apart-clause-on : goal.returns-then-tells_apart-clause-on
returns-then-tells_apart-clause-on c = two_of c.args.scope.now c.if-scope-ne2.false

pub returns-else-tells_apart-clause-on : goal.returns-else-tells_apart-clause-on
returns-else-tells_apart-clause-on c = two_of c.args.scope.now c.if-scope-ne2.false
