use Rattle.bias_store.proofs.Prelude.{◌≡◌, ℕ, List, true, length, get_or, sym, subst, arith, ap, ◌∙◌}
use Rattle.std.proofs.Common.{◌/◌, ◌%◌}
use Rattle.language.specs.Ranges.{is_in, range_in}
use Rattle.bias_store.proofs.Likeness.{whole_inside, pair_inside}
use Rattle.bias_store.proofs.tables.is_inside.Goals as goal

pub returns-then-is_whole : goal.returns-then-is_whole
returns-then-is_whole c = λ yes. whole_inside c.args.lang.now c.d.ensures.lawful c.args.s c.args.place (sym c.is_whole.ensures ∙ c.if-is_whole.true) c.requires.place

pub returns-then-is_value : goal.returns-then-is_value
returns-then-is_value c = λ yes.
    let l = c.args.lang.now in
    let two : length c.scope.result.now ≡ 2 = omega (arith, c.in-len2.len_at_least, c.in-len2.len_below) in
    pair_inside l _ c.args.place c.from-d.result c.d.ensures.lawful.some_value (ap length (sym c.scope.ensures.is) ∙ two) (c.from-d.ensures ∙ c.d.ensures.is) c.requires.place
    (subst (λ (xs : List ℕ). is_in (range_in l.ranges (get_or xs 0 0)) (c.args.place / c.from-d.result) ≡ true) c.scope.ensures.is (sym c.is_value.ensures ∙ c.if-is_value.true))
    (subst (λ (xs : List ℕ). is_in (range_in l.ranges (get_or xs 1 0)) (c.args.place % c.from-d.result) ≡ true) c.scope.ensures.is (sym c.is_value-then-is_value.ensures ∙ yes))
