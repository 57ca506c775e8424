use Rattle.rel_formula.proofs.Prelude.{◌≡◌, ◌<◌, ℤ, length, take, w64, to_z, of_z, SFits, rules, arith, subst, ap, sym, ◌∙◌, to_z-of_z, length-set, length-take, tuple_at, length-tuple_at, shown_tuple}
use Rattle.rel_formula.proofs.Places.{shown_more}
use Rattle.rel_formula.proofs.tables.shown_at.Goals as goal

pub loop-i-preserved : goal.loop-i-preserved
loop-i-preserved c =
    let lo : ℤ = to_z w64 (of_z w64 c.args.lo) in
    let fits : SFits w64 c.shown_value.result = search rules in
    let v : ℤ = to_z w64 (of_z w64 c.shown_value.result) in
    let same : length (take c.args.arity c.tuple_of-tuple.result) ≡ c.args.arity = ap length c.tuple_of-tuple.ensures.values ∙ length-tuple_at c.args.d c.args.arity c.args.place in
    let low : c.loop-i.i < length c.tuple_of-tuple.result = omega (arith, c.from-i-end.ensures, same, length-take c.args.arity c.tuple_of-tuple.result) in
    let h : c.loop-i.i < length c.loop-i.shown = omega (arith, c.from-i-end.ensures, c.loop-i.invariant.len) in
    record {
      len = length-set c.loop-i.shown c.loop-i.i v ∙ c.loop-i.invariant.len;
      values = shown_more lo c.loop-i.shown c.tuple_of-tuple.result c.loop-i.i v h low c.loop-i.invariant.values (to_z-of_z w64 c.shown_value.result fits ∙ c.shown_value.ensures);
    }

pub returns : goal.returns
returns c =
    let fits : SFits w64 c.args.lo = c.ranges.lo in
    let P : ℤ → Type 0 = λ x. take c.args.arity c.loop-i.shown ≡ shown_tuple x (tuple_at c.args.d c.args.arity c.args.place) in
    let lo : ℤ = to_z w64 (of_z w64 c.args.lo) in
    let all : c.loop-i.i ≡ c.args.arity = omega (arith, c.from-i-end.ensures, c.loop-i-test.false) in
    subst P (to_z-of_z w64 c.args.lo fits)
    (ap (λ k. take k c.loop-i.shown) (sym all) ∙ c.loop-i.invariant.values ∙ ap (λ k. shown_tuple lo (take k c.tuple_of-tuple.result)) all ∙ ap (shown_tuple lo) c.tuple_of-tuple.ensures.values)
