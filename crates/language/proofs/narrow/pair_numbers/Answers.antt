use Rattle.language.proofs.Prelude.{Global, ℕ, ◌+◌, ◌<◌, ◌≤◌, length, map, take, drop, sym, ap, subst, ◌∙◌, arith, All, Contains, widened, truths, chosen_on, List, Relation, get_or, get_or_default, range_in, ValueRange, IsOfKind, take_all, length-map, TruthTable, ◌≡◌}
use Rattle.std.specs.Prelude.{Vec}
use Rattle.std.proofs.lemmas.List.Edits.{length-insert}
use Rattle.rel_table.specs.InOrder.{Above, IsBelow, IsInOrder}
use Rattle.language.specs.PairOrder.{IsRangeMask}
use Rattle.language.proofs.PairOrders.{order_stays, order_more, known_more}
use Rattle.language.proofs.narrow.pair_numbers.Goals.{in-Some+in_ok-insert, in_default}
use Rattle.language.proofs.narrow.pair_numbers.Goals as goal

pub loop-k-preserved : goal.loop-k-preserved
loop-k-preserved c =
    let W = widened c.args.ranges.now c.args.d c.args.scope.now in
    let tables = c.args.tables.now in
    let on = chosen_on c.args.ranges.now c.args.d tables c.args.scope.now in
    let chosen = c.loop-k.chosen.items in
    let table = c.index-tables-k.result in
    let few = c.loop-k.invariant.few in
    elim c.match-place_within.branch [
      | in-Some+in_ok-insert w ↦ (
          let at = w.in-Some.at in
          let within : at ≤ length chosen = subst (λ xs. at ≤ length xs) c.deref.ensures.value w.in-Some.ensures.within in
          let is = ap (λ (v : Vec ℕ Global). v.items) w.chosen-is ∙ w.in_ok-insert.ensures.items in
          record {
            order = order_more c.args.ranges.now c.args.d tables c.args.scope.now chosen c.loop-k.k table c.loop-k-test.true c.index-tables-k.is at _ is within c.loop-k.invariant.order
                (subst (λ xs. All (λ q. Above q (W table.truth)) (take at (on xs))) c.deref.ensures.value w.in-Some.ensures.before)
                (subst (λ xs. IsBelow (W table.truth) (drop at (on xs))) c.deref.ensures.value w.in-Some.ensures.after);
            known = subst (All (λ j. j < length tables)) (sym is) (known_more chosen (length tables) at c.loop-k.k c.loop-k-test.true c.loop-k.invariant.known);
            few = omega (arith, few, ap length is, length-insert chosen at c.loop-k.k within);
          })
      | in_default w ↦ (
          let is = ap (λ (v : Vec ℕ Global). v.items) w.chosen-is in
          record {
            order = subst (λ xs. IsInOrder (take (c.loop-k.k + 1) (map W (truths tables))) (on xs)) (sym is)
                (order_stays c.args.ranges.now c.args.d tables c.args.scope.now chosen c.loop-k.k table c.loop-k-test.true c.index-tables-k.is c.loop-k.invariant.order
                (subst (λ xs. Contains (on xs) (W table.truth)) c.deref.ensures.value (c.place_within.ensures.there w.in_default.is)));
            known = subst (All (λ j. j < length tables)) (sym is) c.loop-k.invariant.known;
            few = omega (arith, few, ap length is);
          })
    ]

pub bounds-ranges-scope : goal.bounds-ranges-scope
bounds-ranges-scope c = c.requires.scope.known 1 0 (omega (arith, c.requires.two))

pub place_within-requires-clause-among : goal.place_within-requires-clause-among
place_within-requires-clause-among c =
    let range : ValueRange = get_or c.args.ranges.now (get_or c.args.scope.now 1 0) (record { first = 0; last = 0 }) in
    let same : range ≡ range_in c.args.ranges.now (get_or c.args.scope.now 1 0) = get_or_default c.args.ranges.now (get_or c.args.scope.now 1 0) _ _ (c.requires.scope.known 1 0 (omega (arith, c.requires.two))) in
    subst (λ (g : ValueRange). IsRangeMask c.args.d g c.range_mask-among.result) same c.range_mask-among.ensures

pub place_within-requires-clause-known : goal.place_within-requires-clause-known
place_within-requires-clause-known c = subst (All (λ j. j < length c.args.tables.now)) (sym c.deref.ensures.value) c.loop-k.invariant.known

pub place_within-requires-clause-table : goal.place_within-requires-clause-table
place_within-requires-clause-table c = subst (IsOfKind 2 c.args.d) (sym c.index-tables-k.is) (c.requires.kinds c.loop-k.k c.index-tables-k.result c.loop-k-test.true)

pub insert-requires : goal.insert-requires
insert-requires c =
    let within : c.in-Some.at ≤ length c.loop-k.chosen.items = subst (λ (xs : List ℕ). c.in-Some.at ≤ length xs) c.deref.ensures.value c.in-Some.ensures.within in
    omega arith

pub overflow_cast-k : goal.overflow_cast-k
overflow_cast-k c = omega (arith, c.loop-k-test.true, c.requires.few)

pub returns-clause-order : goal.returns-clause-order
returns-clause-order c =
    let W = widened c.args.ranges.now c.args.d c.args.scope.now in
    let long = length-map (truths c.args.tables.now) W in
    let tables = length-map c.args.tables.now (λ (t : TruthTable). t.truth) in
    subst (λ (all : List Relation). IsInOrder all (chosen_on c.args.ranges.now c.args.d c.args.tables.now c.args.scope.now c.loop-k.chosen.items))
    (take_all c.loop-k.k (map W (truths c.args.tables.now)) (omega (arith, c.loop-k-test.false, long, tables))) c.loop-k.invariant.order

pub returns-clause-known : goal.returns-clause-known
returns-clause-known c = c.loop-k.invariant.known

pub returns-clause-few : goal.returns-clause-few
returns-clause-few c = omega (arith, c.loop-k.invariant.few, c.loop-k.auto.k-end)
