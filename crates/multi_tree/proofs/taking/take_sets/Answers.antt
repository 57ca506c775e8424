use Rattle.multi_tree.proofs.Prelude.{◌≡◌, ◌-◌, ◌<◌, true, false, [], length, take, refl, sym, ◌∙◌, ap, subst, arith, not-true, scope_of, next_turn}
use Rattle.multi_tree.proofs.Turning.{none_waits, cut_off, splits, asks, drops, taken, some_asked, nothing_struck, none_struck, struck_is}
use Rattle.multi_tree.proofs.Barren.{below_barren, nothing_barren, split_barren}
use Rattle.multi_tree.proofs.taking.take_sets.Goals as goal
use Rattle.std.proofs.lemmas.Bool.{not-false}

pub returns-in_default-clause-turn : goal.returns-in_default-clause-turn
returns-in_default-clause-turn c =
    none_waits c.args.lang.now c.args.net.now.list c.args.kept.now.members c.args.example.now c.loop-left.left c.loop-left.waiting c.in_default.ensures.empty ∙ c.loop-left.invariant.turn

pub loop-left-preserved-in-Some-listed_within : goal.loop-left-preserved-in-Some-listed_within
loop-left-preserved-in-Some-listed_within c = record {
  turn = (
      let l = c.args.lang.now in
      let network = c.args.net.now.list in
      let kept = c.args.kept.now.members in
      let e = c.args.example.now in
      ap (next_turn l network kept e (c.loop-left.left - 1)) c.split.ensures
      ∙ sym (splits l network kept e (c.loop-left.left - 1) c.in-Some.set c.pop.new.self c.in-Some-listed_within.c (sym c.listed_within.ensures.is ∙ c.in-Some-listed_within.is))
      ∙ taken l network kept e c.loop-left.left c.in-Some.set c.pop.new.self c.loop-left.waiting c.loop-left-test.true c.in-Some.ensures.top
      ∙ c.loop-left.invariant.turn);
  struck = c.loop-left.invariant.struck;
  barren = split_barren (take c.loop-left.struck.count c.loop-left.room) c.loop-left.struck.barren c.in-Some.set c.pop.new.self c.is_barren-is_barren.result c.barren_from.result c.len-below.result
      c.loop-left.waiting c.split.new.waiting (scope_of c.args.lang.now c.in-Some-listed_within.c) c.len-below.ensures.count c.len-below.ensures.few c.barren_from.ensures c.in-Some.ensures.top c.loop-left.invariant.barren
      (c.n-variables.ensures.lawful.scopes c.in-Some-listed_within.c.scope [] c.in-Some-listed_within.ensures.known.scope).short
      (λ on. not-true _ (sym c.is_barren-is_barren.ensures ∙ on)) c.split.ensures;
  few = c.loop-left.invariant.few;
}

pub returns-then-is_struck_within-clause-turn : goal.returns-then-is_struck_within-clause-turn
returns-then-is_struck_within-clause-turn c =
    let l = c.args.lang.now in
    let network = c.args.net.now.list in
    let kept = c.args.kept.now.members in
    let e = c.args.example.now in
    sym (asks l network kept e (c.loop-left.left - 1) c.in-Some.set c.pop.new.self (sym c.listed_within.ensures.is ∙ c.in-None.is)
    (sym c.is_struck_within.ensures ∙ c.if-is_struck_within.true))
    ∙ taken l network kept e c.loop-left.left c.in-Some.set c.pop.new.self c.loop-left.waiting c.loop-left-test.true c.in-Some.ensures.top
    ∙ c.loop-left.invariant.turn

pub returns-then-is_struck_within-clause-some : goal.returns-then-is_struck_within-clause-some
returns-then-is_struck_within-clause-some c = λ set same.
    let is : c.in-Some.set ≡ set = cc in
    subst (λ s. 0 < length s) is
    (some_asked c.args.lang.now c.n-variables.ensures.lawful c.args.kept.now.members c.requires.made.known c.args.example.now c.in-Some.set
    (sym c.is_struck_within.ensures ∙ c.if-is_struck_within.true))

pub loop-left-preserved : goal.loop-left-preserved
loop-left-preserved c = record {
  turn = (
      let l = c.args.lang.now in
      let network = c.args.net.now.list in
      let kept = c.args.kept.now.members in
      let e = c.args.example.now in
      sym (drops l network kept e (c.loop-left.left - 1) c.in-Some.set c.pop.new.self (sym c.listed_within.ensures.is ∙ c.in-None.is)
      (sym c.is_struck_within.ensures ∙ c.if-is_struck_within.false))
      ∙ taken l network kept e c.loop-left.left c.in-Some.set c.pop.new.self c.loop-left.waiting c.loop-left-test.true c.in-Some.ensures.top
      ∙ c.loop-left.invariant.turn);
  struck = c.list_once-struck.ensures.struck;
  barren = c.list_once-struck.ensures.barren c.pop.new.self c.len-below.ensures.few
      (below_barren (take c.loop-left.struck.count c.loop-left.room) c.loop-left.struck.barren c.in-Some.set c.pop.new.self c.is_barren-is_barren.result c.barren_from.result c.len-below.result
      c.loop-left.waiting c.len-below.ensures.count c.len-below.ensures.few c.barren_from.ensures c.in-Some.ensures.top c.loop-left.invariant.barren);
  few = c.list_once-struck.ensures.few;
}

pub returns-then-is_empty-clause-turn : goal.returns-then-is_empty-clause-turn
returns-then-is_empty-clause-turn c =
    none_waits c.args.lang.now c.args.net.now.list c.args.kept.now.members c.args.example.now c.loop-left.left c.loop-left.waiting (c.is_empty.ensures.0 c.if-is_empty.true) ∙ c.loop-left.invariant.turn

pub returns-else-is_empty-clause-turn : goal.returns-else-is_empty-clause-turn
returns-else-is_empty-clause-turn c =
    cut_off c.args.lang.now c.args.net.now.list c.args.kept.now.members c.args.example.now c.loop-left.left c.loop-left.waiting (omega arith)
    (λ none. let some : true ≡ false = sym (c.is_empty.ensures.1 none) ∙ c.if-is_empty.false in absurd (let bad : ⊥ = cc in bad)) ∙ c.loop-left.invariant.turn

pub loop-left-init : goal.loop-left-init
loop-left-init c = record {
  turn = refl;
  struck = nothing_struck c.args.lang.now c.args.kept.now.members c.args.example.now;
  barren = nothing_barren 1024 c.args.waiting.now;
  few = omega arith;
}

pub is_struck_within-requires-clause-struck : goal.is_struck_within-requires-clause-struck
is_struck_within-requires-clause-struck c = λ off.
    sym (struck_is c.args.lang.now c.args.kept.now.members c.args.example.now c.in-Some.set) ∙ c.loop-left.invariant.struck.some c.in-Some.set (not-false _ (sym c.is_barren-is_barren.ensures ∙ off))

pub is_struck_within-requires-clause-quiet : goal.is_struck_within-requires-clause-quiet
is_struck_within-requires-clause-quiet c = λ on all.
    none_struck c.args.lang.now c.args.kept.now.members c.args.example.now (take c.loop-left.struck.count c.loop-left.room) c.loop-left.struck.are_all c.in-Some.set c.loop-left.invariant.struck all
    (not-true _ (sym c.is_barren-is_barren.ensures ∙ on))
