use Rattle.query_gen.proofs.Prelude.{◌+◌, ◌<◌, ◌≤◌, length, refl, sym, ◌∙◌, ap, ap₂, arith, candidates, number_of, query_then, is_ask, number_below}
use Rattle.query_gen.proofs.Parts.{parts_are_joined, says_early, says_nothing, searched_true, taken_further}
use Rattle.query_gen.proofs.Scopes.{no_ask}
use Rattle.query_gen.proofs.query.next_query.Goals as goal

pub loop-first-init : goal.loop-first-init
loop-first-init c = record {
  taken = record {
    made = c.follow.ensures.made;
    holds = c.follow.ensures.holds c.args.net.now.list c.args.budget c.requires.marks;
    learned = λ some. absurd (omega arith);
    budgeted = λ some. absurd (omega arith);
    opened = λ none d known below. absurd (omega arith);
  };
  said = sym (says_nothing c.args.lang.now c.args.net.now.list c.args.kept.now.members c.args.budget 0);
  none = refl;
  within = omega arith;
  room = refl;
}

pub returns-in-Ask-clause-is : goal.returns-in-Ask-clause-is
returns-in-Ask-clause-is c =
    let low = c.loop-first-test.true in
    let small = c.min.ensures in
    let all = c.candidates-all.ensures.is in
    let within : c.loop-first.first + c.min.result ≤ length (candidates c.args.lang.now) = omega arith in
    let said =
    c.then-answer.ensures ∙ ap₂ query_then c.loop-first.invariant.said c.search_part-next.ensures.is.answered
    ∙ sym (parts_are_joined c.args.lang.now c.args.net.now.list c.args.kept.now.members c.args.budget 0 c.loop-first.first (c.loop-first.first + c.min.result) (omega arith) (omega arith)) in
    said ∙ says_early c.args.lang.now c.args.net.now.list c.args.kept.now.members c.args.budget (c.loop-first.first + c.min.result) within (sym (ap is_ask said) ∙ ap is_ask c.in-Ask.is)

pub returns-in-Ask-clause-marks : goal.returns-in-Ask-clause-marks
returns-in-Ask-clause-marks c =
    let before = c.loop-first.invariant.taken in
    c.keep_find.ensures.holds c.args.lang.now c.args.kept.now.members c.args.budget
    (c.take_part.ensures.holds c.args.lang.now before.made before.holds
    (searched_true c.args.lang.now c.args.net.now.list c.args.kept.now.members c.args.budget c.loop-first.first _ c.search_part-next.new.marks c.search_part-next.result c.search_part-next.ensures.is))
    c.search_part-next.ensures.is

pub loop-first-preserved : goal.loop-first-preserved
loop-first-preserved c =
    let low = c.loop-first-test.true in
    let small = c.min.ensures in
    record {
      taken = taken_further c.args.lang.now c.args.net.now.list c.args.kept.now.members c.args.budget c.loop-first.first (c.loop-first.first + c.min.result) c.search_part-next.new.marks c.search_part-next.result
          c.loop-first.screen c.take_part.new.self (omega arith) c.loop-first.invariant.taken c.take_part.ensures.taken c.search_part-next.ensures.is;
      said = c.then-answer.ensures ∙ ap₂ query_then c.loop-first.invariant.said c.search_part-next.ensures.is.answered
          ∙ sym (parts_are_joined c.args.lang.now c.args.net.now.list c.args.kept.now.members c.args.budget 0 c.loop-first.first (c.loop-first.first + c.min.result) (omega arith) (omega arith));
      none = no_ask c.then-answer.result c.in_default.not-Ask;
      within = omega arith;
      room = c.search_part-next.ensures.size ∙ c.loop-first.invariant.room;
    }

pub returns-clause-open : goal.returns-clause-open
returns-clause-open c = λ undecided d known.
    let over = c.loop-first-test.false in
    let all = c.candidates-all.ensures.is in
    let low = number_below c.args.lang.now d known in
    let below : number_of c.args.lang.now d < c.loop-first.first = omega arith in
    c.loop-first.invariant.taken.opened (sym (ap is_ask c.loop-first.invariant.said) ∙ c.loop-first.invariant.none) d known below
