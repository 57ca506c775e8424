use Rattle.query_gen.proofs.Prelude.{◌+◌, refl, ap, arith, reach, scope_start}
use Rattle.query_gen.proofs.Parts.{searched_none}
use Rattle.query_gen.proofs.Scopes.{from_start, start_next, start_rises, no_ask, rising_scopes, scope_inside, scopes_passed, moved, blank}
use Rattle.query_gen.proofs.part.search_part.Goals as goal

pub first_kept-scope-requires-clause-rising : goal.first_kept-scope-requires-clause-rising
first_kept-scope-requires-clause-rising c =
    let rising = c.requires.part.0 in
    rising_scopes c.args.lang.now c.args.first c.args.end c.candidate.result c.candidate-2.result c.from-start.result c.from-last.result c.from-start.ensures c.from-last.ensures
    c.candidate.ensures.number c.candidate-2.ensures.number c.candidate.ensures.candidate c.candidate-2.ensures.candidate (let some = c.if-first-end.false in omega arith)

pub loop-scope-init : goal.loop-scope-init
loop-scope-init c =
    let number = c.candidate.ensures.number in
    let here = from_start c.args.lang.now c.candidate.result in
    let same = ap (scope_start c.args.lang.now) c.from-start.ensures in
    let rising = c.requires.part.0 in
    let some = c.if-first-end.false in
    let before = moved c.args.lang.now c.args.net.now.list c.args.kept.now.members c.args.budget c.args.first c.args.first (reach c.args.first c.args.end (scope_start c.args.lang.now c.from-start.result)) c.fill.new.self _
    (omega arith) (searched_none c.args.lang.now c.args.net.now.list c.args.kept.now.members c.args.budget c.args.first c.fill.new.self _ refl (blank c.fill.new.self _ (c.fill.ensures.after (λ y same. same)))) in
    record {
      searched = scopes_passed c.args.lang.now c.args.net.now.list c.args.kept.now.members c.args.budget c.args.first c.args.end c.from-start.result c.first_kept-scope.result c.fill.new.self _
          c.first_kept-scope.ensures.from
          (λ k from below.
          scope_inside c.args.lang.now c.args.first c.args.end k c.candidate.result c.candidate-2.result c.candidate.ensures.candidate c.candidate-2.ensures.candidate
          c.candidate.ensures.number c.candidate-2.ensures.number (omega arith) (let start = c.from-start.ensures in omega arith) (let last = c.from-last.ensures in let end = c.first_kept-scope.ensures.within in omega arith))
          c.first_kept-scope.ensures.none before;
      none = refl;
      size = refl;
      from = c.first_kept-scope.ensures.from;
      within = c.first_kept-scope.ensures.within;
    }

pub search_scope-requires-clause-scope : goal.search_scope-requires-clause-scope
search_scope-requires-clause-scope c =
    scope_inside c.args.lang.now c.args.first c.args.end c.loop-scope.scope c.candidate.result c.candidate-2.result c.candidate.ensures.candidate c.candidate-2.ensures.candidate
    c.candidate.ensures.number c.candidate-2.ensures.number (let rising = c.requires.part.0 in let some = c.if-first-end.false in omega arith) (let from = c.loop-scope.invariant.from in let start = c.from-start.ensures in omega arith) (let low = c.loop-scope-test.true in let last = c.from-last.ensures in omega arith)

pub loop-scope-preserved : goal.loop-scope-preserved
loop-scope-preserved c =
    let none = no_ask c.search_scope.new.answer c.in_default.not-Ask in
    record {
      searched = scopes_passed c.args.lang.now c.args.net.now.list c.args.kept.now.members c.args.budget c.args.first c.args.end (c.loop-scope.scope + 1) c.first_kept-scope-in-loop-scope.result c.search_scope.new.marks
          c.search_scope.new.answer c.first_kept-scope-in-loop-scope.ensures.from
          (λ k from below.
          scope_inside c.args.lang.now c.args.first c.args.end k c.candidate.result c.candidate-2.result c.candidate.ensures.candidate c.candidate-2.ensures.candidate
          c.candidate.ensures.number c.candidate-2.ensures.number (let rising = c.requires.part.0 in let some = c.if-first-end.false in omega arith)
          (let start = c.from-start.ensures in let least = c.loop-scope.invariant.from in omega arith) (let last = c.from-last.ensures in let end = c.first_kept-scope-in-loop-scope.ensures.within in omega arith))
          c.first_kept-scope-in-loop-scope.ensures.none (c.search_scope.ensures.further none);
      none = none;
      size = (let same = c.search_scope.ensures.size in let before = c.loop-scope.invariant.size in omega arith);
      from = (let least = c.loop-scope.invariant.from in let next = c.first_kept-scope-in-loop-scope.ensures.from in omega arith);
      within = c.first_kept-scope-in-loop-scope.ensures.within;
    }

pub returns-clause-is : goal.returns-clause-is
returns-clause-is c =
    let number = c.candidate-2.ensures.number in
    let here = from_start c.args.lang.now c.candidate-2.result in
    let past = c.loop-scope-test.false in
    let last = c.from-last.ensures in
    let rel = c.candidate-2.ensures.candidate.rel in
    let next = start_next c.args.lang.now c.candidate-2.result.scope in
    let rises = start_rises c.args.lang.now (c.candidate-2.result.scope + 1) c.loop-scope.scope (omega arith) in
    let rising = c.requires.part.0 in
    (moved c.args.lang.now c.args.net.now.list c.args.kept.now.members c.args.budget c.args.first (reach c.args.first c.args.end (scope_start c.args.lang.now c.loop-scope.scope)) c.args.end c.loop-scope.marks c.loop-scope.answer
    (let some = c.if-first-end.false in omega arith) c.loop-scope.invariant.searched).searched
