use Rattle.query_gen.proofs.Prelude.{◌+◌, length, refl, ◌∙◌, ap, arith, ones_of, IsCandidate, candidate_at, reach, scope_start, ones_of-zero}
use Rattle.query_gen.proofs.Parts.{searched_found}
use Rattle.query_gen.proofs.Scopes.{from_start, start_next, moved, passed_to, all_left, left_after, none_between, none_left, first_known, no_ask}
use Rattle.query_gen.proofs.part.search_scope.Goals as goal

pub loop-relations-init : goal.loop-relations-init
loop-relations-init c =
    let least = c.max-next.ensures in
    let base = c.number_of-base.ensures.is in
    let ends = c.requires.scope.ends in
    let begins = c.requires.scope.begins in
    let rising = c.requires.scope.rising in
    let next = start_next c.args.lang.now c.args.scope in
    record {
      searched = moved c.args.lang.now c.args.net.now.list c.args.kept.now.members c.args.budget c.args.first (reach c.args.first c.args.end (scope_start c.args.lang.now c.args.scope)) c.max-next.result c.args.marks.now c.args.answer.now
          (omega arith) c.requires.before;
      none = c.requires.none;
      size = refl;
      from = omega arith;
      behind = omega arith;
      within = omega arith;
      left = all_left c.args.kept.now.members c.args.scope c.number_of-base.result c.args.end c.on_scope-relations.result c.max-next.result c.on_scope-relations.ensures;
    }

pub loop-relations-smaller-then-number-next : goal.loop-relations-smaller-then-number-next
loop-relations-smaller-then-number-next c = let shorter = ap length c.split_first-rel.ensures in omega arith

pub loop-relations-smaller-then-number-end : goal.loop-relations-smaller-then-number-end
loop-relations-smaller-then-number-end c = let shorter = ap length c.split_first-rel.ensures in omega arith

pub loop-relations-smaller : goal.loop-relations-smaller
loop-relations-smaller c = let shorter = ap length c.split_first-rel.ensures in omega arith

pub loop-relations-preserved-then-number-next : goal.loop-relations-preserved-then-number-next
loop-relations-preserved-then-number-next c =
    let before = c.loop-relations.invariant in
    let sum = c.saturating_add-number.ensures in
    let rel = c.from.ensures in
    let small = c.if-number-next.true in
    let fits = c.ranges.end.fits in
    record {
      searched = before.searched;
      none = before.none;
      size = before.size;
      from = before.from;
      behind = before.behind;
      within = before.within;
      left = left_after c.args.kept.now.members c.args.scope c.number_of-base.result c.args.end c.loop-relations.relations c.split_first-rel.result.0 c.split_first-rel.result.1 c.loop-relations.next c.loop-relations.next c.split_first-rel.ensures
          (omega arith) (λ r low high same. omega arith) before.left;
    }

pub loop-relations-preserved-then-number-end : goal.loop-relations-preserved-then-number-end
loop-relations-preserved-then-number-end c =
    let before = c.loop-relations.invariant in
    let sum = c.saturating_add-number.ensures in
    let rel = c.from.ensures in
    let past = c.if-number-end.true in
    let fits = c.ranges.end.fits in
    record {
      searched = before.searched;
      none = before.none;
      size = before.size;
      from = before.from;
      behind = before.behind;
      within = before.within;
      left = left_after c.args.kept.now.members c.args.scope c.number_of-base.result c.args.end c.loop-relations.relations c.split_first-rel.result.0 c.split_first-rel.result.1 c.loop-relations.next c.loop-relations.next c.split_first-rel.ensures
          (omega arith) (λ r low high same. omega arith) before.left;
    }

-- the relation's candidate is of the part, and its number is the sum
pub look_at-requires-clause-candidate : goal.look_at-requires-clause-candidate
look_at-requires-clause-candidate c =
    let sum = c.saturating_add-number.ensures in
    let rel = c.from.ensures in
    let past = c.if-number-next.false in
    let low = c.if-number-end.false in
    let fits = c.ranges.end.fits in
    let base = c.number_of-base.ensures.is in
    let is : IsCandidate c.args.lang.now (candidate_at c.args.scope c.split_first-rel.result.0) =
    first_known c.args.lang.now c.args.kept.now.members c.args.scope c.number_of-base.result c.args.end c.loop-relations.relations c.split_first-rel.result.0 c.split_first-rel.result.1 c.loop-relations.next c.requires.kept.known c.split_first-rel.ensures
    (omega arith) (omega arith) c.loop-relations.invariant.left in
    let number = from_start c.args.lang.now (candidate_at c.args.scope c.split_first-rel.result.0) in
    (is, omega arith)

pub look_at-requires-clause-before : goal.look_at-requires-clause-before
look_at-requires-clause-before c =
    let sum = c.saturating_add-number.ensures in
    let rel = c.from.ensures in
    let past = c.if-number-next.false in
    let low = c.if-number-end.false in
    let fits = c.ranges.end.fits in
    let base = c.number_of-base.ensures.is in
    let before = c.loop-relations.invariant in
    let from = before.from in
    let behind = before.behind in
    let is : IsCandidate c.args.lang.now (candidate_at c.args.scope c.split_first-rel.result.0) =
    first_known c.args.lang.now c.args.kept.now.members c.args.scope c.number_of-base.result c.args.end c.loop-relations.relations c.split_first-rel.result.0 c.split_first-rel.result.1 c.loop-relations.next c.requires.kept.known c.split_first-rel.ensures
    (omega arith) (omega arith) before.left in
    let few = is.rel in
    passed_to c.args.lang.now c.args.net.now.list c.args.kept.now.members c.args.budget c.args.first c.args.scope c.loop-relations.next c.saturating_add-number.result c.loop-relations.marks c.loop-relations.answer c.requires.scope.known (omega arith) (omega arith) (omega arith) (omega arith)
    (λ r after below. none_between c.args.kept.now.members c.args.scope c.number_of-base.result c.args.end c.loop-relations.relations c.split_first-rel.result.0 c.split_first-rel.result.1 c.loop-relations.next c.split_first-rel.ensures (omega arith) before.left r (omega arith) (omega arith))
    before.searched

pub returns-in-Ask-clause-found : goal.returns-in-Ask-clause-found
returns-in-Ask-clause-found c = λ asks.
    let past = c.if-number-next.false in
    let low = c.if-number-end.false in
    let from = c.loop-relations.invariant.from in
    searched_found c.args.lang.now c.args.net.now.list c.args.kept.now.members c.args.budget c.args.first (c.saturating_add-number.result + 1) c.args.end c.look_at.new.marks c.look_at.new.answer
    (omega arith) (omega arith) asks c.look_at.ensures.is

pub loop-relations-preserved : goal.loop-relations-preserved
loop-relations-preserved c =
    let sum = c.saturating_add-number.ensures in
    let rel = c.from.ensures in
    let past = c.if-number-next.false in
    let low = c.if-number-end.false in
    let fits = c.ranges.end.fits in
    let base = c.number_of-base.ensures.is in
    let before = c.loop-relations.invariant in
    let from = before.from in
    let behind = before.behind in
    let next = start_next c.args.lang.now c.args.scope in
    let is : IsCandidate c.args.lang.now (candidate_at c.args.scope c.split_first-rel.result.0) =
    first_known c.args.lang.now c.args.kept.now.members c.args.scope c.number_of-base.result c.args.end c.loop-relations.relations c.split_first-rel.result.0 c.split_first-rel.result.1 c.loop-relations.next c.requires.kept.known c.split_first-rel.ensures
    (omega arith) (omega arith) before.left in
    let few = is.rel in
    record {
      searched = c.look_at.ensures.is;
      none = no_ask c.look_at.new.answer c.in_default.not-Ask;
      size = c.look_at.ensures.size ∙ before.size;
      from = omega arith;
      behind = omega arith;
      within = omega arith;
      left = left_after c.args.kept.now.members c.args.scope c.number_of-base.result c.args.end c.loop-relations.relations c.split_first-rel.result.0 c.split_first-rel.result.1 c.loop-relations.next (c.saturating_add-number.result + 1) c.split_first-rel.ensures
          (omega arith) (λ r after below same. omega arith) before.left;
    }

pub returns-clause-further : goal.returns-clause-further
returns-clause-further c = λ still.
    let base = c.number_of-base.ensures.is in
    let before = c.loop-relations.invariant in
    let from = before.from in
    let behind = before.behind in
    let within = before.within in
    let next = start_next c.args.lang.now c.args.scope in
    let ends = c.requires.scope.ends in
    let begins = c.requires.scope.begins in
    let rising = c.requires.scope.rising in
    passed_to c.args.lang.now c.args.net.now.list c.args.kept.now.members c.args.budget c.args.first c.args.scope c.loop-relations.next (reach c.args.first c.args.end (scope_start c.args.lang.now (c.args.scope + 1))) c.loop-relations.marks c.loop-relations.answer
    c.requires.scope.known (omega arith) (omega arith) within (omega arith)
    (λ r after below. none_left c.args.kept.now.members c.args.scope c.number_of-base.result c.args.end c.loop-relations.relations c.loop-relations.next (ap ones_of c.loop-relations-test.false ∙ ones_of-zero) before.left r (omega arith) (omega arith))
    before.searched
