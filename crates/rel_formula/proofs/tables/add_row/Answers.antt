use Rattle.rel_formula.proofs.Prelude.{◌≡◌, ℕ, ◌+◌, ◌-◌, ◌*◌, ◌^◌, ◌<◌, ◌≤◌, ◌++◌, ◌+ℤ◌, ℤ, pos, List, Some, None, if◌then◌else◌, take, set, length, w64, to_z, of_z, rules, arith, ap, subst, suc, sym, ◌∙◌, to_z-of_z, is_true, is_too_big}
use Rattle.std.proofs.Common.{min}
use Rattle.rel_formula.specs.Places.{AreTruthsTo}
use Rattle.rel_formula.proofs.Places.{truths_many, shown_batch, row_within}
use Rattle.rel_formula.proofs.tables.add_row.Goals as goal

pub loop-first-preserved : goal.loop-first-preserved
loop-first-preserved c =
    let lo : ℤ = to_z w64 (of_z w64 c.args.lo) in
    let d : ℕ = c.args.d in
    let a : ℕ = c.args.arity - 1 in
    let first : ℕ = c.loop-first.first in
    let count : ℕ = c.min-count.result in
    let at : ℕ = c.args.row * d + first in
    let f = c.args.f.now in
    let shown : List ℤ = c.shown_at-shown.result in
    let tuples : List (List ℤ) = c.batch_from-tuples.result in
    let size : c.args.arity ≡ suc a = omega (arith, c.requires.some) in
    let last : c.from-last.result ≡ a = c.from-last.ensures in
    let more : c.from-last.result + 1 ≡ c.args.arity = omega (arith, last, size) in
    let low : first < d = c.loop-first-test.true in
    let least : count ≡ min (d - first) 16 = c.min-count.ensures in
    let few : count ≤ 16 = grind (arith, least) in
    let left : first + count ≤ d = grind (arith, least, low) in
    let some : 1 ≤ count = grind (arith, least, low) in
    let room : a < length shown = search rules in
    let long : count ≤ length c.in-Some.known = search rules in
    let end : c.args.row * d + (first + count - 1) < d ^ c.args.arity = row_within d a c.args.arity c.args.row (first + count - 1) size (omega arith) c.requires.within in
    let next : at + count ≡ c.args.row * d + (first + count) = omega arith in
    let items : c.extend_from_slice.new.self.items ≡ c.loop-first.truths.items ++ take count c.in-Some.known =
    c.in_ok-extend_from_slice-in-Some.ensures.items ∙ ap (λ n. c.loop-first.truths.items ++ take n c.in-Some.known) c.from.ensures in
    record {
      within = left;
      so_far = subst (λ k. AreTruthsTo f c.args.arity lo d k c.extend_from_slice.new.self.items) next
          (subst (λ xs. AreTruthsTo f c.args.arity lo d (at + count) xs) (sym items)
          (truths_many f c.args.arity lo d at c.loop-first.truths.items c.in-Some.known count (omega arith) long c.loop-first.invariant.so_far
          (λ k h.
          ap (λ t. if is_too_big t f then None else Some (is_true t f))
          (sym (shown_batch lo shown tuples d a c.args.arity c.args.row first k (c.from-last.result + 1) size more room (omega arith) c.requires.within c.shown_at-shown.ensures
          (c.batch_from-tuples.ensures k (omega arith) ∙ ap (λ i. set shown i (lo +ℤ pos (first + k))) last)))
          ∙ c.in-Some.ensures k (omega arith))));
    }

pub returns-clause-so_far : goal.returns-clause-so_far
returns-clause-so_far c =
    let all : c.loop-first.first ≡ c.args.d = omega (arith, c.loop-first-test.false, c.loop-first.invariant.within) in
    subst (λ y. AreTruthsTo c.args.f.now c.args.arity y c.args.d (c.args.row * c.args.d + c.args.d) c.loop-first.truths.items) (to_z-of_z w64 c.args.lo c.ranges.lo)
    (subst (λ k. AreTruthsTo c.args.f.now c.args.arity (to_z w64 (of_z w64 c.args.lo)) c.args.d (c.args.row * c.args.d + k) c.loop-first.truths.items) all c.loop-first.invariant.so_far)
