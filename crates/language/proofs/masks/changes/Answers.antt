use Rattle.language.proofs.Prelude.{◌≡◌, ℕ, ◌+◌, ◌-◌, ◌≤◌, Bool, not, sym, ◌∙◌, arith, ◌==◌, slice_index_or, beq, bit_at}
use Rattle.language.proofs.PairMasking.{changes_more, changes_few, change_on, change_off}
use Rattle.language.proofs.masks.changes.Goals as goal
use Rattle.language.proofs.masks.changes.Goals.{Joined-differ_at, then-differ_at, else-differ_at}

pub overflow_add-changes : goal.overflow_add-changes
overflow_add-changes c =
    let few = changes_few (λ x. bit_at (slice_index_or c.args.masks.now (c.args.at + x) 0) c.args.bit == 1) c.loop-x.x in
    let small : c.loop-x.changes ≤ c.loop-x.x = omega (arith, few, c.loop-x.invariant) in
    omega arith

abbrev bit_of : Joined-differ_at → ℕ → Bool
bit_of c x = bit_at (slice_index_or c.args.masks.now (c.args.at + x) 0) c.args.bit == 1

differs : (c : Joined-differ_at) → c.differ_at.result ≡ not (beq (bit_of c (c.loop-x.x - 1)) (bit_of c c.loop-x.x))
differs c =
    let some = c.loop-x.auto.x in
    let is = c.from.ensures in
    let before : c.args.at + c.from.result - 1 ≡ c.args.at + (c.loop-x.x - 1) = omega arith in
    let here : c.args.at + c.from.result ≡ c.args.at + c.loop-x.x = omega arith in
    c.differ_at.ensures ∙ (λ i. not (beq (bit_at (slice_index_or c.args.masks.now (before i) 0) c.args.bit == 1) (bit_at (slice_index_or c.args.masks.now (here i) 0) c.args.bit == 1)))

pub loop-x-preserved : goal.loop-x-preserved
loop-x-preserved c =
    let more = changes_more (bit_of c) c.loop-x.x c.loop-x.auto.x in
    let b : Bool = beq (bit_of c (c.loop-x.x - 1)) (bit_of c c.loop-x.x) in
    elim c.if-differ_at.branch [
      | then-differ_at w ↦ w.changes-is ∙ (λ i. c.loop-x.invariant i + sym (change_on b c.differ_at.result (differs c) w.if-differ_at.true) i) ∙ sym more
      | else-differ_at w ↦
          (let none : c.loop-x.changes ≡ c.loop-x.changes + 0 = omega arith in
          w.changes-is ∙ none ∙ (λ i. c.loop-x.invariant i + sym (change_off b c.differ_at.result (differs c) w.if-differ_at.false) i) ∙ sym more)
    ]
