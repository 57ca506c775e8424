use Rattle.query_gen.proofs.Prelude.{◌≡◌, ℕ, ◌+◌, ◌-◌, List, length, refl, subst, sym, ◌∙◌, ap, arith, with_items_is, Mark, Remembered, remembered_begun, seen, AreTaken, HasTaken}
use Rattle.std.specs.Vec.{with_items}
use Rattle.query_gen.proofs.Parts.{has_taken, holds_over}
use Rattle.query_gen.proofs.screen.Screen.take_part.Goals as goal

marks_taken : (c : goal.After-self-1) → AreTaken c.args.bytes.now c.args.first c.args.end c.self.inside.marks.items c.take_bytes.new.marks
marks_taken c =
    let rising = c.requires.part.0 in
    let end : c.args.first + (c.args.end - c.args.first) ≡ c.args.end = omega arith in
    subst (λ (n : ℕ). AreTaken c.args.bytes.now c.args.first n c.self.inside.marks.items c.take_bytes.new.marks) end
    (subst (λ (marks : List Mark). AreTaken c.args.bytes.now c.args.first (c.args.first + (c.args.end - c.args.first)) marks c.take_bytes.new.marks) c.deref_mut.ensures.value c.take_bytes.ensures)

pub returns-clause-taken : goal.returns-clause-taken
returns-clause-taken c =
    let state : seen c.self.inside ≡ remembered_begun c.args.self.now (length c.args.net.now.list) c.args.budget = c.self.view_is ∙ c.begin.ensures ∙ ap (λ n. remembered_begun c.args.self.now n c.args.budget) c.len.ensures.is in
    let marks : (with_items c.self.inside.marks c.take_bytes.new.marks).items ≡ c.take_bytes.new.marks =
    with_items_is c.self.inside.marks c.take_bytes.new.marks (c.take_bytes.ensures.size ∙ ap length c.deref_mut.ensures.value ∙ sym c.self.inside.marks.ok.0) in
    let new : Remembered = record { first = c.self.inside.first.items; marks = (with_items c.self.inside.marks c.take_bytes.new.marks).items; learned = c.self.inside.learned; budget = c.self.inside.budget; index = c.self.inside.index; finds = c.self.inside.finds } in
    subst (λ (old : Remembered). HasTaken c.args.bytes.now c.args.first c.args.end old new) state
    (has_taken c.args.bytes.now c.args.first c.args.end (seen c.self.inside) new refl refl refl refl refl
    (subst (AreTaken c.args.bytes.now c.args.first c.args.end c.self.inside.marks.items) (sym marks) (marks_taken c)))

pub returns-clause-holds : goal.returns-clause-holds
returns-clause-holds c = λ l made holds are.
    holds_over l c.args.net.now.list c.args.budget c.args.first c.args.end c.args.bytes.now c.args.self.now _ (returns-clause-taken c) made holds are
