use Rattle.assign.proofs.Prelude.{ap, sym, ◌∙◌, ◌≡◌, true, seen, made, Inside, both_ways, eqb-true}
use Rattle.assign.proofs.CellLemmas.{one_inside}
use Rattle.assign.proofs.assignment.Partial.equals.Goals.{then-self-other, else-self-other}
use Rattle.std.proofs.lemmas.Slice.Eq.{bytes_eq-Decides}
use Rattle.assign.proofs.assignment.Partial.equals.Goals as goal

pub returns-then-eq : goal.returns-then-eq
returns-then-eq c =
    elim c.if-self-other.branch [
      | then-self-other w ↦ (
        λ h. sym c.self.view_is
            ∙ ap seen (made _ _ _ c.other.inside w.if-self-other.true ((bytes_eq-Decides _ _).0 (sym w.eq.ensures ∙ sym w.value-is ∙ c.if-eq.true)) ((bytes_eq-Decides _ _).0 (sym c.eq-then-eq.ensures ∙ h)))
            ∙ c.other.view_is,
        λ e. c.eq-then-eq.ensures ∙ (bytes_eq-Decides _ _).1 (ap (λ (a : Inside). a.values) (one_inside c.self.inside c.other.inside c.self.invariant c.other.invariant (c.self.view_is ∙ e ∙ sym c.other.view_is))),
      )
      | else-self-other w ↦ absurd (w.if-self-other.false (eqb-true _ _ (sym w.value-is ∙ c.if-eq.true)))
    ]

pub returns-else-eq : goal.returns-else-eq
returns-else-eq c = (
  λ h. absurd (both_ways _ c.if-eq.false h),
  λ e.
      let same : c.self.inside ≡ c.other.inside = one_inside c.self.inside c.other.inside c.self.invariant c.other.invariant (c.self.view_is ∙ e ∙ sym c.other.view_is) in
      elim c.if-self-other.branch as (λ _. c.if-self-other.value ≡ true) [
        | then-self-other w ↦ w.value-is ∙ w.eq.ensures ∙ (bytes_eq-Decides _ _).1 (ap (λ (a : Inside). a.valued) same)
        | else-self-other w ↦ absurd (w.if-self-other.false (ap (λ (a : Inside). a.n) same))
      ],
)
