use Rattle.propagators.proofs.Prelude.{◌≡◌, ℕ, ◌^◌, ◌<◌, ◌∙◌, ◌⊎◌, true, not, ◌&&◌, inl, inr, ap, sym, length, arith, ◌==◌, ◌≢◌, nat_lt, cases_eq, eq-eqb, ne_eqb, le-ltb, lt-ltb, has, IsSet, ones_of, ones_of-zero, no_ones}
use Rattle.propagators.proofs.Loose.{one_member, two_members, one_long, two_long, ones_of-set}
use Rattle.propagators.proofs.values.are_more.Goals as goal

-- whether there are two, by what is left without a first one
more_than_one : (values rest x : ℕ) → rest < 2 ^ 64 → has (ones_of values) x ≡ true → IsSet (ones_of values) → ((y : ℕ) → has (ones_of rest) y ≡ (has (ones_of values) y && not (x == y))) →
    not (rest == 0) ≡ nat_lt 1 (length (ones_of values))
more_than_one values rest x fits there set goes = go (cases_eq rest 0)
  where
    go : (rest ≡ 0) ⊎ (rest ≢ 0) → not (rest == 0) ≡ nat_lt 1 (length (ones_of values))
    go (inl none) = ap not (eq-eqb rest 0 none) ∙ sym (le-ltb 1 (length (ones_of values)) (one_long (ones_of values) set (one_member (ones_of values) (ones_of rest) x goes (ap ones_of none ∙ ones_of-zero))))
    go (inr some) = ap not (ne_eqb rest 0 some) ∙ sym (lt-ltb 1 (length (ones_of values)) (two_long (ones_of values) (two_members (ones_of values) (ones_of rest) x there goes (λ none. some (no_ones rest fits none)))))

pub returns-then-values-ne0-clause-is : goal.returns-then-values-ne0-clause-is
returns-then-values-ne0-clause-is c =
    more_than_one c.args.values c.without_value.result c.least_value.result c.without_value.type_inv c.least_value.ensures.there (ones_of-set c.args.values) c.without_value.ensures.has
    ∙ ap (λ (k : ℕ). nat_lt k (length (ones_of c.args.values))) (sym c.if-most-ne1.false)

pub returns-else-values-ne0-clause-is : goal.returns-else-values-ne0-clause-is
returns-else-values-ne0-clause-is c =
    let none = ap length (ap ones_of c.if-values-ne0.false ∙ ones_of-zero) in
    ap not (eq-eqb c.args.values 0 c.if-values-ne0.false) ∙ sym (le-ltb c.args.most (length (ones_of c.args.values)) (omega arith))
