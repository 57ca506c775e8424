-- A condition on two variables is entailed once one of them has one value, and the other only values that go with it.
use Rattle.propagators.proofs.Prelude.{◌≡◌, ℕ, ◌<◌, Bool, true, List, [], length, subst, ◌⊎◌, slice_index_or, All, Relation, Language, ArePairTables, Family, Arc, AreBelow, AreDifferent, IsFamilyOf, IsRevised, IsBeside, IsNarrowed, IsPairOf, arc_by, IsEntailed, AreEntailed, is_noted_in, Pair, Plan, Entailed}
use Rattle.propagators.proofs.Conditions.{family_within}
use Rattle.propagators.proofs.Standing.{stood_revised, stood_entailed}
use Rattle.propagators.proofs.Beside.{beside_revised, beside_entailed}
use Rattle.propagators.proofs.Entailing.{are_less, entailed_more}

none : Arc
none = record { scope = []; accepted = λ tuple. true }

module _ (l : Language) (a : Arc) (p : Pair) (f g : Family) (v : ℕ) (pass : ℕ → Bool) (is : IsPairOf l a p) (different : AreDifferent a.scope) (known : All (λ u. u < length f) a.scope) (family : IsFamilyOf l f) (beside : IsBeside l.value_count (arc_by l is.pairs p) f v pass) (narrowed : IsNarrowed v pass f g) where
  apart : AreDifferent (arc_by l is.pairs p).scope
  apart = subst AreDifferent is.scope different

  there : All (λ u. u < length f) (arc_by l is.pairs p).scope
  there = subst (λ (scope : List ℕ). All (λ u. u < length f) scope) is.scope known

  pub pair_revised : IsRevised (arc_by l is.pairs p) f g
  pair_revised = beside_revised l.value_count (arc_by l is.pairs p) f v pass apart there family.values beside g narrowed

  pub pair_revised_at : IsRevised a f g
  pair_revised_at = stood_revised l a p f is family g pair_revised

  pub pair_entailed : IsEntailed a g
  pair_entailed =
      stood_entailed l a p g is (family_within l f g pair_revised.size pair_revised.within family)
      (beside_entailed l.value_count (arc_by l is.pairs p) f g v pass apart there family.values beside narrowed pair_revised.within pair_revised.size)

-- it is taken in
pub pair_taken_in : (l : Language) (arcs : List Arc) (plan : Plan) (e more : Entailed) (i : ℕ) (p : Pair) (f g : Family) (v : ℕ) (pass : ℕ → Bool) → ((a : Arc) → IsPairOf l (slice_index_or arcs i a) p) → ((a : Arc) → AreDifferent (slice_index_or arcs i a).scope) →
    ((a : Arc) → All (λ u. u < length f) (slice_index_or arcs i a).scope) → IsFamilyOf l f →
    ((pairs : List Relation) → ArePairTables l pairs → ((u : ℕ) → AreBelow l.value_count (slice_index_or f u [])) → IsBeside l.value_count (arc_by l pairs p) f v pass) → IsNarrowed v pass f g →
    ((k : ℕ) → is_noted_in more k ≡ true → (is_noted_in e k ≡ true) ⊎ (k ≡ i)) → more.struck ≡ e.struck → AreEntailed arcs plan e f → AreEntailed arcs plan more g
pair_taken_in l arcs plan e more i p f g v pass is different known family beside narrowed to same are =
    entailed_more arcs plan e more i g (are_less arcs plan e f g revised.within revised.size are) to same
    (λ a. pair_entailed l (slice_index_or arcs i a) p f g v pass (is a) (different a) (known a) family (beside (is a).pairs (is a).are family.values) narrowed)
  where
    revised : IsRevised (arc_by l (is none).pairs p) f g
    revised = pair_revised l (slice_index_or arcs i none) p f g v pass (is none) (different none) (known none) family (beside (is none).pairs (is none).are family.values) narrowed
