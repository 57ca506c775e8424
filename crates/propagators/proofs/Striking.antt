-- The value of a variable is taken away from another one that has to differ from it.
use Rattle.propagators.proofs.Prelude.{◌≡◌, ◌≢◌, ℕ, zero, suc, ◌<◌, ◌==◌, Bool, true, false, not, List, [], ◌∷◌, length, refl, sym, ◌∙◌, ap, subst, arith, inl, inr, ◌⊎◌, slice_index_or, All, Option, union, has, Candidate, Language, IsLanguage, AreConstraints, Family, Arc, arcs_of, family_size, AreDifferent, IsRevised, IsEntailed, IsValueOf, IsBeside, IsNarrowed, HasMore, IsApartOf, IsApartAt, AreBothOf, IsBriefOf, TellsApart, IsParted, is_with, HasTwo, IsFamilyOf, IsThrough, is_consistent, sets_on, both_ways, arc_by, Pair, Brief, Plan, IsLooked, RunsEmpty, cases_eq, eq-eqb, ne_eqb, blank}
use Rattle.propagators.specs.Propagated.{AreSome, IsWholePlanOf}
use Rattle.propagators.specs.declared.briefs.Brief.TheVariants.{Two, Apart, Other}
use Rattle.propagators.proofs.Standing.{stood_consistent, stood_dead}
use Rattle.propagators.proofs.Pruned.{consistent}
use Rattle.propagators.proofs.Replacing.{through_supported}
use Rattle.propagators.proofs.Rounds.{dead_here}
use Rattle.propagators.proofs.Conditions.{arcs_small, arcs_within, arcs_different}
use Rattle.propagators.proofs.Beside.{beside_dead, beside_same, beside_fewer}
use Rattle.propagators.proofs.Lazy.{beside_lazy, capped}
use Rattle.propagators.proofs.Looking.{pair_revised_at, pair_entailed}

none : Arc
none = record { scope = []; accepted = λ tuple. true }

-- the pair of a condition that these two variables differ
pub apart_at : (b : Brief) (v u : ℕ) → IsApartAt b v u → (q : Pair) × (b ≡ Apart q) × AreBothOf q v u
apart_at (Two q) v u h = absurd h
apart_at (Apart q) v u h = (q, refl, h)
apart_at (Other o) v u h = absurd h

turned : (x y : ℕ) → not (y == x) ≡ not (x == y)
turned x y = ap not (go (cases_eq x y))
  where
    go : (x ≡ y) ⊎ (¬ (x ≡ y)) → (y == x) ≡ (x == y)
    go (inl same) = eq-eqb y x (sym same) ∙ sym (eq-eqb x y same)
    go (inr other) = ne_eqb y x (λ e. other (sym e)) ∙ sym (ne_eqb x y other)

-- the values that are left
abbrev pub but : ℕ → ℕ → Bool
but x y = not (x == y)

-- the two the other way round
pub turned_at : (b : Brief) (v u : ℕ) → IsApartAt b v u → IsApartAt b u v
turned_at (Two q) v u h = h
turned_at (Apart q) v u (inl e) = inr (e.1, e.0)
turned_at (Apart q) v u (inr e) = inl (e.1, e.0)
turned_at (Other o) v u h = h

-- of two members one is another one than x
other_of : (xs : List ℕ) (x : ℕ) → HasTwo xs → (y : ℕ) × (has xs y ≡ true) × ((x == y) ≡ false)
other_of xs x two = go (cases_eq x two.first)
  where
    go : (x ≡ two.first) ⊎ (x ≢ two.first) → (y : ℕ) × (has xs y ≡ true) × ((x == y) ≡ false)
    go (inl same) = (two.second, two.also, ne_eqb x two.second (λ e. two.apart (sym same ∙ e)))
    go (inr other) = (two.first, two.there, ne_eqb x two.first other)

-- two variables that differ support each other where both have two values
both_supported : (l : Language) (a : Arc) (q : Pair) (f : Family) → IsApartOf l a q → IsFamilyOf l f → HasTwo (slice_index_or f q.first []) → HasTwo (slice_index_or f q.second []) → is_consistent f a.scope a.accepted ≡ true
both_supported l a q f is family first second = stood_consistent l a q f is.pair family (consistent arc f (record { at = λ i x low here. through_supported (sets_on f arc.scope) arc.accepted i x (at i x low here) }))
  where
    arc : Arc
    arc = arc_by l is.pair.pairs q

    says : (x y : ℕ) → has (slice_index_or f q.first []) x ≡ true → has (slice_index_or f q.second []) y ≡ true → (x == y) ≡ false → arc.accepted (x ∷ y ∷ []) ≡ true
    says x y in_first in_second differ = is.apart is.pair.pairs is.pair.are x y (family.values q.first x in_first) (family.values q.second y in_second) ∙ ap not differ

    at : (i x : ℕ) → i < 2 → has (slice_index_or f (slice_index_or (q.first ∷ q.second ∷ []) i 0) []) x ≡ true → IsThrough (slice_index_or f q.first [] ∷ slice_index_or f q.second [] ∷ []) arc.accepted i x
    at zero x low here = (let y = other_of (slice_index_or f q.second []) x second in record { tuple = x ∷ y.0 ∷ []; within = (here, (y.1, tt)); at = refl; is = says x y.0 here y.1 y.2 })
    at (suc zero) x low here = (let y = other_of (slice_index_or f q.first []) x first in record { tuple = y.0 ∷ x ∷ []; within = (y.1, (here, tt)); at = refl; is = says y.0 x y.1 here (flip x y.0 y.2) })
      where
        flip : (x y : ℕ) → (x == y) ≡ false → (y == x) ≡ false
        flip x y e = ne_eqb y x (λ same. both_ways _ e (eq-eqb x y (sym same)))
    at (suc (suc i)) x low here = absurd (omega arith)

module _ (l : Language) (list : List Candidate) (against : Option Candidate) (lawful : IsLanguage l) (are : AreConstraints l list against) (p : Plan) (plan : IsWholePlanOf l (arcs_of l list against) p) (f : Family) (some : AreSome l f) (v u k : ℕ) (room : k < length p.briefs.items) (low : k < length (arcs_of l list against)) (at : (b : Brief) → IsApartAt (slice_index_or p.briefs.items k b) v u) where
  two : (q : Pair) × (slice_index_or p.briefs.items k blank ≡ Apart q) × AreBothOf q v u
  two = apart_at (slice_index_or p.briefs.items k blank) v u (at blank)

  says_so : (a : Arc) → IsApartOf l (slice_index_or (arcs_of l list against) k a) two.0
  says_so a = subst (IsBriefOf l (slice_index_or (arcs_of l list against) k a)) two.1 (plan.plan.briefs k a blank room low)

  pub two_known : (v < length f) × (u < length f)
  two_known = go two.2
    where
      both : All (λ w. w < length f) (two.0.first ∷ two.0.second ∷ [])
      both = subst (λ (scope : List ℕ). All (λ w. w < length f) scope) (says_so none).pair.scope (arcs_within l list against lawful are f some.family k none low)

      first : two.0.first < length f
      first = both 0 0 (omega arith)

      second : two.0.second < length f
      second = both 1 0 (omega arith)

      go : AreBothOf two.0 v u → (v < length f) × (u < length f)
      go (inl e) = (subst (λ (w : ℕ). w < length f) (sym e.0) first, subst (λ (w : ℕ). w < length f) (sym e.1) second)
      go (inr e) = (subst (λ (w : ℕ). w < length f) (sym e.0) second, subst (λ (w : ℕ). w < length f) (sym e.1) first)

  pub two_consistent : HasTwo (slice_index_or f v []) → HasTwo (slice_index_or f u []) → (a : Arc) → is_consistent f (slice_index_or (arcs_of l list against) k a).scope (slice_index_or (arcs_of l list against) k a).accepted ≡ true
  two_consistent of_v of_u a = go two.2
    where
      go : AreBothOf two.0 v u → is_consistent f (slice_index_or (arcs_of l list against) k a).scope (slice_index_or (arcs_of l list against) k a).accepted ≡ true
      go (inl e) = both_supported l (slice_index_or (arcs_of l list against) k a) two.0 f (says_so a) some.family (subst (λ (w : ℕ). HasTwo (slice_index_or f w [])) e.0 of_v) (subst (λ (w : ℕ). HasTwo (slice_index_or f w [])) e.1 of_u)
      go (inr e) = both_supported l (slice_index_or (arcs_of l list against) k a) two.0 f (says_so a) some.family (subst (λ (w : ℕ). HasTwo (slice_index_or f w [])) e.1 of_u) (subst (λ (w : ℕ). HasTwo (slice_index_or f w [])) e.0 of_v)

  -- each stands beside the other
  pub two_beside : (is_with p.aparts.items v u ≡ true) × (is_with p.aparts.items u v ≡ true)
  two_beside = go two.2
    where
      parted : IsParted p.aparts.items (Apart two.0)
      parted = subst (IsParted p.aparts.items) two.1 (plan.plan.parted k blank room low)

      go : AreBothOf two.0 v u → (is_with p.aparts.items v u ≡ true) × (is_with p.aparts.items u v ≡ true)
      go (inl e) = (ap (λ w. is_with p.aparts.items w u) e.0 ∙ ap (λ w. is_with p.aparts.items two.0.first w) e.1 ∙ parted.0, ap (λ w. is_with p.aparts.items w v) e.1 ∙ ap (λ w. is_with p.aparts.items two.0.second w) e.0 ∙ parted.1)
      go (inr e) = (ap (λ w. is_with p.aparts.items w u) e.0 ∙ ap (λ w. is_with p.aparts.items two.0.second w) e.1 ∙ parted.1, ap (λ w. is_with p.aparts.items w v) e.1 ∙ ap (λ w. is_with p.aparts.items two.0.first w) e.0 ∙ parted.0)

module _ (l : Language) (list : List Candidate) (against : Option Candidate) (lawful : IsLanguage l) (are : AreConstraints l list against) (p : Plan) (plan : IsWholePlanOf l (arcs_of l list against) p) (f : Family) (some : AreSome l f) (v x u k : ℕ) (value : IsValueOf f v x) (room : k < length p.briefs.items) (low : k < length (arcs_of l list against)) (at : (b : Brief) → IsApartAt (slice_index_or p.briefs.items k b) v u) where
  abbrev arcs : List Arc
  arcs = arcs_of l list against

  abbrev item : Arc → Arc
  item a = slice_index_or arcs k a

  found : (q : Pair) × (slice_index_or p.briefs.items k blank ≡ Apart q) × AreBothOf q v u
  found = apart_at (slice_index_or p.briefs.items k blank) v u (at blank)

  abbrev pair : Pair
  pair = found.0

  is : (a : Arc) → IsApartOf l (item a) pair
  is a = subst (IsBriefOf l (item a)) found.1 (plan.plan.briefs k a blank room low)

  below : x < l.value_count
  below = some.family.values v x value.only.there

  beside : (a : Arc) → IsBeside l.value_count (arc_by l (is a).pair.pairs pair) f u (but x)
  beside a = go found.2
    where
      apart : TellsApart l.value_count (arc_by l (is a).pair.pairs pair).accepted
      apart = (is a).apart (is a).pair.pairs (is a).pair.are

      go : AreBothOf pair v u → IsBeside l.value_count (arc_by l (is a).pair.pairs pair) f u (but x)
      go (inl e) = record { other = v; value = x; only = value.only; is = inl (ap (λ (w : ℕ). w ∷ pair.second ∷ []) (sym e.0) ∙ ap (λ (w : ℕ). v ∷ w ∷ []) (sym e.1), λ y low. apart x y below low) }
      go (inr e) = record { other = v; value = x; only = value.only; is = inr (ap (λ (w : ℕ). w ∷ pair.second ∷ []) (sym e.1) ∙ ap (λ (w : ℕ). u ∷ w ∷ []) (sym e.0), λ y low. apart y x low below ∙ turned x y) }

  different : (a : Arc) → AreDifferent (item a).scope
  different a = arcs_different l list against lawful are k a low

  known : (a : Arc) → All (λ w. w < length f) (item a).scope
  known a = arcs_within l list against lawful are f some.family k a low

  -- u is a variable of the family
  pub struck_known : u < length f
  struck_known = go found.2
    where
      both : All (λ w. w < length f) (pair.first ∷ pair.second ∷ [])
      both = subst (λ (scope : List ℕ). All (λ w. w < length f) scope) (is none).pair.scope (known none)

      go : AreBothOf pair v u → u < length f
      go (inl e) = subst (λ (w : ℕ). w < length f) (sym e.1) (both 1 0 (omega arith))
      go (inr e) = subst (λ (w : ℕ). w < length f) (sym e.1) (both 0 0 (omega arith))

  pub struck_dead : ((y : ℕ) → has (slice_index_or f u []) y ≡ true → but x y ≡ true → ⊥) → RunsEmpty arcs f
  struck_dead never =
      dead_here arcs f k none low
      (stood_dead l (item none) pair f (is none).pair some.family
      (beside_dead l.value_count (arc_by l (is none).pair.pairs pair) f u (but x)
      (subst AreDifferent (is none).pair.scope (different none))
      (subst (λ (scope : List ℕ). All (λ w. w < length f) scope) (is none).pair.scope (known none))
      some.family.values (beside none) never))

  module _ (g : Family) (narrowed : IsNarrowed u (but x) f g) where
    revised : (a : Arc) → IsRevised (item a) f g
    revised a = pair_revised_at l (item a) pair f g u (but x) (is a).pair (different a) (known a) some.family (beside a) narrowed

    pub struck_entailed : (a : Arc) → IsEntailed (item a) g
    struck_entailed a = pair_entailed l (item a) pair f g u (but x) (is a).pair (different a) (known a) some.family (beside a) narrowed

    pub struck_same : (waiting : List ℕ) → g ≡ f → IsLooked arcs k waiting waiting f g
    struck_same waiting same = beside_same arcs k waiting f g (arcs_small l list against lawful are) low some.full revised same

    pub struck_fewer : (waiting : List ℕ) → family_size g < family_size f → IsLooked arcs k waiting (union waiting (u ∷ [])) f g
    struck_fewer waiting less = beside_fewer arcs k waiting f g u (but x) (arcs_small l list against lawful are) low some.full revised narrowed less

    pub struck_lazy : (waiting : List ℕ) → family_size g < family_size f → HasMore (slice_index_or p.limits.items u 0) (slice_index_or g u []) → IsLooked arcs k waiting waiting f g
    struck_lazy waiting less more =
        beside_lazy l arcs k waiting f g u (but x) p.limits.items (let few = lawful.few_values in omega arith) (arcs_small l list against lawful are) (arcs_different l list against lawful are) low some.full revised narrowed less some.family more
        (λ i a under there. capped l arcs p.briefs.items p.limits.items plan.plan.briefs plan.plan.limits i u a under (let room = plan.room in omega arith) there more.low)
