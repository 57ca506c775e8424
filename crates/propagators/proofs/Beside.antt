-- A condition on two variables, one of which has one value.
use Rattle.propagators.proofs.Prelude.{◌≡◌, ℕ, zero, suc, ◌<◌, Bool, true, false, not, ◌&&◌, List, [], ◌∷◌, length, refl, sym, ◌∙◌, ap, subst, arith, inl, inr, ◌⊎◌, ◌≢◌, slice_index_or, slice_set, ones_of, All, list_all, set-get_or, get_or-set_other, get_or-set_same, and_from, and_parts, both_ways, eq-eqb, or_left, has, union, Family, Arc, sets_on, is_not_empty, family_size, IsSubfamily, AreBelow, AreDifferent, IsWithin, IsThrough, AreSupported, IsRevised, IsDead, replaced, IsOnly, IsBeside, IsNarrowed, IsEntailed, IsLooked}
use Rattle.propagators.proofs.Replacing.{is_revised, is_dead, member_of_some, all_full}
use Rattle.propagators.proofs.Rounds.{AreSmall}
use Rattle.propagators.proofs.Visiting.{looked_same, looked_changed}

-- ---- the supported values of two sets, where one has one member

first_supported : (xs ys zs : List ℕ) (x : ℕ) (accepted : List ℕ → Bool) → IsOnly xs x →
    ((y : ℕ) → has zs y ≡ true → (has ys y ≡ true) × (accepted (x ∷ y ∷ []) ≡ true)) → ((y : ℕ) → has ys y ≡ true → accepted (x ∷ y ∷ []) ≡ true → has zs y ≡ true) →
    (z : ℕ) → has zs z ≡ true → AreSupported (xs ∷ ys ∷ []) accepted (xs ∷ zs ∷ [])
first_supported xs ys zs x accepted one part whole z some = record { all = all; only = only }
  where
    all : (tuple : List ℕ) → IsWithin (xs ∷ ys ∷ []) tuple → accepted tuple ≡ true → IsWithin (xs ∷ zs ∷ []) tuple
    all [] h at = absurd h
    all (w ∷ []) h at = absurd h.1
    all (w ∷ y ∷ []) h at = (h.0, (whole y h.1.0 (ap (λ u. accepted (u ∷ y ∷ [])) (sym (one.alone w h.0)) ∙ at), tt))
    all (w ∷ y ∷ v ∷ tuple) h at = absurd h.1.1

    only : (i y : ℕ) → has (slice_index_or (xs ∷ zs ∷ []) i []) y ≡ true → IsThrough (xs ∷ ys ∷ []) accepted i y
    only zero y h = record { tuple = x ∷ z ∷ []; within = (one.there, ((part z some).0, tt)); at = sym (one.alone y h); is = (part z some).1 }
    only (suc zero) y h = record { tuple = x ∷ y ∷ []; within = (one.there, ((part y h).0, tt)); at = refl; is = (part y h).1 }
    only (suc (suc i)) y h = cc

second_supported : (xs ys zs : List ℕ) (x : ℕ) (accepted : List ℕ → Bool) → IsOnly xs x →
    ((y : ℕ) → has zs y ≡ true → (has ys y ≡ true) × (accepted (y ∷ x ∷ []) ≡ true)) → ((y : ℕ) → has ys y ≡ true → accepted (y ∷ x ∷ []) ≡ true → has zs y ≡ true) →
    (z : ℕ) → has zs z ≡ true → AreSupported (ys ∷ xs ∷ []) accepted (zs ∷ xs ∷ [])
second_supported xs ys zs x accepted one part whole z some = record { all = all; only = only }
  where
    all : (tuple : List ℕ) → IsWithin (ys ∷ xs ∷ []) tuple → accepted tuple ≡ true → IsWithin (zs ∷ xs ∷ []) tuple
    all [] h at = absurd h
    all (y ∷ []) h at = absurd h.1
    all (y ∷ w ∷ []) h at = (whole y h.0 (ap (λ u. accepted (y ∷ u ∷ [])) (sym (one.alone w h.1.0)) ∙ at), (h.1.0, tt))
    all (y ∷ w ∷ v ∷ tuple) h at = absurd h.1.1

    only : (i y : ℕ) → has (slice_index_or (zs ∷ xs ∷ []) i []) y ≡ true → IsThrough (ys ∷ xs ∷ []) accepted i y
    only zero y h = record { tuple = y ∷ x ∷ []; within = ((part y h).0, (one.there, tt)); at = refl; is = (part y h).1 }
    only (suc zero) y h = record { tuple = z ∷ x ∷ []; within = ((part z some).0, (one.there, tt)); at = sym (one.alone y h); is = (part z some).1 }
    only (suc (suc i)) y h = cc

-- where no pair is accepted, nothing is supported
none_supported : (xs ys : List ℕ) (accepted : List ℕ → Bool) → ((x y : ℕ) → has xs x ≡ true → has ys y ≡ true → accepted (x ∷ y ∷ []) ≡ true → ⊥) → AreSupported (xs ∷ ys ∷ []) accepted ([] ∷ [] ∷ [])
none_supported xs ys accepted never = record { all = all; only = only }
  where
    all : (tuple : List ℕ) → IsWithin (xs ∷ ys ∷ []) tuple → accepted tuple ≡ true → IsWithin ([] ∷ [] ∷ []) tuple
    all [] h at = absurd h
    all (x ∷ []) h at = absurd h.1
    all (x ∷ y ∷ []) h at = absurd (never x y h.0 h.1.0 at)
    all (x ∷ y ∷ v ∷ tuple) h at = absurd h.1.1

    only : (i y : ℕ) → has (slice_index_or ([] ∷ [] ∷ []) i []) y ≡ true → IsThrough (xs ∷ ys ∷ []) accepted i y
    only zero y h = cc
    only (suc zero) y h = cc
    only (suc (suc i)) y h = cc

pub apart_of : (u v : ℕ) → AreDifferent (u ∷ v ∷ []) → u ≢ v
apart_of u v different e = both_ways _ different.0 (or_left _ _ (eq-eqb v u (sym e)))

-- ---- a variable beside another

module _ (d : ℕ) (a : Arc) (f : Family) (v : ℕ) (pass : ℕ → Bool) (different : AreDifferent a.scope) (known : All (λ u. u < length f) a.scope) (below : (u : ℕ) → AreBelow d (slice_index_or f u [])) (beside : IsBeside d a f v pass) where
  pub beside_revised : (g : Family) → IsNarrowed v pass f g → IsRevised a f g
  beside_revised g to = go beside.is
    where
      kept : List ℕ
      kept = slice_index_or g v []

      one : (z : ℕ) × (has (slice_index_or g v []) z ≡ true)
      one = member_of_some (slice_index_or g v []) to.some

      go : ((a.scope ≡ beside.other ∷ v ∷ []) × ((y : ℕ) → y < d → a.accepted (beside.value ∷ y ∷ []) ≡ pass y)) ⊎ ((a.scope ≡ v ∷ beside.other ∷ []) × ((y : ℕ) → y < d → a.accepted (y ∷ beside.value ∷ []) ≡ pass y)) → IsRevised a f g
      go (inl is) = subst (IsRevised a f) written (is_revised a f (slice_index_or f beside.other [] ∷ slice_index_or g v [] ∷ []) different (sym (ap length is.0)) known supported beside.value beside.only.there)
        where
          supported : AreSupported (sets_on f a.scope) a.accepted (slice_index_or f beside.other [] ∷ slice_index_or g v [] ∷ [])
          supported = subst (λ (scope : List ℕ). AreSupported (sets_on f scope) a.accepted (slice_index_or f beside.other [] ∷ slice_index_or g v [] ∷ [])) (sym is.0)
              (first_supported (slice_index_or f beside.other []) (slice_index_or f v []) (slice_index_or g v []) beside.value a.accepted beside.only
              (λ y h. (let p = to.values y h in (p.0, is.1 y (below v y p.0) ∙ p.1)))
              (λ y h at. to.kept y h (sym (is.1 y (below v y h)) ∙ at)) one.0 one.1)

          written : replaced a.scope (slice_index_or f beside.other [] ∷ slice_index_or g v [] ∷ []) f ≡ g
          written = ap (λ (scope : List ℕ). replaced scope (slice_index_or f beside.other [] ∷ slice_index_or g v [] ∷ []) f) is.0
              ∙ ap (λ (h : Family). slice_set h v (slice_index_or g v [])) (set-get_or f beside.other []) ∙ sym to.is
      go (inr is) = subst (IsRevised a f) written (is_revised a f (slice_index_or g v [] ∷ slice_index_or f beside.other [] ∷ []) different (sym (ap length is.0)) known supported one.0 one.1)
        where
          supported : AreSupported (sets_on f a.scope) a.accepted (slice_index_or g v [] ∷ slice_index_or f beside.other [] ∷ [])
          supported = subst (λ (scope : List ℕ). AreSupported (sets_on f scope) a.accepted (slice_index_or g v [] ∷ slice_index_or f beside.other [] ∷ [])) (sym is.0)
              (second_supported (slice_index_or f beside.other []) (slice_index_or f v []) (slice_index_or g v []) beside.value a.accepted beside.only
              (λ y h. (let p = to.values y h in (p.0, is.1 y (below v y p.0) ∙ p.1)))
              (λ y h at. to.kept y h (sym (is.1 y (below v y h)) ∙ at)) one.0 one.1)

          apart : beside.other ≢ v
          apart e = apart_of v beside.other (subst AreDifferent is.0 different) (sym e)

          written : replaced a.scope (slice_index_or g v [] ∷ slice_index_or f beside.other [] ∷ []) f ≡ g
          written = ap (λ (scope : List ℕ). replaced scope (slice_index_or g v [] ∷ slice_index_or f beside.other [] ∷ []) f) is.0
              ∙ ap (slice_set (slice_set f v (slice_index_or g v [])) beside.other) (sym (get_or-set_other f v beside.other (slice_index_or g v []) [] apart))
              ∙ set-get_or (slice_set f v (slice_index_or g v [])) beside.other [] ∙ sym to.is

  pub beside_dead : ((y : ℕ) → has (slice_index_or f v []) y ≡ true → pass y ≡ true → ⊥) → IsDead a f
  beside_dead never = go beside.is
    where
      from : AreSupported (sets_on f a.scope) a.accepted ([] ∷ [] ∷ []) → 2 ≡ length a.scope → IsDead a f
      from supported long = is_dead a f ([] ∷ [] ∷ []) different long known supported (omega arith) refl

      go : ((a.scope ≡ beside.other ∷ v ∷ []) × ((y : ℕ) → y < d → a.accepted (beside.value ∷ y ∷ []) ≡ pass y)) ⊎ ((a.scope ≡ v ∷ beside.other ∷ []) × ((y : ℕ) → y < d → a.accepted (y ∷ beside.value ∷ []) ≡ pass y)) → IsDead a f
      go (inl is) = from (subst (λ (scope : List ℕ). AreSupported (sets_on f scope) a.accepted ([] ∷ [] ∷ [])) (sym is.0)
          (none_supported (slice_index_or f beside.other []) (slice_index_or f v []) a.accepted
          (λ x y in_x in_y at. never y in_y (sym (is.1 y (below v y in_y)) ∙ ap (λ w. a.accepted (w ∷ y ∷ [])) (sym (beside.only.alone x in_x)) ∙ at)))) (sym (ap length is.0))
      go (inr is) = from (subst (λ (scope : List ℕ). AreSupported (sets_on f scope) a.accepted ([] ∷ [] ∷ [])) (sym is.0)
          (none_supported (slice_index_or f v []) (slice_index_or f beside.other []) a.accepted
          (λ y x in_y in_x at. never y in_y (sym (is.1 y (below v y in_y)) ∙ ap (λ w. a.accepted (y ∷ w ∷ [])) (sym (beside.only.alone x in_x)) ∙ at)))) (sym (ap length is.0))

-- the other variable keeps its one value, and each of this one's goes with it
module _ (d : ℕ) (a : Arc) (f g : Family) (v : ℕ) (pass : ℕ → Bool) (different : AreDifferent a.scope) (known : All (λ u. u < length f) a.scope) (below : (u : ℕ) → AreBelow d (slice_index_or f u [])) (beside : IsBeside d a f v pass) (narrowed : IsNarrowed v pass f g) (sub : IsSubfamily g f) (long : length g ≡ length f) where
  pub beside_entailed : IsEntailed a g
  beside_entailed = λ h within same full. (beside_revised d a h v pass different (subst (λ (n : ℕ). All (λ u. u < n) a.scope) (sym (same ∙ long)) known) (λ u x at. below u x (sub u x (within u x at))) (still h within same full) h (all h within same full)).consistent
    where
      two : (beside.other < length f) × (v < length f)
      two = go beside.is
        where
          go : ((a.scope ≡ beside.other ∷ v ∷ []) × ((y : ℕ) → y < d → a.accepted (beside.value ∷ y ∷ []) ≡ pass y)) ⊎ ((a.scope ≡ v ∷ beside.other ∷ []) × ((y : ℕ) → y < d → a.accepted (y ∷ beside.value ∷ []) ≡ pass y)) → (beside.other < length f) × (v < length f)
          go (inl is) = let both = subst (λ (scope : List ℕ). All (λ u. u < length f) scope) is.0 known in (both 0 0 (omega arith), both 1 0 (omega arith))
          go (inr is) = let both = subst (λ (scope : List ℕ). All (λ u. u < length f) scope) is.0 known in (both 1 0 (omega arith), both 0 0 (omega arith))

      still : (h : Family) → IsSubfamily h g → length h ≡ length g → list_all is_not_empty h ≡ true → IsBeside d a h v pass
      still h within same full = record { other = beside.other; value = beside.value; only = only; is = beside.is }
        where
          some : (x : ℕ) × (has (slice_index_or h beside.other []) x ≡ true)
          some = member_of_some (slice_index_or h beside.other []) (all_full h full beside.other (let low = two.0 in omega arith))

          only : IsOnly (slice_index_or h beside.other []) beside.value
          only = record {
            there = ap (has (slice_index_or h beside.other [])) (sym (beside.only.alone some.0 (sub beside.other some.0 (within beside.other some.0 some.1)))) ∙ some.1;
            alone = λ y at. beside.only.alone y (sub beside.other y (within beside.other y at));
          }

      all : (h : Family) → IsSubfamily h g → length h ≡ length g → list_all is_not_empty h ≡ true → IsNarrowed v pass h h
      all h within same full = record {
        values = λ y at. (at, (narrowed.values y (within v y at)).1);
        kept = λ y at p. at;
        some = all_full h full v (let low = two.1 in omega arith);
        is = sym (set-get_or h v []);
      }

-- the values that pass are written, where there are some
pub narrowed_to : (f g : Family) (v values : ℕ) (pass : ℕ → Bool) → v < length f → ((y : ℕ) → has (ones_of values) y ≡ (has (slice_index_or f v []) y && pass y)) → false ≡ not (is_not_empty (ones_of values)) → g ≡ slice_set f v (ones_of values) → IsNarrowed v pass f g
narrowed_to f g v values pass low passing some to = record {
  values = λ y at. (let parts = and_parts _ _ (sym (passing y) ∙ ap (λ xs. has xs y) (sym written) ∙ at) in (parts.0, parts.1));
  kept = λ y at p. ap (λ xs. has xs y) written ∙ passing y ∙ and_from _ _ at p;
  some = ap is_not_empty written ∙ turned (is_not_empty (ones_of values)) some;
  is = to ∙ ap (slice_set f v) (sym written);
}
  where
    written : slice_index_or g v [] ≡ ones_of values
    written = ap (λ (h : Family). slice_index_or h v []) to ∙ get_or-set_same f v (ones_of values) [] low

    turned : (b : Bool) → false ≡ not b → b ≡ true
    turned true h = refl
    turned false h = cc

-- where no value that passes is left, none passes
pub none_passes : (xs zs : List ℕ) (pass : ℕ → Bool) → ((y : ℕ) → has zs y ≡ (has xs y && pass y)) → true ≡ not (is_not_empty zs) → (y : ℕ) → has xs y ≡ true → pass y ≡ true → ⊥
none_passes xs [] pass passing none y there passes = both_ways _ (sym (passing y)) (and_from _ _ there passes)
none_passes xs (z ∷ zs) pass passing none y there passes = cc

-- the others have the same values
pub narrowed_others : (f g : Family) (v : ℕ) (pass : ℕ → Bool) → IsNarrowed v pass f g → (u : ℕ) → u ≢ v → slice_index_or g u [] ≡ slice_index_or f u []
narrowed_others f g v pass to u other = ap (λ (h : Family). slice_index_or h u []) to.is ∙ get_or-set_other f v u (slice_index_or g v []) [] other

-- ---- a look at such a condition

pub beside_same : (arcs : List Arc) (i : ℕ) (waiting : List ℕ) (f g : Family) → AreSmall arcs → i < length arcs → list_all is_not_empty f ≡ true → ((a : Arc) → IsRevised (slice_index_or arcs i a) f g) → g ≡ f → IsLooked arcs i waiting waiting f g
beside_same arcs i waiting f g small low full to same =
    looked_same arcs i waiting [] f g small low full to (record { differ = λ u few none. ap (λ (h : Family). slice_index_or h u []) same; fewer = inl (λ u. refl, same) }) refl

pub beside_fewer : (arcs : List Arc) (i : ℕ) (waiting : List ℕ) (f g : Family) (v : ℕ) (pass : ℕ → Bool) → AreSmall arcs → i < length arcs → list_all is_not_empty f ≡ true → ((a : Arc) → IsRevised (slice_index_or arcs i a) f g) →
    IsNarrowed v pass f g → family_size g < family_size f → IsLooked arcs i waiting (union waiting (v ∷ [])) f g
beside_fewer arcs i waiting f g v pass small low full to narrowed less =
    looked_changed arcs i waiting (v ∷ []) f g small low full to (record {
      differ = λ u few none. narrowed_others f g v pass narrowed u (λ e. both_ways _ none (or_left _ _ (eq-eqb v u (sym e))));
      fewer = inr less;
    }) (λ e. omega arith)
