-- The domains below a prefix, from those of the prefix.
use Rattle.fd_solver.proofs.Prelude.{◌≡◌, ℕ, ◌<◌, ◌≤◌, Bool, true, false, cond, ◌&&◌, ◌||◌, List, [], ◌∷◌, ◌++◌, length, map, replicate, Option, Some, None, refl, sym, ◌∙◌, ap, subst, arith, inl, inr, ◌⊎◌, ◌==◌, ◌≢◌, slice_index_or, slice_set, list_all, filter, length-set, get_or-set_same, get_or-set_other, set-get_or, AllPass-from_list_all, and_from, or_left, or_right, both_ways, cases_eq, cases_lt, eq-eqb, ne_eqb, numbers, has, with_member, value_beside, assigned, Candidate, Language, IsLanguage, variable_count, values_of, AreConstraints, Family, Arc, arcs_of, is_not_empty, domain_of, left_by, is_consistent, is_arc_consistent, has_family, IsSubfamily, IsLargest, largest, AreSettled, IsFamilyOf, largest_is, largest_again, filter_has, largest_tells, largest_long, all_full, full_from, stays_consistent, tells_with, empty_stays, IsOrder, is_alive_in, IsReady, fixed, beside_next, beside_push, next_known, has-filter, some_of_member}
use Rattle.propagators.specs.Pairs.{IsOnly}
use Rattle.propagators.specs.Propagated.{AreSome, IsPropagated, RunsEmpty}
use Rattle.propagators.proofs.Cutting.{not_with}
use Rattle.propagators.proofs.Conditions.{arcs_small}
use Rattle.fd_solver.proofs.Left.{length-left, left_beside, left_past, left_none}

-- ---- one value alone

pub fixed_other : (f : Family) (v x w : ℕ) → v ≢ w → slice_index_or (fixed f v x) w [] ≡ slice_index_or f w []
fixed_other f v x w other = get_or-set_other f v w (filter (λ y. x == y) (slice_index_or f v [])) [] (λ e. other (sym e))

pub fixed_same : (f : Family) (v x : ℕ) → v < length f → slice_index_or (fixed f v x) v [] ≡ filter (λ y. x == y) (slice_index_or f v [])
fixed_same f v x low = get_or-set_same f v (filter (λ y. x == y) (slice_index_or f v [])) [] low

pub fixed_within : (f : Family) (v x : ℕ) → v < length f → IsSubfamily (fixed f v x) f
fixed_within f v x low w y h = go (cases_eq v w)
  where
    go : (v ≡ w) ⊎ (v ≢ w) → has (slice_index_or f w []) y ≡ true
    go (inl same) = ap (λ u. has (slice_index_or f u []) y) (sym same)
        ∙ (filter_has (λ z. x == z) (slice_index_or f v []) y (sym (ap (λ ys. has ys y) (fixed_same f v x low)) ∙ ap (λ u. has (slice_index_or (fixed f v x) u []) y) same ∙ h)).0
    go (inr other) = ap (λ ys. has ys y) (sym (fixed_other f v x w other)) ∙ h

pub fixed_full : (f : Family) (v x : ℕ) → v < length f → has (slice_index_or f v []) x ≡ true → list_all is_not_empty f ≡ true → list_all is_not_empty (fixed f v x) ≡ true
fixed_full f v x low there full = full_from (fixed f v x) (λ w below. go w (let long = length-set f v (filter (λ y. x == y) (slice_index_or f v [])) in let h : w < length f = omega arith in h) (cases_eq v w))
  where
    go : (w : ℕ) → w < length f → (v ≡ w) ⊎ (v ≢ w) → is_not_empty (slice_index_or (fixed f v x) w []) ≡ true
    go w below (inl same) = ap (λ u. is_not_empty (slice_index_or (fixed f v x) u [])) (sym same) ∙ ap is_not_empty (fixed_same f v x low)
        ∙ some_of_member (filter (λ y. x == y) (slice_index_or f v [])) x (has-filter (λ y. x == y) (slice_index_or f v []) x ∙ and_from _ _ there (eq-eqb x x refl))
    go w below (inr other) = ap is_not_empty (fixed_other f v x w other) ∙ all_full f full w below

pub fixed_empty : (f : Family) (v x : ℕ) → v < length f → has (slice_index_or f v []) x ≡ false → list_all is_not_empty (fixed f v x) ≡ false
fixed_empty f v x low none = go (list_all is_not_empty (fixed f v x)) refl
  where
    nothing : (xs : List ℕ) → has xs x ≡ false → filter (λ y. x == y) xs ≡ []
    nothing [] h = refl
    nothing (y ∷ xs) h = rw (ne_eqb x y (λ e. both_ways _ h (or_left _ _ (eq-eqb y x (sym e))))) (nothing xs (later (y == x) (has xs x) h))
      where
        later : (a b : Bool) → (a || b) ≡ false → b ≡ false
        later true b h = cc
        later false b h = h

    go : (b : Bool) → list_all is_not_empty (fixed f v x) ≡ b → b ≡ false
    go true h = absurd (both_ways _ (ap is_not_empty (fixed_same f v x low ∙ nothing (slice_index_or f v []) none)) (all_full (fixed f v x) h v (let long = length-set f v (filter (λ y. x == y) (slice_index_or f v [])) in omega arith)))
    go false h = refl

-- where the variable has this value alone, nothing is taken away
pub fixed_alone : (f : Family) (v x only : ℕ) → IsOnly (slice_index_or f v []) only → has (slice_index_or f v []) x ≡ true → fixed f v x ≡ f
fixed_alone f v x only is there = ap (slice_set f v) (all_pass (slice_index_or f v []) (λ y h. is.alone y h ∙ sym (is.alone x there))) ∙ set-get_or f v []
  where
    all_pass : (xs : List ℕ) → ((y : ℕ) → has xs y ≡ true → y ≡ x) → filter (λ y. x == y) xs ≡ xs
    all_pass [] alone = refl
    all_pass (y ∷ xs) alone = rw (eq-eqb x y (sym (alone y (or_left _ _ (eq-eqb y y refl))))) (ap (λ zs. y ∷ zs) (all_pass xs (λ z h. alone z (or_right _ _ h))))

pub alone_propagated : (l : Language) (arcs : List Arc) (f : Family) (v x only : ℕ) → AreSome l f → is_arc_consistent arcs f ≡ true → IsOnly (slice_index_or f v []) only → has (slice_index_or f v []) x ≡ true → IsPropagated l arcs (fixed f v x) f
alone_propagated l arcs f v x only some consistent is there = subst (λ (g : Family). IsPropagated l arcs g f) (sym (fixed_alone f v x only is there)) (record {
  largest = record { within = λ w y h. h; consistent = consistent; greatest = λ other within h. within };
  full = some.full;
  family = some.family;
})

-- what lacks the variable stays settled
pub fixed_settled : (l : Language) (list : List Candidate) (against : Option Candidate) (f : Family) (v x : ℕ) → IsLanguage l → AreConstraints l list against → is_arc_consistent (arcs_of l list against) f ≡ true →
    AreSettled (arcs_of l list against) (with_member [] v) (fixed f v x)
fixed_settled l list against f v x lawful are ok = λ k a low none.
    stays_consistent (slice_index_or (arcs_of l list against) k a) f (fixed f v x) (with_member [] v) (arcs_small l list against lawful are k a low)
    (λ w small apart. fixed_other f v x w (not_with [] v w small apart).1) none
    (AllPass-from_list_all (λ b. is_consistent f b.scope b.accepted) (arcs_of l list against) ok k a low)

-- ---- below a prefix

module _ (l : Language) (list : List Candidate) (against : Option Candidate) (order : List ℕ) (is : IsOrder (variable_count l) order) (lawful : IsLanguage l) (are : AreConstraints l list against)
    (p : List ℕ) (x : ℕ) (f : Family) (short : length p < variable_count l) (ready : IsReady l list against (assigned (variable_count l) order p) f) where
  abbrev n : ℕ
  n = variable_count l

  abbrev next : ℕ
  next = slice_index_or order (length p) 0

  abbrev old : Family
  old = left_by l (assigned (variable_count l) order p)

  abbrev new : Family
  new = left_by l (assigned (variable_count l) order (p ++ x ∷ []))

  known : slice_index_or order (length p) 0 < variable_count l
  known = next_known (variable_count l) order is p short

  known_in : slice_index_or order (length p) 0 < length f
  known_in = (let size = ready.family.size in let low = known in omega arith)

  beside_at : (w : ℕ) → value_beside order (p ++ x ∷ []) w ≡ cond (slice_index_or order (length p) 0 == w) (Some x) (value_beside order p w)
  beside_at w = beside_push order p x w is.different (let size = is.size in omega arith)

  new_there : slice_index_or (left_by l (assigned (variable_count l) order (p ++ x ∷ []))) (slice_index_or order (length p) 0) [] ≡ filter (λ y. x == y) (values_of l (slice_index_or order (length p) 0))
  new_there = left_beside l order (p ++ x ∷ []) (slice_index_or order (length p) 0) known
      ∙ ap (domain_of l (slice_index_or order (length p) 0)) (beside_at (slice_index_or order (length p) 0) ∙ ap (λ b. cond b (Some x) (value_beside order p (slice_index_or order (length p) 0))) (eq-eqb (slice_index_or order (length p) 0) _ refl))

  new_other : (w : ℕ) → slice_index_or order (length p) 0 ≢ w → slice_index_or (left_by l (assigned (variable_count l) order (p ++ x ∷ []))) w [] ≡ slice_index_or (left_by l (assigned (variable_count l) order p)) w []
  new_other w other = go (cases_lt w (variable_count l))
    where
      go : (w < variable_count l) ⊎ (variable_count l ≤ w) → slice_index_or (left_by l (assigned (variable_count l) order (p ++ x ∷ []))) w [] ≡ slice_index_or (left_by l (assigned (variable_count l) order p)) w []
      go (inl low) = left_beside l order (p ++ x ∷ []) w low
          ∙ ap (domain_of l w) (beside_at w ∙ ap (λ b. cond b (Some x) (value_beside order p w)) (ne_eqb (slice_index_or order (length p) 0) w other))
          ∙ sym (left_beside l order p w low)
      go (inr high) = left_past l (assigned (variable_count l) order (p ++ x ∷ [])) w high ∙ sym (left_past l (assigned (variable_count l) order p) w high)

  old_there : slice_index_or (left_by l (assigned (variable_count l) order p)) (slice_index_or order (length p) 0) [] ≡ values_of l (slice_index_or order (length p) 0)
  old_there = left_beside l order p (slice_index_or order (length p) 0) known ∙ ap (domain_of l (slice_index_or order (length p) 0)) (beside_next order p is.different (let size = is.size in omega arith))

  new_within : IsSubfamily (left_by l (assigned (variable_count l) order (p ++ x ∷ []))) (left_by l (assigned (variable_count l) order p))
  new_within w y h = go (cases_eq (slice_index_or order (length p) 0) w)
    where
      go : (slice_index_or order (length p) 0 ≡ w) ⊎ (slice_index_or order (length p) 0 ≢ w) → has (slice_index_or (left_by l (assigned (variable_count l) order p)) w []) y ≡ true
      go (inl same) =
          let at : has (filter (λ z. x == z) (values_of l (slice_index_or order (length p) 0))) y ≡ true = ap (λ ys. has ys y) (sym new_there) ∙ ap (λ u. has (slice_index_or (left_by l (assigned (variable_count l) order (p ++ x ∷ []))) u []) y) same ∙ h in
          ap (λ u. has (slice_index_or (left_by l (assigned (variable_count l) order p)) u []) y) (sym same) ∙ ap (λ ys. has ys y) old_there
          ∙ (filter_has (λ z. x == z) (values_of l (slice_index_or order (length p) 0)) y at).0
      go (inr other) = ap (λ ys. has ys y) (sym (new_other w other)) ∙ h

  both_are : (w y : ℕ) → has (slice_index_or (fixed f (slice_index_or order (length p) 0) x) w []) y ≡ (has (slice_index_or (left_by l (assigned (variable_count l) order (p ++ x ∷ []))) w []) y && has (slice_index_or f w []) y)
  both_are w y = go (cases_eq (slice_index_or order (length p) 0) w)
    where
      turned : (a b : Bool) → (a && b) ≡ (b && a)
      turned true true = refl
      turned true false = refl
      turned false true = refl
      turned false false = refl

      within : (own all same : Bool) → (own ≡ true → all ≡ true) → (own && same) ≡ ((all && same) && own)
      within true all same h = rw (h refl) (turned true same)
      within false all same h = sym (turned (all && same) false)

      inside : (a b : Bool) → (b ≡ true → a ≡ true) → b ≡ (a && b)
      inside a true h = sym (ap (λ c. c && true) (h refl))
      inside true false h = refl
      inside false false h = refl

      go : (slice_index_or order (length p) 0 ≡ w) ⊎ (slice_index_or order (length p) 0 ≢ w) →
          has (slice_index_or (fixed f (slice_index_or order (length p) 0) x) w []) y ≡ (has (slice_index_or (left_by l (assigned (variable_count l) order (p ++ x ∷ []))) w []) y && has (slice_index_or f w []) y)
      go (inl same) = subst (λ (u : ℕ). has (slice_index_or (fixed f (slice_index_or order (length p) 0) x) u []) y ≡ (has (slice_index_or (left_by l (assigned (variable_count l) order (p ++ x ∷ []))) u []) y && has (slice_index_or f u []) y)) same
          (ap (λ ys. has ys y) (fixed_same f (slice_index_or order (length p) 0) x known_in) ∙ has-filter (λ z. x == z) (slice_index_or f (slice_index_or order (length p) 0) []) y
          ∙ within (has (slice_index_or f (slice_index_or order (length p) 0) []) y) (has (values_of l (slice_index_or order (length p) 0)) y) (x == y)
          (λ h. ap (λ ys. has ys y) (sym old_there) ∙ ready.largest.within (slice_index_or order (length p) 0) y h)
          ∙ sym (ap (λ b. b && has (slice_index_or f (slice_index_or order (length p) 0) []) y)
          (ap (λ ys. has ys y) new_there ∙ has-filter (λ z. x == z) (values_of l (slice_index_or order (length p) 0)) y)))
      go (inr other) = ap (λ ys. has ys y) (fixed_other f (slice_index_or order (length p) 0) x w other)
          ∙ inside _ (has (slice_index_or f w []) y) (λ h. ap (λ ys. has ys y) (new_other w other) ∙ ready.largest.within w y h)

  -- the largest of the fixed family is that of the longer prefix
  pub below_largest : (g : Family) → IsLargest (arcs_of l list against) (fixed f (slice_index_or order (length p) 0) x) g → IsLargest (arcs_of l list against) (left_by l (assigned (variable_count l) order (p ++ x ∷ []))) g
  below_largest g is_g = largest_again (arcs_of l list against) (left_by l (assigned (variable_count l) order p)) f (left_by l (assigned (variable_count l) order (p ++ x ∷ [])))
      (fixed f (slice_index_or order (length p) 0) x) g ready.largest new_within both_are is_g

  long_new : length (left_by l (assigned (variable_count l) order (p ++ x ∷ []))) ≡ variable_count l
  long_new = length-left l (assigned (variable_count l) order (p ++ x ∷ []))

  alive_by : (g : Family) → length g ≡ variable_count l → IsLargest (arcs_of l list against) (fixed f (slice_index_or order (length p) 0) x) g → is_alive_in l list against order (p ++ x ∷ []) ≡ list_all is_not_empty g
  alive_by g size is_g =
      largest_tells l list against (assigned (variable_count l) order (p ++ x ∷ []))
      ∙ tells_with (arcs_of l list against) (left_by l (assigned (variable_count l) order (p ++ x ∷ []))) g (size ∙ sym long_new) (below_largest g is_g)

  pub below_alive : (g : Family) → IsFamilyOf l g → IsLargest (arcs_of l list against) (fixed f (slice_index_or order (length p) 0) x) g → list_all is_not_empty g ≡ true → is_alive_in l list against order (p ++ x ∷ []) ≡ true
  below_alive g family is_g full = alive_by g family.size is_g ∙ full

  pub below_ready : (g : Family) → IsFamilyOf l g → IsLargest (arcs_of l list against) (fixed f (slice_index_or order (length p) 0) x) g → list_all is_not_empty g ≡ true → IsReady l list against (assigned (variable_count l) order (p ++ x ∷ [])) g
  below_ready g family is_g full = record { largest = below_largest g is_g; full = full; family = family }

  pub below_dead : list_all is_not_empty (largest (arcs_of l list against) (fixed f (slice_index_or order (length p) 0) x)) ≡ false → is_alive_in l list against order (p ++ x ∷ []) ≡ false
  below_dead none = alive_by (largest (arcs_of l list against) (fixed f (slice_index_or order (length p) 0) x))
      (largest_long (arcs_of l list against) (fixed f (slice_index_or order (length p) 0) x) ∙ length-set f (slice_index_or order (length p) 0) (filter (λ y. x == y) (slice_index_or f (slice_index_or order (length p) 0) [])) ∙ ready.family.size)
      (largest_is (arcs_of l list against) (fixed f (slice_index_or order (length p) 0) x)) ∙ none

  pub below_lacking : has (slice_index_or f (slice_index_or order (length p) 0) []) x ≡ false → is_alive_in l list against order (p ++ x ∷ []) ≡ false
  below_lacking none = below_dead (empty_stays (arcs_of l list against) (fixed f (slice_index_or order (length p) 0) x) (fixed_empty f (slice_index_or order (length p) 0) x known_in none))

  -- as the code has it: the place and the family have names of their own
  pub entered : (at : ℕ) (h g : Family) (b : Bool) → at ≡ length p → h ≡ f →
      (b ≡ true → IsPropagated l (arcs_of l list against) (fixed h (slice_index_or order at 0) x) g) → (b ≡ false → RunsEmpty (arcs_of l list against) (fixed h (slice_index_or order at 0) x)) → b ≡ is_alive_in l list against order (p ++ x ∷ [])
  entered at h g true place same to dead = sym (below_alive g ((to refl).family) (subst (λ (k : Family). IsLargest (arcs_of l list against) k g) (λ i. fixed (same i) (slice_index_or order (place i) 0) x) ((to refl).largest)) ((to refl).full))
  entered at h g false place same to dead = sym (below_dead (ap (λ (k : Family). list_all is_not_empty (largest (arcs_of l list against) k)) (sym (λ i. fixed (same i) (slice_index_or order (place i) 0) x)) ∙ dead refl))

  pub entered_ready : (at : ℕ) (h g : Family) → at ≡ length p → h ≡ f → IsPropagated l (arcs_of l list against) (fixed h (slice_index_or order at 0) x) g → IsReady l list against (assigned (variable_count l) order (p ++ x ∷ [])) g
  entered_ready at h g place same to = below_ready g to.family (subst (λ (k : Family). IsLargest (arcs_of l list against) k g) (λ i. fixed (same i) (slice_index_or order (place i) 0) x) to.largest) to.full

-- ---- what is ready

module _ (l : Language) (list : List Candidate) (against : Option Candidate) (order : List ℕ) where
  -- what is ready is alive
  pub ready_alive : (p : List ℕ) (f : Family) → IsReady l list against (assigned (variable_count l) order p) f → is_alive_in l list against order p ≡ true
  ready_alive p f ready =
      largest_tells l list against (assigned (variable_count l) order p)
      ∙ tells_with (arcs_of l list against) (left_by l (assigned (variable_count l) order p)) f
      (ready.family.size ∙ sym (length-left l (assigned (variable_count l) order p))) ready.largest
      ∙ ready.full

-- ---- no value

pub begun_ready : (l : Language) (list : List Candidate) (against : Option Candidate) (full f : Family) (depths : List Family) → full ≡ map (values_of l) (numbers (variable_count l)) → 0 < length depths →
    IsPropagated l (arcs_of l list against) full f → IsReady l list against (replicate (variable_count l) None) (slice_index_or (slice_set depths 0 f) 0 [])
begun_ready l list against full f depths is some from = subst (IsReady l list against (replicate (variable_count l) None)) (sym (get_or-set_same depths 0 f [] some)) (record {
  largest = subst (λ (g : Family). IsLargest (arcs_of l list against) g f) (is ∙ sym (left_none l)) from.largest;
  full = from.full;
  family = from.family;
})

pub begun_dead : (l : Language) (list : List Candidate) (against : Option Candidate) (full : Family) → full ≡ map (values_of l) (numbers (variable_count l)) →
    list_all is_not_empty (largest (arcs_of l list against) full) ≡ false → has_family l list against (replicate (variable_count l) None) ≡ false
begun_dead l list against full is none = largest_tells l list against (replicate (variable_count l) None)
    ∙ ap (λ (g : Family). list_all is_not_empty (largest (arcs_of l list against) g)) (left_none l ∙ sym is) ∙ none
