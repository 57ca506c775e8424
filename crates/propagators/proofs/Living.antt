-- A prefix is alive where no set of the largest consistent subfamily of its values is empty.
use Rattle.propagators.proofs.Prelude.{◌≡◌, ℕ, zero, suc, ◌+◌, Bool, true, false, cond, ◌&&◌, ◌||◌, List, [], ◌∷◌, length, map, refl, sym, ◌∙◌, ap, subst, arith, inl, inr, ◌⊎◌, ◌==◌, All, slice_index_or, filter, list_any, list_all, flat_map, list_any-append, Any-from_list_any, All-head, All-tail, All-nil, All-cons, All-append, All-map, All-weaker, All-filter, filter_passes, and_parts, and_from, or_left, or_right, or_cases, has, Family, Arc, subsets, is_not_empty, left_by, families_within, arcs_of, is_arc_consistent, IsSubfamily, is_supported, prune_from, prune, family_size, pruned, largest, LargestTells, any-filter, any-map, any-flat_map}
use Rattle.propagators.proofs.Pruned.{largest_is, has_head}
use Rattle.shared_lemmas.proofs.Booleans.{both_true}

-- ---- the families within another one lie within its sets, and no set is empty

record IsChoice (from f : Family) : Type 0 where
  within : IsSubfamily f from
  full : list_all is_not_empty f ≡ true
  long : length f ≡ length from

all_flat : {X Y : Type 0} (P : X → Type 0) (Q : Y → Type 0) (f : X → List Y) (xs : List X) → All P xs → ((x : X) → P x → All Q (f x)) → All Q (flat_map f xs)
all_flat P Q f [] all h = All-nil Q
all_flat P Q f (x ∷ xs) all h = All-append Q (f x) (flat_map f xs) (h x (All-head P x xs all)) (all_flat P Q f xs (All-tail P x xs all) h)

abbrev IsIn : List ℕ → List ℕ → Type 0
IsIn ys s = (x : ℕ) → has s x ≡ true → has ys x ≡ true

subsets_in : (ys : List ℕ) → All (IsIn ys) (subsets ys)
subsets_in [] = All-cons (IsIn []) [] [] (λ x h. h) (All-nil (IsIn []))
subsets_in (y ∷ ys) = All-append (IsIn (y ∷ ys)) (map (λ s. y ∷ s) (subsets ys)) (subsets ys)
    (All-map (IsIn (y ∷ ys)) (λ s. y ∷ s) (subsets ys) (All-weaker (IsIn ys) (λ s. IsIn (y ∷ ys) (y ∷ s)) (λ s h x at. with_one s h x (or_cases _ _ at)) (subsets ys) (subsets_in ys)))
    (All-weaker (IsIn ys) (IsIn (y ∷ ys)) (λ s h x at. or_right _ _ (h x at)) (subsets ys) (subsets_in ys))
  where
    with_one : (s : List ℕ) → IsIn ys s → (x : ℕ) → ((y == x) ≡ true) ⊎ (has s x ≡ true) → ((y == x) || has ys x) ≡ true
    with_one s h x (inl same) = or_left _ _ same
    with_one s h x (inr there) = or_right _ _ (h x there)

-- the nonempty sets within one
abbrev pub sets_within : List ℕ → List (List ℕ)
sets_within ys = filter is_not_empty (subsets ys)

pub families_as : (p : Family → Bool) (ys : List ℕ) (from : Family) → list_any p (families_within (ys ∷ from)) ≡ list_any (λ xs. list_any (λ rest. p (xs ∷ rest)) (families_within from)) (sets_within ys)
families_as p ys from = any-flat_map p (λ (xs : List ℕ). map (λ rest. xs ∷ rest) (families_within from)) (sets_within ys) ∙ go (sets_within ys)
  where
    go : (doms : List (List ℕ)) → list_any (λ xs. list_any p (map (λ rest. xs ∷ rest) (families_within from))) doms ≡ list_any (λ xs. list_any (λ rest. p (xs ∷ rest)) (families_within from)) doms
    go [] = refl
    go (xs ∷ doms) = λ i. any-map p (λ (rest : Family). xs ∷ rest) (families_within from) i || go doms i

record IsPart (ys s : List ℕ) : Type 0 where
  inside : IsIn ys s
  full : is_not_empty s ≡ true

sets_parts : (ys : List ℕ) → All (IsPart ys) (sets_within ys)
sets_parts ys = λ k x low. record {
  inside = All-filter is_not_empty (IsIn ys) (subsets ys) (subsets_in ys) k x low;
  full = filter_passes is_not_empty (subsets ys) k x low;
}

choices : (from : Family) → All (IsChoice from) (families_within from)
choices [] = All-cons (IsChoice []) [] [] (record { within = λ v x h. h; full = refl; long = refl }) (All-nil (IsChoice []))
choices (ys ∷ from) = all_flat (IsPart ys) (IsChoice (ys ∷ from)) (λ (xs : List ℕ). map (λ rest. xs ∷ rest) (families_within from)) (sets_within ys) (sets_parts ys) (λ xs part.
    All-map (IsChoice (ys ∷ from)) (λ rest. xs ∷ rest) (families_within from) (All-weaker (IsChoice from) (λ rest. IsChoice (ys ∷ from) (xs ∷ rest)) (λ rest is. with_set xs part rest is) (families_within from) (choices from)))
  where
    with_set : (xs : List ℕ) → IsPart ys xs → (rest : Family) → IsChoice from rest → IsChoice (ys ∷ from) (xs ∷ rest)
    with_set xs part rest is = record { within = inside; full = and_from _ _ part.full is.full; long = ap suc is.long }
      where
        inside : (v x : ℕ) → has (slice_index_or (xs ∷ rest) v []) x ≡ true → has (slice_index_or (ys ∷ from) v []) x ≡ true
        inside zero x h = part.inside x h
        inside (suc v) x h = is.within v x h

-- a family without empty sets that lies within another of the same length
pub full_above : (f g : Family) → length f ≡ length g → IsSubfamily f g → list_all is_not_empty f ≡ true → list_all is_not_empty g ≡ true
full_above [] [] long sub h = refl
full_above [] (ys ∷ g) long sub h = absurd (omega arith)
full_above (xs ∷ f) [] long sub h = absurd (omega arith)
full_above (xs ∷ f) (ys ∷ g) long sub h =
    let parts = and_parts (is_not_empty xs) (list_all is_not_empty f) h in
    and_from _ _ (go xs ys (λ x. sub 0 x) parts.0) (full_above f g (omega arith) (λ v x. sub (suc v) x) parts.1)
  where
    go : (xs ys : List ℕ) → ((x : ℕ) → has xs x ≡ true → has ys x ≡ true) → is_not_empty xs ≡ true → is_not_empty ys ≡ true
    go [] ys more h = cc
    go (x ∷ xs) [] more h = absurd (let no : false ≡ true = more x (has_head x xs) in let is : ⊥ = cc in is)
    go (x ∷ xs) (y ∷ ys) more h = refl

-- ---- what is left after pruning is one of the families

-- xs is among the subsets of ys
abbrev IsCut : List ℕ → List ℕ → Type 0
IsCut ys xs = (q : List ℕ → Bool) → q xs ≡ true → list_any q (subsets ys) ≡ true

cut_whole : (ys : List ℕ) → IsCut ys ys
cut_whole [] q h = or_left _ _ h
cut_whole (y ∷ ys) q h = list_any-append q (map (λ s. y ∷ s) (subsets ys)) (subsets ys) ∙ or_left _ _ (any-map q (λ s. y ∷ s) (subsets ys) ∙ cut_whole ys (λ s. q (y ∷ s)) h)

cut_filter : (t : ℕ → Bool) (ys : List ℕ) (q : List ℕ → Bool) → list_any (λ s. q (filter t s)) (subsets ys) ≡ true → list_any q (subsets ys) ≡ true
cut_filter t [] q h = h
cut_filter t (y ∷ ys) q h =
    list_any-append q (map (λ s. y ∷ s) (subsets ys)) (subsets ys)
    ∙ go (t y) refl (or_cases _ _ (sym (list_any-append (λ s. q (filter t s)) (map (λ s. y ∷ s) (subsets ys)) (subsets ys)) ∙ h)) (cut_filter t ys q) (cut_filter t ys (λ s. q (y ∷ s)))
  where
    go : (b : Bool) → t y ≡ b → (list_any (λ s. q (filter t s)) (map (λ s. y ∷ s) (subsets ys)) ≡ true) ⊎ (list_any (λ s. q (filter t s)) (subsets ys) ≡ true) →
        (list_any (λ s. q (filter t s)) (subsets ys) ≡ true → list_any q (subsets ys) ≡ true) → (list_any (λ s. q (y ∷ filter t s)) (subsets ys) ≡ true → list_any (λ s. q (y ∷ s)) (subsets ys) ≡ true) →
        (list_any q (map (λ s. y ∷ s) (subsets ys)) || list_any q (subsets ys)) ≡ true
    go true e (inl here) plain with_y = or_left _ _ (any-map q (λ s. y ∷ s) (subsets ys) ∙ with_y (
        subst (λ b. list_any (λ s. q (cond b (y ∷ filter t s) (filter t s))) (subsets ys) ≡ true) e (sym (any-map (λ s. q (filter t s)) (λ s. y ∷ s) (subsets ys)) ∙ here)))
    go false e (inl here) plain with_y = or_right _ _ (plain (
        subst (λ b. list_any (λ s. q (cond b (y ∷ filter t s) (filter t s))) (subsets ys) ≡ true) e (sym (any-map (λ s. q (filter t s)) (λ s. y ∷ s) (subsets ys)) ∙ here)))
    go b e (inr there) plain with_y = or_right _ _ (plain there)

abbrev AreCuts : Family → Family → Type 0
AreCuts [] [] = Unit {0}
AreCuts [] (xs ∷ f) = ⊥
AreCuts (ys ∷ from) [] = ⊥
AreCuts (ys ∷ from) (xs ∷ f) = IsCut ys xs × AreCuts from f

cuts_whole : (f : Family) → AreCuts f f
cuts_whole [] = tt
cuts_whole (xs ∷ f) = (cut_whole xs, cuts_whole f)

cuts_prune : (arcs : List Arc) (whole : Family) (v : ℕ) (from f : Family) → AreCuts from f → AreCuts from (prune_from arcs whole v f)
cuts_prune arcs whole v [] [] h = tt
cuts_prune arcs whole v [] (xs ∷ f) h = absurd h
cuts_prune arcs whole v (ys ∷ from) [] h = absurd h
cuts_prune arcs whole v (ys ∷ from) (xs ∷ f) h = (λ q at. cut_filter (is_supported arcs whole v) ys q (h.0 (λ s. q (filter (is_supported arcs whole v) s)) at), cuts_prune arcs whole (v + 1) from f h.1)

cuts_pruned : (k : ℕ) (arcs : List Arc) (from f : Family) → AreCuts from f → AreCuts from (pruned k arcs f)
cuts_pruned zero arcs from f h = h
cuts_pruned (suc k) arcs from f h = cuts_pruned k arcs from (prune arcs f) (cuts_prune arcs f 0 from f h)

pub cuts_long : (from f : Family) → AreCuts from f → length from ≡ length f
cuts_long [] [] h = refl
cuts_long [] (xs ∷ f) h = absurd h
cuts_long (ys ∷ from) [] h = absurd h
cuts_long (ys ∷ from) (xs ∷ f) h = ap suc (cuts_long from f h.1)

a_family : (p : Family → Bool) (from f : Family) → AreCuts from f → list_all is_not_empty f ≡ true → p f ≡ true → list_any p (families_within from) ≡ true
a_family p [] [] cuts full at = or_left _ _ at
a_family p [] (xs ∷ f) cuts full at = absurd cuts
a_family p (ys ∷ from) [] cuts full at = absurd cuts
a_family p (ys ∷ from) (xs ∷ f) cuts full at =
    let parts = and_parts (is_not_empty xs) (list_all is_not_empty f) full in
    let rest : list_any (λ rest. p (xs ∷ rest)) (families_within from) ≡ true = a_family (λ rest. p (xs ∷ rest)) from f cuts.1 parts.1 at in
    families_as p ys from
    ∙ any-filter (λ zs. list_any (λ rest. p (zs ∷ rest)) (families_within from)) is_not_empty (subsets ys)
    ∙ cuts.0 (λ zs. is_not_empty zs && list_any (λ rest. p (zs ∷ rest)) (families_within from)) (and_from _ _ parts.0 rest)

-- ---- together

pub living : (arcs : List Arc) (from : Family) → list_any (is_arc_consistent arcs) (families_within from) ≡ list_all is_not_empty (largest arcs from)
living arcs from = both_true _ _ (λ some.
    let found = Any-from_list_any (is_arc_consistent arcs) (families_within from) some in
    let is = choices from found.0 found.1 found.2 in
    let f : Family = slice_index_or (families_within from) found.0 found.1 in
    full_above f (largest arcs from)
    (is.long ∙ cuts_long from (largest arcs from) cuts)
    ((largest_is arcs from).greatest f is.within (ap (is_arc_consistent arcs) found.3 ∙ found.4)) is.full)
    (λ full. a_family (is_arc_consistent arcs) from (largest arcs from) cuts full (largest_is arcs from).consistent)
  where
    cuts : AreCuts from (largest arcs from)
    cuts = cuts_pruned (family_size from) arcs from from (cuts_whole from)

pub largest_long : (arcs : List Arc) (f : Family) → length (largest arcs f) ≡ length f
largest_long arcs f = sym (cuts_long f (largest arcs f) (cuts_pruned (family_size f) arcs f f (cuts_whole f)))

pub largest_tells : LargestTells
largest_tells l list against e = living (arcs_of l list against) (left_by l e)
