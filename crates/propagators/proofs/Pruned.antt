-- Pruning a family comes to its largest arc-consistent subfamily.
use Rattle.propagators.proofs.Prelude.{◌≡◌, ℕ, zero, suc, ◌+◌, ◌<◌, ◌≤◌, Bool, true, false, cond, ◌&&◌, ◌||◌, not, List, [], ◌∷◌, length, map, refl, sym, ◌∙◌, ap, arith, inl, inr, ◌⊎◌, ◌==◌, slice_index, slice_index_or, filter, list_any, list_all, range_with_len, get_or-map, get_or-range_with_len, list_all-from_AllPass, AllPass-from_list_all, and_parts, and_from, or_left, or_right, or_cases, both_ways, eq-eqb, eqb-true, numbers, has, Family, Arc, selections, sets_on, has_support, is_consistent, is_arc_consistent, IsSubfamily, is_supported, prune_from, prune, family_size, pruned, largest, LargestIs, LargestIsOne, LargestAgain, any-map, any-flat_map}
use Rattle.language.proofs.Lists.{all_below}

length-range : (a n : ℕ) → length (range_with_len a n) ≡ n
length-range a zero = refl
length-range a (suc n) = ap suc (length-range (a + 1) n)

-- ---- more values give more support

pub has_head : (x : ℕ) (xs : List ℕ) → has (x ∷ xs) x ≡ true
has_head x xs = or_left _ _ (eq-eqb x x refl)

any_member : (p : ℕ → Bool) (xs ys : List ℕ) → ((x : ℕ) → has xs x ≡ true → has ys x ≡ true) → list_any p xs ≡ true → list_any p ys ≡ true
any_member p [] ys more h = cc
any_member p (x ∷ xs) ys more h = go (or_cases (p x) (list_any p xs) h) (any_member p xs ys (λ y here. more y (or_right (x == y) _ here)))
  where
    at_member : (zs : List ℕ) → has zs x ≡ true → p x ≡ true → list_any p zs ≡ true
    at_member zs here at = any_at zs here at
      where
        any_at : (zs : List ℕ) → has zs x ≡ true → p x ≡ true → list_any p zs ≡ true
        any_at [] here at = cc
        any_at (z ∷ zs) here at = pick (or_cases (z == x) (has zs x) here) (λ there. any_at zs there at)
          where
            pick : ((z == x) ≡ true) ⊎ (has zs x ≡ true) → (has zs x ≡ true → list_any p zs ≡ true) → (p z || list_any p zs) ≡ true
            pick (inl same) rest = or_left _ _ (ap p (eqb-true z x same) ∙ at)
            pick (inr there) rest = or_right _ _ (rest there)

    go : (p x ≡ true) ⊎ (list_any p xs ≡ true) → (list_any p xs ≡ true → list_any p ys ≡ true) → list_any p ys ≡ true
    go (inl at) rest = at_member ys (more x (has_head x xs)) at
    go (inr later) rest = rest later

any_weaker : (p q : ℕ → Bool) (xs : List ℕ) → ((x : ℕ) → p x ≡ true → q x ≡ true) → list_any p xs ≡ true → list_any q xs ≡ true
any_weaker p q [] h at = at
any_weaker p q (x ∷ xs) h at = go (or_cases (p x) (list_any p xs) at) (any_weaker p q xs h)
  where
    go : (p x ≡ true) ⊎ (list_any p xs ≡ true) → (list_any p xs ≡ true → list_any q xs ≡ true) → (q x || list_any q xs) ≡ true
    go (inl here) rest = or_left _ _ (h x here)
    go (inr there) rest = or_right _ _ (rest there)

selection_any : (p : List ℕ → Bool) (f g : Family) (scope : List ℕ) → IsSubfamily f g → list_any p (selections (sets_on f scope)) ≡ true → list_any p (selections (sets_on g scope)) ≡ true
selection_any p f g [] more h = h
selection_any p f g (v ∷ scope) more h =
    as_any g ∙ any_member (λ x. list_any (λ rest. p (x ∷ rest)) (selections (sets_on g scope))) (slice_index_or f v []) (slice_index_or g v []) (more v)
    (any_weaker (λ x. list_any (λ rest. p (x ∷ rest)) (selections (sets_on f scope))) (λ x. list_any (λ rest. p (x ∷ rest)) (selections (sets_on g scope))) (slice_index_or f v [])
    (λ x. selection_any (λ rest. p (x ∷ rest)) f g scope more) (sym (as_any f) ∙ h))
  where
    maps : (g : Family) (xs : List ℕ) → list_any (λ x. list_any p (map (λ rest. x ∷ rest) (selections (sets_on g scope)))) xs ≡ list_any (λ x. list_any (λ rest. p (x ∷ rest)) (selections (sets_on g scope))) xs
    maps g [] = refl
    maps g (x ∷ xs) = λ i. any-map p (λ (rest : List ℕ). x ∷ rest) (selections (sets_on g scope)) i || maps g xs i

    as_any : (g : Family) → list_any p (selections (sets_on g (v ∷ scope))) ≡ list_any (λ x. list_any (λ rest. p (x ∷ rest)) (selections (sets_on g scope))) (slice_index_or g v [])
    as_any g = any-flat_map p (λ (x : ℕ). map (λ rest. x ∷ rest) (selections (sets_on g scope))) (slice_index_or g v []) ∙ maps g (slice_index_or g v [])

pub support_more : (f g : Family) (a : Arc) (i x : ℕ) → IsSubfamily f g → has_support (sets_on f a.scope) a.accepted i x ≡ true → has_support (sets_on g a.scope) a.accepted i x ≡ true
support_more f g a i x more h = selection_any (λ tuple. (slice_index tuple i == x) && a.accepted tuple) f g a.scope more h

-- ---- consistency, value by value

-- each value of the variable at place i of the scope has support
pub record IsSupporting (a : Arc) (f : Family) : Type 0 where
  pub at : (i x : ℕ) → i < length a.scope → has (slice_index_or f (slice_index_or a.scope i 0) []) x ≡ true → has_support (sets_on f a.scope) a.accepted i x ≡ true

set_at : (f : Family) (scope : List ℕ) (i : ℕ) → i < length scope → slice_index_or (sets_on f scope) i [] ≡ slice_index_or f (slice_index_or scope i 0) []
set_at f scope i low = get_or-map (λ (v : ℕ). slice_index_or f v []) scope i 0 [] low

all_member : (p : ℕ → Bool) (xs : List ℕ) → ((x : ℕ) → has xs x ≡ true → p x ≡ true) → list_all p xs ≡ true
all_member p [] h = refl
all_member p (x ∷ xs) h = and_from _ _ (h x (has_head x xs)) (all_member p xs (λ y here. h y (or_right (x == y) _ here)))

member_all : (p : ℕ → Bool) (xs : List ℕ) (x : ℕ) → list_all p xs ≡ true → has xs x ≡ true → p x ≡ true
member_all p [] x h here = cc
member_all p (y ∷ xs) x h here = go (or_cases (y == x) (has xs x) here) (member_all p xs x (and_parts (p y) (list_all p xs) h).1)
  where
    go : ((y == x) ≡ true) ⊎ (has xs x ≡ true) → (has xs x ≡ true → p x ≡ true) → p x ≡ true
    go (inl same) rest = ap p (sym (eqb-true y x same)) ∙ (and_parts (p y) (list_all p xs) h).0
    go (inr there) rest = rest there

below_number : (p : ℕ → Bool) (n i : ℕ) → list_all p (numbers n) ≡ true → i < n → p i ≡ true
below_number p n i h low = go (AllPass-from_list_all p (numbers n) h i 0 (omega (arith, length-range 0 n)))
  where
    go : p (slice_index_or (numbers n) i 0) ≡ true → p i ≡ true
    go at = ap p (sym (get_or-range_with_len 0 n i 0 low ∙ (let e : 0 + i ≡ i = omega arith in e))) ∙ at

pub supporting : (a : Arc) (f : Family) → is_consistent f a.scope a.accepted ≡ true → IsSupporting a f
supporting a f h = record {
  at = λ i x low here. member_all (has_support (sets_on f a.scope) a.accepted i) (slice_index_or (sets_on f a.scope) i []) x
      (below_number (λ i. list_all (has_support (sets_on f a.scope) a.accepted i) (slice_index_or (sets_on f a.scope) i [])) (length a.scope) i h low)
      (ap (λ xs. has xs x) (set_at f a.scope i low) ∙ here);
}

pub consistent : (a : Arc) (f : Family) → IsSupporting a f → is_consistent f a.scope a.accepted ≡ true
consistent a f is = list_all-from_AllPass (λ i. list_all (has_support (sets_on f a.scope) a.accepted i) (slice_index_or (sets_on f a.scope) i [])) (numbers (length a.scope))
    (all_below (λ i. list_all (has_support (sets_on f a.scope) a.accepted i) (slice_index_or (sets_on f a.scope) i []) ≡ true) (length a.scope) (λ i low.
    all_member (has_support (sets_on f a.scope) a.accepted i) (slice_index_or (sets_on f a.scope) i []) (λ x here. is.at i x low (sym (ap (λ xs. has xs x) (set_at f a.scope i low)) ∙ here))))

pub largest_is_one : LargestIsOne
largest_is_one arcs from f g is_f is_g = (is_g.greatest f is_f.within is_f.consistent, is_f.greatest g is_g.within is_g.consistent)

pub largest_again : LargestAgain
largest_again arcs from f fewer both g old sub is new = record {
  within = λ v x h. (and_parts _ _ (sym (is v x) ∙ new.within v x h)).0;
  consistent = new.consistent;
  greatest = λ other below ok. new.greatest other (λ v x h. is v x ∙ and_from _ _ (below v x h) (old.greatest other (λ w y at. sub w y (below w y at)) ok v x h)) ok;
}

-- ---- pruning once

pub filter_has : (p : ℕ → Bool) (xs : List ℕ) (x : ℕ) → has (filter p xs) x ≡ true → (has xs x ≡ true) × (p x ≡ true)
filter_has p [] x h = absurd (let no : false ≡ true = h in let is : ⊥ = cc in is)
filter_has p (y ∷ xs) x h = go (p y) refl h (filter_has p xs x)
  where
    go : (b : Bool) → p y ≡ b → has (cond b (y ∷ filter p xs) (filter p xs)) x ≡ true → (has (filter p xs) x ≡ true → (has xs x ≡ true) × (p x ≡ true)) → (has (y ∷ xs) x ≡ true) × (p x ≡ true)
    go true e h rest = pick (or_cases (y == x) (has (filter p xs) x) h)
      where
        pick : ((y == x) ≡ true) ⊎ (has (filter p xs) x ≡ true) → (has (y ∷ xs) x ≡ true) × (p x ≡ true)
        pick (inl same) = (or_left _ _ same, ap p (sym (eqb-true y x same)) ∙ e)
        pick (inr there) = (or_right _ _ (rest there).0, (rest there).1)
    go false e h rest = (or_right _ _ (rest h).0, (rest h).1)

pub has_filter : (p : ℕ → Bool) (xs : List ℕ) (x : ℕ) → has xs x ≡ true → p x ≡ true → has (filter p xs) x ≡ true
has_filter p [] x h at = h
has_filter p (y ∷ xs) x h at = go (p y) refl (or_cases (y == x) (has xs x) h) (λ there. has_filter p xs x there at)
  where
    go : (b : Bool) → p y ≡ b → ((y == x) ≡ true) ⊎ (has xs x ≡ true) → (has xs x ≡ true → has (filter p xs) x ≡ true) → has (cond b (y ∷ filter p xs) (filter p xs)) x ≡ true
    go true e (inl same) rest = or_left _ _ same
    go true e (inr there) rest = or_right _ _ (rest there)
    go false e (inl same) rest = absurd (both_ways _ e (ap p (eqb-true y x same) ∙ at))
    go false e (inr there) rest = rest there

prune_at : (arcs : List Arc) (whole : Family) (a : ℕ) (f : Family) (v : ℕ) → slice_index_or (prune_from arcs whole a f) v [] ≡ filter (is_supported arcs whole (a + v)) (slice_index_or f v [])
prune_at arcs whole a [] v = refl
prune_at arcs whole a (xs ∷ f) zero = ap (λ u. filter (is_supported arcs whole u) xs) (let e : a ≡ a + 0 = omega arith in e)
prune_at arcs whole a (xs ∷ f) (suc v) = prune_at arcs whole (a + 1) f v ∙ ap (λ u. filter (is_supported arcs whole u) (slice_index_or f v [])) (let e : a + 1 + v ≡ a + suc v = omega arith in e)

pruned_set : (arcs : List Arc) (f : Family) (v : ℕ) → slice_index_or (prune arcs f) v [] ≡ filter (is_supported arcs f v) (slice_index_or f v [])
pruned_set arcs f v = prune_at arcs f 0 f v ∙ ap (λ u. filter (is_supported arcs f u) (slice_index_or f v [])) (let e : 0 + v ≡ v = omega arith in e)

pub prune_within : (arcs : List Arc) (f : Family) → IsSubfamily (prune arcs f) f
prune_within arcs f v x h = (filter_has (is_supported arcs f v) (slice_index_or f v []) x (sym (ap (λ xs. has xs x) (pruned_set arcs f v)) ∙ h)).0

prune_supported : (arcs : List Arc) (f : Family) (v x : ℕ) → has (slice_index_or (prune arcs f) v []) x ≡ true → is_supported arcs f v x ≡ true
prune_supported arcs f v x h = (filter_has (is_supported arcs f v) (slice_index_or f v []) x (sym (ap (λ xs. has xs x) (pruned_set arcs f v)) ∙ h)).1

-- a value of a consistent subfamily has support
supported_in : (arcs : List Arc) (f other : Family) (v x : ℕ) → IsSubfamily other f → is_arc_consistent arcs other ≡ true → has (slice_index_or other v []) x ≡ true → is_supported arcs f v x ≡ true
supported_in [] f other v x sub ok here = refl
supported_in (a ∷ arcs) f other v x sub ok here =
    let parts = and_parts (is_consistent other a.scope a.accepted) (is_arc_consistent arcs other) ok in
    let supports = supporting a other parts.0 in
    and_from _ _
    (list_all-from_AllPass (λ i. not (slice_index_or a.scope i 0 == v) || has_support (sets_on f a.scope) a.accepted i x) (numbers (length a.scope))
    (all_below (λ i. (not (slice_index_or a.scope i 0 == v) || has_support (sets_on f a.scope) a.accepted i x) ≡ true) (length a.scope) (λ i low. go i (slice_index_or a.scope i 0 == v) refl (λ same.
    support_more other f a i x sub (supports.at i x low (ap (λ u. has (slice_index_or other u []) x) (eqb-true _ v same) ∙ here))))))
    (supported_in arcs f other v x sub parts.1 here)
  where
    go : (i : ℕ) (b : Bool) → (slice_index_or a.scope i 0 == v) ≡ b → ((slice_index_or a.scope i 0 == v) ≡ true → has_support (sets_on f a.scope) a.accepted i x ≡ true) →
        (not (slice_index_or a.scope i 0 == v) || has_support (sets_on f a.scope) a.accepted i x) ≡ true
    go i true e h = or_right _ _ (h e)
    go i false e h = or_left _ _ (ap not e)

prune_greatest : (arcs : List Arc) (f other : Family) → IsSubfamily other f → is_arc_consistent arcs other ≡ true → IsSubfamily other (prune arcs f)
prune_greatest arcs f other sub ok v x here =
    ap (λ xs. has xs x) (pruned_set arcs f v) ∙ has_filter (is_supported arcs f v) (slice_index_or f v []) x (sub v x here) (supported_in arcs f other v x sub ok here)

-- where each value has support, the family is consistent
each_supported : (arcs : List Arc) (f : Family) → ((v x : ℕ) → has (slice_index_or f v []) x ≡ true → is_supported arcs f v x ≡ true) → is_arc_consistent arcs f ≡ true
each_supported [] f h = refl
each_supported (a ∷ arcs) f h = and_from _ _
    (consistent a f (record {
      at = λ i x low here. go i x (slice_index_or a.scope i 0 == slice_index_or a.scope i 0) (eq-eqb _ _ refl)
          (below_number (λ j. not (slice_index_or a.scope j 0 == slice_index_or a.scope i 0) || has_support (sets_on f a.scope) a.accepted j x) (length a.scope) i (and_parts _ _ (h (slice_index_or a.scope i 0) x here)).0 low);
    }))
    (each_supported arcs f (λ v x here. (and_parts _ _ (h v x here)).1))
  where
    go : (i x : ℕ) (b : Bool) → b ≡ true → (not b || has_support (sets_on f a.scope) a.accepted i x) ≡ true → has_support (sets_on f a.scope) a.accepted i x ≡ true
    go i x true e h = h
    go i x false e h = cc

-- ---- pruning comes to an end

pub filter_less : (p : ℕ → Bool) (xs : List ℕ) → (filter p xs ≡ xs) ⊎ (length (filter p xs) < length xs)
filter_less p [] = inl refl
filter_less p (x ∷ xs) = go (p x) (filter_less p xs)
  where
    shorter : (filter p xs ≡ xs) ⊎ (length (filter p xs) < length xs) → length (filter p xs) < suc (length xs)
    shorter (inl same) = omega (arith, ap length same)
    shorter (inr less) = omega arith

    go : (b : Bool) → (filter p xs ≡ xs) ⊎ (length (filter p xs) < length xs) → (cond b (x ∷ filter p xs) (filter p xs) ≡ x ∷ xs) ⊎ (length (cond b (x ∷ filter p xs) (filter p xs)) < suc (length xs))
    go true (inl same) = inl (ap (λ ys. x ∷ ys) same)
    go true (inr less) = inr (omega arith)
    go false rest = inr (shorter rest)

prune_less : (arcs : List Arc) (whole : Family) (a : ℕ) (f : Family) → (prune_from arcs whole a f ≡ f) ⊎ (family_size (prune_from arcs whole a f) < family_size f)
prune_less arcs whole a [] = inl refl
prune_less arcs whole a (xs ∷ f) = go (filter_less (is_supported arcs whole a) xs) (prune_less arcs whole (a + 1) f)
  where
    go : (filter (is_supported arcs whole a) xs ≡ xs) ⊎ (length (filter (is_supported arcs whole a) xs) < length xs) →
        (prune_from arcs whole (a + 1) f ≡ f) ⊎ (family_size (prune_from arcs whole (a + 1) f) < family_size f) →
        ((filter (is_supported arcs whole a) xs ∷ prune_from arcs whole (a + 1) f) ≡ xs ∷ f) ⊎ (family_size (filter (is_supported arcs whole a) xs ∷ prune_from arcs whole (a + 1) f) < family_size (xs ∷ f))
    go (inl same) (inl rest) = inl (λ i. same i ∷ rest i)
    go (inl same) (inr less) = inr (omega (arith, ap length same))
    go (inr less) (inl rest) = inr (omega (arith, ap family_size rest))
    go (inr less) (inr lesser) = inr (omega arith)

stays : (k : ℕ) (arcs : List Arc) (f : Family) → prune arcs f ≡ f → pruned k arcs f ≡ f
stays zero arcs f same = refl
stays (suc k) arcs f same = ap (pruned k arcs) same ∙ stays k arcs f same

fixed_after : (k : ℕ) (arcs : List Arc) (f : Family) → family_size f ≤ k → prune arcs (pruned k arcs f) ≡ pruned k arcs f
fixed_after zero arcs f few = go (prune_less arcs f 0 f)
  where
    go : (prune arcs f ≡ f) ⊎ (family_size (prune arcs f) < family_size f) → prune arcs f ≡ f
    go (inl same) = same
    go (inr less) = absurd (omega arith)
fixed_after (suc k) arcs f few = go (prune_less arcs f 0 f) (λ less. fixed_after k arcs (prune arcs f) (omega arith))
  where
    go : (prune arcs f ≡ f) ⊎ (family_size (prune arcs f) < family_size f) → (family_size (prune arcs f) < family_size f → prune arcs (pruned k arcs (prune arcs f)) ≡ pruned k arcs (prune arcs f)) →
        prune arcs (pruned k arcs (prune arcs f)) ≡ pruned k arcs (prune arcs f)
    go (inl same) rest = ap (λ g. prune arcs (pruned k arcs g)) same ∙ ap (prune arcs) (stays k arcs f same) ∙ same ∙ sym (ap (pruned k arcs) same ∙ stays k arcs f same)
    go (inr less) rest = rest less

pruned_within : (k : ℕ) (arcs : List Arc) (f : Family) → IsSubfamily (pruned k arcs f) f
pruned_within zero arcs f = λ v x h. h
pruned_within (suc k) arcs f = λ v x h. prune_within arcs f v x (pruned_within k arcs (prune arcs f) v x h)

pruned_greatest : (k : ℕ) (arcs : List Arc) (f other : Family) → IsSubfamily other f → is_arc_consistent arcs other ≡ true → IsSubfamily other (pruned k arcs f)
pruned_greatest zero arcs f other sub ok = sub
pruned_greatest (suc k) arcs f other sub ok = pruned_greatest k arcs (prune arcs f) other (prune_greatest arcs f other sub ok) ok

pub largest_is : LargestIs
largest_is arcs family =
    let fixed = fixed_after (family_size family) arcs family (omega arith) in
    record {
      within = pruned_within (family_size family) arcs family;
      consistent = each_supported arcs (largest arcs family) (λ v x here. prune_supported arcs (largest arcs family) v x (ap (λ g. has (slice_index_or g v []) x) fixed ∙ here));
      greatest = λ other sub ok. pruned_greatest (family_size family) arcs family other sub ok;
    }
