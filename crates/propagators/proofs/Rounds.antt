-- Going through all conditions until none takes a value away.
use Rattle.propagators.proofs.Prelude.{◌≡◌, ℕ, suc, ◌+◌, ◌<◌, ◌≤◌, Bool, true, false, ◌||◌, List, [], ◌∷◌, length, refl, sym, ◌∙◌, ap, subst, arith, inl, inr, ◌⊎◌, ◌≢◌, slice_index_or, All, min, list_any, list_all, list_all-from_AllPass, AllPass-from_list_all, or_left, both_ways, cases_eq, cases_lt, eq-eqb, numbers, has, union, has-set_where, has-set_where_above, Family, Arc, sets_on, has_support, is_consistent, is_arc_consistent, is_not_empty, family_size, IsSubfamily, IsLargest, largest, IsRevised, IsDead, DifferOnlyAt, AreSettled, AreFewer, IsCutAt, IsUnderway}
use Rattle.propagators.proofs.Pruned.{largest_is}
use Rattle.propagators.proofs.Living.{full_above, largest_long}
use Rattle.propagators.proofs.Replacing.{all_full}
use Rattle.std.proofs.lemmas.Bool.{or_parts}
use Rattle.shared_lemmas.proofs.Booleans.{both_true}

-- sets that stay keep a condition consistent
same_sets : (f g : Family) (changed scope : List ℕ) → All (λ v. v < 128) scope → DifferOnlyAt changed f g → list_any (has changed) scope ≡ false → sets_on g scope ≡ sets_on f scope
same_sets f g changed [] small differ none = refl
same_sets f g changed (v ∷ scope) small differ none =
    let parts = or_parts (has changed v) (list_any (has changed) scope) none in
    let here = differ v (small 0 0 (omega arith)) parts.0 in
    let rest = same_sets f g changed scope (λ k d low. tail k d low) differ parts.1 in
    λ i. here i ∷ rest i
  where
    tail : (k d : ℕ) → k < length scope → slice_index_or scope k d < 128
    tail k d low = small (suc k) d (omega arith)

pub stays_consistent : (a : Arc) (f g : Family) (changed : List ℕ) → All (λ v. v < 128) a.scope → DifferOnlyAt changed f g → list_any (has changed) a.scope ≡ false →
    is_consistent f a.scope a.accepted ≡ true → is_consistent g a.scope a.accepted ≡ true
stays_consistent a f g changed small differ none ok =
    ap (λ (sets : List (List ℕ)). list_all (λ i. list_all (has_support sets a.accepted i) (slice_index_or sets i [])) (numbers (length a.scope))) (same_sets f g changed a.scope small differ none) ∙ ok

-- a union touches what one of the two does
pub touch_union : (xs ys scope : List ℕ) → All (λ v. v < 128) scope → list_any (has (union xs ys)) scope ≡ (list_any (has xs) scope || list_any (has ys) scope)
touch_union xs ys [] small = refl
touch_union xs ys (v ∷ scope) small =
    (λ i. has-set_where (λ w. has xs w || has ys w) v (small 0 0 (omega arith)) i || touch_union xs ys scope (λ k d low. small (suc k) d (omega arith)) i)
    ∙ four (has xs v) (has ys v) (list_any (has xs) scope) (list_any (has ys) scope)
  where
    four : (a b c d : Bool) → ((a || b) || (c || d)) ≡ ((a || c) || (b || d))
    four true b c d = refl
    four false true true d = refl
    four false true false d = refl
    four false false c d = refl

touch_nothing : (scope : List ℕ) → list_any (has []) scope ≡ false
touch_nothing [] = refl
touch_nothing (v ∷ scope) = touch_nothing scope

-- ---- one revision

pub sub_sub : (f g h : Family) → IsSubfamily f g → IsSubfamily g h → IsSubfamily f h
sub_sub f g h one two = λ v x at. two v x (one v x at)

consistent_at : (arcs : List Arc) (f : Family) (k : ℕ) (d : Arc) → is_arc_consistent arcs f ≡ true → k < length arcs → is_consistent f (slice_index_or arcs k d).scope (slice_index_or arcs k d).accepted ≡ true
consistent_at arcs f k d ok low = AllPass-from_list_all (λ a. is_consistent f a.scope a.accepted) arcs ok k d low

pub underway_begin : (arcs : List Arc) (f : Family) → list_all is_not_empty f ≡ true → IsUnderway arcs f f
underway_begin arcs f full = record { within = λ v x h. h; greatest = λ other sub ok. sub; size = refl; full = full }

pub underway_step : (arcs : List Arc) (from f g : Family) (k : ℕ) (d : Arc) → k < length arcs → IsUnderway arcs from f → IsRevised (slice_index_or arcs k d) f g → IsUnderway arcs from g
underway_step arcs from f g k d low is to = record {
  within = sub_sub g f from to.within is.within;
  greatest = λ other sub ok. to.greatest other (is.greatest other sub ok) (consistent_at arcs other k d ok low);
  size = to.size ∙ is.size;
  full = to.full is.full;
}

pub underway_more : (arcs : List Arc) (from f g : Family) → IsUnderway arcs from f → IsUnderway arcs f g → IsUnderway arcs from g
underway_more arcs from f g is to = record {
  within = sub_sub g f from to.within is.within;
  greatest = λ other sub ok. to.greatest other (is.greatest other sub ok) ok;
  size = to.size ∙ is.size;
  full = to.full;
}

false_of : (b : Bool) → (b ≡ true → ⊥) → b ≡ false
false_of true h = absurd (h refl)
false_of false h = refl

-- where the largest has no empty set, neither has one above it
pub largest_full : (arcs : List Arc) (from f : Family) → length f ≡ length from → IsSubfamily (largest arcs from) f → list_all is_not_empty (largest arcs from) ≡ true → list_all is_not_empty f ≡ true
largest_full arcs from f long sub full = full_above (largest arcs from) f (largest_long arcs from ∙ sym long) sub full

pub empty_stays : (arcs : List Arc) (f : Family) → list_all is_not_empty f ≡ false → list_all is_not_empty (largest arcs f) ≡ false
empty_stays arcs f none = false_of _ (λ full. both_ways _ none (largest_full arcs f f refl (largest_is arcs f).within full))

-- the largest on the way is the largest
pub dead_before : (arcs : List Arc) (from f : Family) → IsUnderway arcs from f → list_all is_not_empty (largest arcs f) ≡ false → list_all is_not_empty (largest arcs from) ≡ false
dead_before arcs from f is none = false_of _ (λ full.
    let old = largest_is arcs from in
    both_ways _ none (full_above (largest arcs from) (largest arcs f) (largest_long arcs from ∙ sym is.size ∙ sym (largest_long arcs f))
    ((largest_is arcs f).greatest (largest arcs from) (is.greatest (largest arcs from) old.within old.consistent) old.consistent) full))

pub dead_here : (arcs : List Arc) (f : Family) (k : ℕ) (d : Arc) → k < length arcs → IsDead (slice_index_or arcs k d) f → list_all is_not_empty (largest arcs f) ≡ false
dead_here arcs f k d low dead = false_of _ (λ full.
    let old = largest_is arcs f in
    let none = dead.empty (largest arcs f) old.within (consistent_at arcs (largest arcs f) k d old.consistent low) in
    both_ways _ (ap is_not_empty none) (all_full (largest arcs f) full dead.variable (let a = largest_long arcs f in let b = dead.low in omega arith)))

-- ---- through all conditions

-- each condition's variables are small
abbrev pub AreSmall : List Arc → Type 0
AreSmall arcs = (k : ℕ) (d : Arc) → k < length arcs → All (λ v. v < 128) (slice_index_or arcs k d).scope

-- at condition i of a pass: what has none of the changed variables is settled, but for what the pass has still to come to
pub record IsPassing (arcs : List Arc) (changed : List ℕ) (from : Family) (i : ℕ) (next : List ℕ) (f : Family) : Type 0 where
  pub underway : IsUnderway arcs from f
  pub fewer : AreFewer next from f
  pub settled : (k : ℕ) (d : Arc) → k < length arcs → list_any (has next) (slice_index_or arcs k d).scope ≡ false → (k < i) ⊎ (list_any (has changed) (slice_index_or arcs k d).scope ≡ false) →
      is_consistent f (slice_index_or arcs k d).scope (slice_index_or arcs k d).accepted ≡ true

pub pass_begin : (arcs : List Arc) (changed : List ℕ) (f : Family) → list_all is_not_empty f ≡ true → AreSettled arcs changed f → IsPassing arcs changed f 0 [] f
pass_begin arcs changed f full settled = record {
  underway = underway_begin arcs f full;
  fewer = inl (λ v. refl, refl);
  settled = λ k d low none where_. go k d low where_;
}
  where
    go : (k : ℕ) (d : Arc) → k < length arcs → (k < 0) ⊎ (list_any (has changed) (slice_index_or arcs k d).scope ≡ false) → is_consistent f (slice_index_or arcs k d).scope (slice_index_or arcs k d).accepted ≡ true
    go k d low (inl never) = absurd (omega arith)
    go k d low (inr apart) = settled k d low apart

-- a condition without a changed variable is passed over
pub pass_over : (arcs : List Arc) (changed : List ℕ) (from : Family) (i : ℕ) (next : List ℕ) (f : Family) → AreSmall arcs → IsPassing arcs changed from i next f →
    ((d : Arc) → list_any (has (union changed next)) (slice_index_or arcs i d).scope ≡ false) → IsPassing arcs changed from (i + 1) next f
pass_over arcs changed from i next f small is apart = record { underway = is.underway; fewer = is.fewer; settled = λ k d low none where_. go k d low none where_ (cases_eq k i) }
  where
    go : (k : ℕ) (d : Arc) → k < length arcs → list_any (has next) (slice_index_or arcs k d).scope ≡ false → (k < i + 1) ⊎ (list_any (has changed) (slice_index_or arcs k d).scope ≡ false) → (k ≡ i) ⊎ (k ≢ i) →
        is_consistent f (slice_index_or arcs k d).scope (slice_index_or arcs k d).accepted ≡ true
    go k d low none (inr free) which = is.settled k d low none (inr free)
    go k d low none (inl before) (inr other) = is.settled k d low none (inl (omega arith))
    go k d low none (inl before) (inl same) = is.settled k d low none (inr (or_parts _ _ (sym (touch_union changed next (slice_index_or arcs k d).scope (small k d low))
        ∙ ap (λ (j : ℕ). list_any (has (union changed next)) (slice_index_or arcs j d).scope) same ∙ apart d)).0)

pub fewer_more : (next lost : List ℕ) (from f g : Family) → AreFewer next from f → AreFewer lost f g → AreFewer (union next lost) from g
fewer_more next lost from f g (inl one) (inl two) = inl (λ v. none v (cases_lt v 128), two.1 ∙ one.1)
  where
    none : (v : ℕ) → (v < 128) ⊎ (128 ≤ v) → has (union next lost) v ≡ false
    none v (inl low) = has-set_where (λ w. has next w || has lost w) v low ∙ (λ i. one.0 v i || two.0 v i)
    none v (inr high) = has-set_where_above (λ w. has next w || has lost w) v high
fewer_more next lost from f g (inl one) (inr two) = inr (let same = ap family_size one.1 in omega arith)
fewer_more next lost from f g (inr one) (inl two) = inr (let same = ap family_size two.1 in omega arith)
fewer_more next lost from f g (inr one) (inr two) = inr (omega arith)

pub pass_on : (arcs : List Arc) (changed : List ℕ) (from : Family) (i : ℕ) (next lost : List ℕ) (f g : Family) → AreSmall arcs → i < length arcs → IsPassing arcs changed from i next f →
    ((d : Arc) → IsRevised (slice_index_or arcs i d) f g) → IsCutAt lost f g → IsPassing arcs changed from (i + 1) (union next lost) g
pass_on arcs changed from i next lost f g small low is to cut = record {
  underway = underway_step arcs from f g i (record { scope = []; accepted = λ t. true }) low is.underway (to _);
  fewer = fewer_more next lost from f g is.fewer cut.fewer;
  settled = λ k d below none where_. go k d below (or_parts _ _ (sym (touch_union next lost (slice_index_or arcs k d).scope (small k d below)) ∙ none)) where_ (cases_eq k i);
}
  where
    go : (k : ℕ) (d : Arc) → k < length arcs → (list_any (has next) (slice_index_or arcs k d).scope ≡ false) × (list_any (has lost) (slice_index_or arcs k d).scope ≡ false) →
        (k < i + 1) ⊎ (list_any (has changed) (slice_index_or arcs k d).scope ≡ false) → (k ≡ i) ⊎ (k ≢ i) → is_consistent g (slice_index_or arcs k d).scope (slice_index_or arcs k d).accepted ≡ true
    go k d below none where_ (inl same) = subst (λ (j : ℕ). is_consistent g (slice_index_or arcs j d).scope (slice_index_or arcs j d).accepted ≡ true) (sym same) (to d).consistent
    go k d below none (inl before) (inr other) = stays_consistent (slice_index_or arcs k d) f g lost (small k d below) cut.differ none.1 (is.settled k d below none.0 (inl (omega arith)))
    go k d below none (inr free) (inr other) = stays_consistent (slice_index_or arcs k d) f g lost (small k d below) cut.differ none.1 (is.settled k d below none.0 (inr free))

-- a condition that is consistent is passed over
pub pass_settled : (arcs : List Arc) (changed : List ℕ) (from : Family) (i : ℕ) (next : List ℕ) (f : Family) → IsPassing arcs changed from i next f →
    ((d : Arc) → is_consistent f (slice_index_or arcs i d).scope (slice_index_or arcs i d).accepted ≡ true) → IsPassing arcs changed from (i + 1) next f
pass_settled arcs changed from i next f is ok = record { underway = is.underway; fewer = is.fewer; settled = λ k d low none where_. go k d low none where_ (cases_eq k i) }
  where
    go : (k : ℕ) (d : Arc) → k < length arcs → list_any (has next) (slice_index_or arcs k d).scope ≡ false → (k < i + 1) ⊎ (list_any (has changed) (slice_index_or arcs k d).scope ≡ false) → (k ≡ i) ⊎ (k ≢ i) →
        is_consistent f (slice_index_or arcs k d).scope (slice_index_or arcs k d).accepted ≡ true
    go k d low none where_ (inl same) = subst (λ (j : ℕ). is_consistent f (slice_index_or arcs j d).scope (slice_index_or arcs j d).accepted ≡ true) (sym same) (ok d)
    go k d low none (inl before) (inr other) = is.settled k d low none (inl (omega arith))
    go k d low none (inr free) (inr other) = is.settled k d low none (inr free)

-- one or the other
pub pass_either : (arcs : List Arc) (changed : List ℕ) (from : Family) (i : ℕ) (next : List ℕ) (f : Family) (a : Arc) → ((k : ℕ) (d : Arc) → k < length arcs → All (λ v. v < 128) (slice_index_or arcs k d).scope) → IsPassing arcs changed from i next f →
    ((d : Arc) → slice_index_or arcs i d ≡ a) → (list_any (has (union changed next)) a.scope ≡ false) ⊎ (is_consistent f a.scope a.accepted ≡ true) → IsPassing arcs changed from (i + 1) next f
pass_either arcs changed from i next f a small is at (inl apart) = pass_over arcs changed from i next f small is (λ d. ap (λ (b : Arc). list_any (has (union changed next)) b.scope) (at d) ∙ apart)
pass_either arcs changed from i next f a small is at (inr ok) = pass_settled arcs changed from i next f is (λ d. ap (λ (b : Arc). is_consistent f b.scope b.accepted) (at d) ∙ ok)

pub pass_end : (arcs : List Arc) (changed : List ℕ) (from : Family) (i : ℕ) (next : List ℕ) (f : Family) → length arcs ≤ i → IsPassing arcs changed from i next f → AreSettled arcs next f
pass_end arcs changed from i next f all is = λ k d low none. is.settled k d low none (inl (omega arith))

-- ---- the end

pub settled_largest : (arcs : List Arc) (from f : Family) (changed : List ℕ) → changed ≡ [] → IsUnderway arcs from f → AreSettled arcs changed f → IsLargest arcs from f
settled_largest arcs from f changed over is settled = record {
  within = is.within;
  consistent = list_all-from_AllPass (λ a. is_consistent f a.scope a.accepted) arcs (λ k d low. settled k d low (ap (λ (xs : List ℕ). list_any (has xs) (slice_index_or arcs k d).scope) over ∙ touch_nothing (slice_index_or arcs k d).scope));
  greatest = is.greatest;
}

-- ---- how long it takes

-- twice the values, and one more where variables have changed
abbrev pub turns_left : Family → List ℕ → ℕ
turns_left f changed = family_size f + family_size f + min 1 (length changed)

pub no_members : (xs : List ℕ) → ((v : ℕ) → has xs v ≡ false) → length xs ≡ 0
no_members [] h = refl
no_members (x ∷ xs) h = absurd (both_ways _ (h x) (or_left _ _ (eq-eqb x x refl)))

pub turn_falls : (f g : Family) (changed next : List ℕ) → 1 ≤ length changed → AreFewer next f g → turns_left g next < turns_left f changed
turn_falls f g changed next some (inl same) = (let size = ap family_size same.1 in let none = no_members next same.0 in omega arith)
turn_falls f g changed next some (inr less) = omega arith

-- ---- two families, and what the largest in each tells

pub tells_more : (arcs : List Arc) (fewer more : Family) → length fewer ≡ length more → IsSubfamily fewer more → list_all is_not_empty (largest arcs fewer) ≡ true → list_all is_not_empty (largest arcs more) ≡ true
tells_more arcs fewer more long sub full =
    let old = largest_is arcs fewer in
    full_above (largest arcs fewer) (largest arcs more) (largest_long arcs fewer ∙ long ∙ sym (largest_long arcs more))
    ((largest_is arcs more).greatest (largest arcs fewer) (sub_sub (largest arcs fewer) fewer more old.within sub) old.consistent) full

pub tells_with : (arcs : List Arc) (from g : Family) → length g ≡ length from → IsLargest arcs from g → list_all is_not_empty (largest arcs from) ≡ list_all is_not_empty g
tells_with arcs from g long is =
    let old = largest_is arcs from in
    both_true _ _
    (full_above (largest arcs from) g (largest_long arcs from ∙ sym long) (is.greatest (largest arcs from) old.within old.consistent))
    (full_above g (largest arcs from) (long ∙ sym (largest_long arcs from)) (old.greatest g is.within is.consistent))
