-- Lists: what some or all of their members pass.
use Rattle.session_laws.proofs.Prelude.{◌≡◌, ℕ, zero, suc, ◌≤◌, Bool, true, false, cond, ◌||◌, ◌&&◌, not, List, [], ◌∷◌, ◌++◌, length, map, Option, Some, None, refl, sym, ◌∙◌, ap, arith, length-append, All, Any, is_some, list_any, filter, flat_map, get_or_append_left, All-head, All-tail, All-append, All-cons, All-nil, All-map, All-weaker, both_ways, or_from, numbers, tuples}

pub any_more : {X : Type 0} (P : X → Type 0) (xs : List X) (y : X) → Any P xs → Any P (xs ++ y ∷ [])
any_more P xs y (k, x, low, at, p) = (k, x, omega (arith, length-append xs (y ∷ [])), get_or_append_left xs (y ∷ []) x k low ∙ at, p)

pub All-flat_map : {X Y : Type 0} (Q : Y → Type 0) (f : X → List Y) (xs : List X) → ((x : X) → All Q (f x)) → All Q (flat_map f xs)
All-flat_map Q f [] h = All-nil Q
All-flat_map Q f (x ∷ xs) h = All-append Q (f x) (flat_map f xs) (h x) (All-flat_map Q f xs h)

pub tuples_long : (d a : ℕ) → All (λ u. length u ≡ a) (tuples d a)
tuples_long d zero = All-cons (λ (u : List ℕ). length u ≡ 0) [] [] refl (All-nil (λ (u : List ℕ). length u ≡ 0))
tuples_long d (suc a) = All-flat_map (λ (u : List ℕ). length u ≡ suc a) (λ x. map (λ u. x ∷ u) (tuples d a)) (numbers d) (λ x.
    All-map (λ (u : List ℕ). length u ≡ suc a) (λ u. x ∷ u) (tuples d a) (All-weaker (λ (u : List ℕ). length u ≡ a) (λ (u : List ℕ). suc (length u) ≡ suc a) (λ u h. ap suc h) (tuples d a) (tuples_long d a)))

pub any_same : {X : Type 0} (p q : X → Bool) (xs : List X) → ((x : X) → p x ≡ q x) → list_any p xs ≡ list_any q xs
any_same p q [] h = refl
any_same p q (x ∷ xs) h = λ i. h x i || any_same p q xs h i

pub is_none_option : {X : Type 0} (o : Option X) → is_some o ≡ false → o ≡ None
is_none_option None h = refl
is_none_option (Some x) h = cc

pub any_never : {X : Type 0} (p : X → Bool) (xs : List X) → ((x : X) → p x ≡ false) → list_any p xs ≡ false
any_never p [] h = refl
any_never p (x ∷ xs) h = or_from _ _ (h x) (any_never p xs h)

-- ---- how many pass

pub fewer_in : {X : Type 0} (P : X → Type 0) (g k : X → Bool) (cs : List X) → All P cs → ((c : X) → P c → g c ≡ true → k c ≡ true) → length (filter g cs) ≤ length (filter k cs)
fewer_in P g k [] all h = omega arith
fewer_in P g k (c ∷ cs) all h = go (g c) (k c) (h c (All-head P c cs all)) (fewer_in P g k cs (All-tail P c cs all) h)
  where
    go : (a b : Bool) → (a ≡ true → b ≡ true) → length (filter g cs) ≤ length (filter k cs) → length (cond a (c ∷ filter g cs) (filter g cs)) ≤ length (cond b (c ∷ filter k cs) (filter k cs))
    go true true h rest = omega arith
    go true false h rest = absurd (both_ways _ refl (h refl))
    go false true h rest = omega arith
    go false false h rest = rest

pub more_in : {X : Type 0} (P : X → Type 0) (g k : X → Bool) (cs : List X) → All P cs → ((c : X) → P c → g c ≡ true → k c ≡ true) → list_any (λ c. not (g c) && k c) cs ≡ true →
    suc (length (filter g cs)) ≤ length (filter k cs)
more_in P g k [] all h at = absurd (both_ways _ refl at)
more_in P g k (c ∷ cs) all h at = go (g c) (k c) (h c (All-head P c cs all)) at (more_in P g k cs (All-tail P c cs all) h) (fewer_in P g k cs (All-tail P c cs all) h)
  where
    go : (a b : Bool) → (a ≡ true → b ≡ true) → ((not a && b) || list_any (λ c. not (g c) && k c) cs) ≡ true → (list_any (λ c. not (g c) && k c) cs ≡ true → suc (length (filter g cs)) ≤ length (filter k cs)) →
        length (filter g cs) ≤ length (filter k cs) → suc (length (cond a (c ∷ filter g cs) (filter g cs))) ≤ length (cond b (c ∷ filter k cs) (filter k cs))
    go true true h at rest low = (let more = rest at in omega arith)
    go true false h at rest low = absurd (both_ways _ refl (h refl))
    go false true h at rest low = omega arith
    go false false h at rest low = rest at
