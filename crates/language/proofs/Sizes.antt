-- How many truth values relations have.
use Rattle.language.proofs.Prelude.{◌≡◌, ℕ, suc, ◌^◌, Bool, true, false, cond, List, [], ◌∷◌, length, map, refl, sym, ◌∙◌, ap, arith, All, Contains, ◌==◌, eqb-true, All-nil, All-cons, All-head, All-tail, All-map, All-weaker, All-contains, Relation, meet, meet_all, IsIntersection, IsClosing, ValueRange, widened, Given, of_arity, given_within}
use Rattle.language.proofs.Within.{length-widened}

length-meet : (n : ℕ) (r q : Relation) → length r ≡ n → length q ≡ n → length (meet r q) ≡ n
length-meet n r q size other = both r q (size ∙ sym other) ∙ size
  where
    both : (r q : Relation) → length r ≡ length q → length (meet r q) ≡ length r
    both [] q same = refl
    both (x ∷ r) [] same = absurd (omega arith)
    both (x ∷ r) (y ∷ q) same = ap (λ k. suc k) (both r q (omega arith))

length-meet_all : (n : ℕ) (r : Relation) (more : List Relation) → length r ≡ n → All (λ (q : Relation). length q ≡ n) more → length (meet_all r more) ≡ n
length-meet_all n r [] size sizes = size
length-meet_all n r (q ∷ more) size sizes =
    length-meet_all n (meet r q) more (length-meet n r q size (All-head (λ (q : Relation). length q ≡ n) q more sizes)) (All-tail (λ (q : Relation). length q ≡ n) q more sizes)

-- intersections have as many as the relations
length-intersection : (n : ℕ) (file : List Relation) → All (λ (r : Relation). length r ≡ n) file → (q : Relation) → IsIntersection file q → length q ≡ n
length-intersection n file sizes q is =
    ap length is.is
    ∙ length-meet_all n is.first is.more (All-contains (λ (r : Relation). length r ≡ n) file is.first sizes is.first_given)
    (All-weaker (Contains file) (λ (r : Relation). length r ≡ n) (λ r has. All-contains (λ (r : Relation). length r ≡ n) file r sizes has) is.more is.more_given)

-- those of an arity
pub of_arity_sized : (d n : ℕ) (given : List Given) → All (λ (g : Given). length g.relation ≡ d ^ g.arity) given → All (λ (g : Given). length g.relation ≡ d ^ n) (of_arity n given)
of_arity_sized d n [] sized = All-nil (λ (g : Given). length g.relation ≡ d ^ n)
of_arity_sized d n (g ∷ given) sized = go (g.arity == n) refl (of_arity_sized d n given (All-tail (λ (g : Given). length g.relation ≡ d ^ g.arity) g given sized))
  where
    go : (b : Bool) → (g.arity == n) ≡ b → All (λ (g : Given). length g.relation ≡ d ^ n) (of_arity n given) → All (λ (g : Given). length g.relation ≡ d ^ n) (cond b (g ∷ of_arity n given) (of_arity n given))
    go true on rest = All-cons (λ (g : Given). length g.relation ≡ d ^ n) g (of_arity n given)
        (All-head (λ (g : Given). length g.relation ≡ d ^ g.arity) g given sized ∙ ap (λ k. d ^ k) (eqb-true g.arity n on)) rest
    go false off rest = rest

-- those on a scope
pub closed_sized : (ranges : List ValueRange) (d : ℕ) (scope : List ℕ) (given : List Given) (relations : List Relation) → All (λ (g : Given). length g.relation ≡ d ^ g.arity) given →
    IsClosing (map (λ (g : Given). g.relation) (map (given_within ranges d scope) (of_arity (length scope) given))) relations → All (λ (r : Relation). length r ≡ d ^ length scope) relations
closed_sized ranges d scope given relations sized closing =
    let n : ℕ = d ^ length scope in
    let here = of_arity_sized d (length scope) given sized in
    let file = map (λ (g : Given). g.relation) (map (given_within ranges d scope) (of_arity (length scope) given)) in
    let sizes : All (λ (r : Relation). length r ≡ n) file =
    All-map (λ (r : Relation). length r ≡ n) (λ (g : Given). g.relation) (map (given_within ranges d scope) (of_arity (length scope) given))
    (All-map (λ (g : Given). length g.relation ≡ n) (given_within ranges d scope) (of_arity (length scope) given)
    (All-weaker (λ (g : Given). length g.relation ≡ n) (λ (g : Given). length (widened ranges d scope g.relation) ≡ n) (λ g size. length-widened ranges d scope g.relation size) (of_arity (length scope) given) here)) in
    All-weaker (IsIntersection file) (λ (r : Relation). length r ≡ n) (λ r is. length-intersection n file sizes r is) relations closing.each
