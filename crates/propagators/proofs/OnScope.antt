-- The masks of a family, read and written.
use Rattle.propagators.proofs.Prelude.{◌≡◌, ℕ, zero, suc, ◌+◌, ◌^◌, ◌<◌, ◌≤◌, true, not, nat_eq, List, [], ◌∷◌, length, map, take, ap, sym, ◌∙◌, subst, arith, both_ways, not-true, eq-eqb, get_or-take, get_or-map, length-take, length-map, map-set, has, slice_index_or, slice_set, ones_of, Family, sets_on, family_size}
use Rattle.std.proofs.Math.Seq.{take-set-lt}
use Rattle.propagators.proofs.Ones.{cut_length}

next_one : (f : Family) (scope masks : List ℕ) (j m : ℕ) → j < length scope → j < length masks → take j (map ones_of masks) ≡ sets_on f (take j scope) → ones_of m ≡ slice_index_or f (slice_index_or scope j 0) [] →
    take (suc j) (map ones_of (slice_set masks j m)) ≡ sets_on f (take (suc j) scope)
next_one f [] masks j m low room front here = absurd (omega arith)
next_one f (v ∷ scope) [] j m low room front here = absurd (omega arith)
next_one f (v ∷ scope) (k ∷ masks) zero m low room front here = λ i. here i ∷ []
next_one f (v ∷ scope) (k ∷ masks) (suc j) m low room front here =
    let first : ones_of k ≡ slice_index_or f v [] = cc in
    let others : take j (map ones_of masks) ≡ sets_on f (take j scope) = cc in
    let rest = next_one f scope masks j m (omega arith) (omega arith) others here in
    λ i. first i ∷ rest i

pub on_next : (f : Family) (scope masks : List ℕ) (j m : ℕ) → j < length scope → j < length masks → take j (map ones_of masks) ≡ sets_on f (take j scope) → ones_of m ≡ slice_index_or f (slice_index_or scope j 0) [] →
    take (j + 1) (map ones_of (slice_set masks j m)) ≡ sets_on f (take (j + 1) scope)
on_next f scope masks j m low room front here = subst (λ (k : ℕ). take k (map ones_of (slice_set masks j m)) ≡ sets_on f (take k scope)) (let e : suc j ≡ j + 1 = omega arith in e) (next_one f scope masks j m low room front here)

-- ---- one mask

length_seen : (masks : List ℕ) (n : ℕ) (f : Family) → map ones_of (take n masks) ≡ f → length f ≤ n
length_seen masks n f is = omega (arith, ap length is, length-map (take n masks) ones_of, length-take n masks)

pub within_masks : (masks : List ℕ) (n : ℕ) (f : Family) → map ones_of (take n masks) ≡ f → length f ≤ length masks
within_masks masks n f is = omega (arith, ap length is, length-map (take n masks) ones_of, length-take n masks)

pub read_set : (masks : List ℕ) (n : ℕ) (f : Family) (v : ℕ) → map ones_of (take n masks) ≡ f → v < length f → ones_of (slice_index_or masks v 0) ≡ slice_index_or f v []
read_set masks n f v is low =
    let few = length_seen masks n f is in
    let long = within_masks masks n f is in
    ap ones_of (sym (get_or-take n masks v 0 (omega arith)))
    ∙ sym (get_or-map ones_of (take n masks) v 0 [] (simp length-take (omega arith)))
    ∙ ap (λ (g : Family). slice_index_or g v []) is

pub seen_set : (masks : List ℕ) (n : ℕ) (f : Family) (v m : ℕ) → map ones_of (take n masks) ≡ f → v < length f → map ones_of (take n (slice_set masks v m)) ≡ slice_set f v (ones_of m)
seen_set masks n f v m is low =
    let few = length_seen masks n f is in
    ap (map ones_of) (take-set-lt n masks v m (omega arith)) ∙ map-set ones_of (take n masks) v m ∙ ap (λ (g : Family). slice_set g v (ones_of m)) is

size_set : (f : Family) (v : ℕ) (xs : List ℕ) → v < length f → family_size (slice_set f v xs) + length (slice_index_or f v []) ≡ family_size f + length xs
size_set [] v xs low = absurd (omega arith)
size_set (ys ∷ f) zero xs low = omega arith
size_set (ys ∷ f) (suc v) xs low = (let rest = size_set f v xs (omega arith) in omega arith)

pub size_falls : (f : Family) (v had values : ℕ) → v < length f → ones_of had ≡ slice_index_or f v [] → had < 2 ^ 64 → values < 2 ^ 64 →
    ((x : ℕ) → has (ones_of values) x ≡ true → has (slice_index_or f v []) x ≡ true) → not (nat_eq had values) ≡ true → family_size (slice_set f v (ones_of values)) < family_size f
size_falls f v had values low is fits small part changed =
    let less = cut_length had values fits small (λ x h. ap (λ xs. has xs x) is ∙ part x h) (λ e. both_ways _ (not-true _ changed) (eq-eqb had values e)) in
    omega (arith, size_set f v (ones_of values) low, ap length is)
