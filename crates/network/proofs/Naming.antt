-- Names: what bytes they don't have, and that lists of them tell what they name.
use Rattle.network.proofs.Prelude.{◌≡◌, ◌≢◌, ℕ, zero, suc, ◌<◌, Bool, true, false, cond, ◌&&◌, not, List, [], ◌∷◌, length, map, refl, sym, ◌∙◌, ap, arith, inl, inr, ◌⊎◌, ◌==◌, nat_le, All, AllPairs, slice_index_or, list_all, filter, and_parts, and_from, leb-true, ne_eqb, cases_order, get_or-map, length-map, All-head, All-tail, All-nil, All-cons, All-map, All-filter, Language, Given, on_scope_of, is_name, is_name_byte}
use Rattle.network.proofs.Cutting.{is_without, is_piece}

-- ---- the bytes of names

all_weaker : {X : Type 0} (p q : X → Bool) (xs : List X) → ((x : X) → p x ≡ true → q x ≡ true) → list_all p xs ≡ true → list_all q xs ≡ true
all_weaker p q [] h all = refl
all_weaker p q (x ∷ xs) h all = let parts = and_parts (p x) (list_all p xs) all in and_from (q x) (list_all q xs) (h x parts.0) (all_weaker p q xs h parts.1)

low_byte : (low b : ℕ) → low < 33 → is_name_byte b ≡ true → not (b == low) ≡ true
low_byte low b small h =
    let first = and_parts (nat_le 33 b) (nat_le b 126) (and_parts (nat_le 33 b && nat_le b 126) (not (b == 61)) (and_parts (nat_le 33 b && nat_le b 126 && not (b == 61)) (not (b == 38)) h).0).0 in
    let least = leb-true 33 b first.0 in
    ap not (ne_eqb b low (λ e. omega arith))

no_and : (b : ℕ) → is_name_byte b ≡ true → not (b == 38) ≡ true
no_and b h = (and_parts (nat_le 33 b && nat_le b 126 && not (b == 61)) (not (b == 38)) h).1

bytes_of : (name : List ℕ) → is_name name ≡ true → list_all is_name_byte name ≡ true
bytes_of name h = (and_parts (nat_le 1 (length name) && nat_le (length name) 64) (list_all is_name_byte name) h).1

-- a name has no newline and no space
pub name-without : (low : ℕ) (name : List ℕ) → low < 33 → is_name name ≡ true → is_without low name ≡ true
name-without low name small h = all_weaker is_name_byte (λ b. not (b == low)) name (λ b. low_byte low b small) (bytes_of name h)

-- a name is a piece between two `&`
pub name-piece : (name : List ℕ) → is_name name ≡ true → is_piece 38 name ≡ true
name-piece [] h = cc
name-piece (x ∷ name) h = all_weaker is_name_byte (λ b. not (b == 38)) (x ∷ name) no_and (bytes_of (x ∷ name) h)

pub names-without : (low : ℕ) (names : List (List ℕ)) → low < 33 → list_all is_name names ≡ true → list_all (is_without low) names ≡ true
names-without low names small h = all_weaker is_name (is_without low) names (λ name. name-without low name small) h

pub names-pieces : (names : List (List ℕ)) → list_all is_name names ≡ true → list_all (is_piece 38) names ≡ true
names-pieces names h = all_weaker is_name (is_piece 38) names name-piece h

-- ---- names by number

pub name_at : (names : List (List ℕ)) (v : ℕ) → list_all is_name names ≡ true → v < length names → is_name (slice_index_or names v []) ≡ true
name_at [] v h low = absurd (omega arith)
name_at (name ∷ names) zero h low = (and_parts (is_name name) (list_all is_name names) h).0
name_at (name ∷ names) (suc v) h low = name_at names v (and_parts (is_name name) (list_all is_name names) h).1 (omega arith)

pub names_at : (names : List (List ℕ)) (numbers : List ℕ) → list_all is_name names ≡ true → All (λ v. v < length names) numbers → list_all is_name (map (λ v. slice_index_or names v []) numbers) ≡ true
names_at names [] h low = refl
names_at names (v ∷ numbers) h low = and_from (is_name (slice_index_or names v [])) (list_all is_name (map (λ v. slice_index_or names v []) numbers))
    (name_at names v h (All-head (λ v. v < length names) v numbers low)) (names_at names numbers h (All-tail (λ v. v < length names) v numbers low))

-- where no two are equal, equal names have one number
same_number : (names : List (List ℕ)) (v w : ℕ) → AllPairs (λ a b. a ≢ b) names → v < length names → w < length names → slice_index_or names v [] ≡ slice_index_or names w [] → v ≡ w
same_number names v w apart low high same = go (cases_order v w)
  where
    go : (v ≡ w) ⊎ ((v < w) ⊎ (w < v)) → v ≡ w
    go (inl e) = e
    go (inr (inl below)) = absurd (apart v w [] below high same)
    go (inr (inr above)) = absurd (apart w v [] above low (sym same))

pub same_numbers : (names : List (List ℕ)) (vs ws : List ℕ) → AllPairs (λ a b. a ≢ b) names → All (λ v. v < length names) vs → All (λ v. v < length names) ws →
    map (λ v. slice_index_or names v []) vs ≡ map (λ v. slice_index_or names v []) ws → vs ≡ ws
same_numbers names [] [] apart low high e = refl
same_numbers names [] (w ∷ ws) apart low high e = cc
same_numbers names (v ∷ vs) [] apart low high e = cc
same_numbers names (v ∷ vs) (w ∷ ws) apart low high e =
    let head : slice_index_or names v [] ≡ slice_index_or names w [] = cc in
    let tails : map (λ v. slice_index_or names v []) vs ≡ map (λ v. slice_index_or names v []) ws = cc in
    let here = same_number names v w apart (All-head (λ v. v < length names) v vs low) (All-head (λ v. v < length names) w ws high) head in
    let rest = same_numbers names vs ws apart (All-tail (λ v. v < length names) v vs low) (All-tail (λ v. v < length names) w ws high) tails in
    λ i. here i ∷ rest i

-- ---- given relations by name

abbrev pub names_of : List Given → List (List ℕ)
names_of given = map (λ (g : Given). g.name) given

-- on a scope they have the names that they have in the vocabulary
pub names_on : (l : Language) (scope : List ℕ) (given : List Given) → names_of (map (on_scope_of l scope) given) ≡ names_of given
names_on l scope [] = refl
names_on l scope (g ∷ given) = ap (λ names. g.name ∷ names) (names_on l scope given)

-- no two have one name
abbrev pub Unlike : List Given → Type 0
Unlike [] = Unit {0}
Unlike (g ∷ given) = All (λ (h : Given). g.name ≢ h.name) given × Unlike given

pub unlike_of : (given : List Given) → AllPairs (λ a b. a ≢ b) (names_of given) → Unlike given
unlike_of [] apart = tt
unlike_of (g ∷ given) apart = (
  λ k d low same. apart 0 (suc k) [] (omega arith) (omega (arith, length-map given (λ (h : Given). h.name))) (same ∙ sym (get_or-map (λ (h : Given). h.name) given k d [] low)),
  unlike_of given (λ i j d low high. apart (suc i) (suc j) d (omega arith) (omega arith)),
)

pub unlike-filter : (p : Given → Bool) (given : List Given) → Unlike given → Unlike (filter p given)
unlike-filter p [] unlike = tt
unlike-filter p (g ∷ given) unlike = go (p g) (unlike-filter p given unlike.1)
  where
    go : (b : Bool) → Unlike (filter p given) → Unlike (cond b (g ∷ filter p given) (filter p given))
    go true rest = (All-filter p (λ (h : Given). g.name ≢ h.name) given unlike.0, rest)
    go false rest = rest

pub unlike_on : (l : Language) (scope : List ℕ) (given : List Given) → Unlike given → Unlike (map (on_scope_of l scope) given)
unlike_on l scope [] unlike = tt
unlike_on l scope (g ∷ given) unlike = (All-map (λ (h : Given). g.name ≢ h.name) (on_scope_of l scope) given unlike.0, unlike_on l scope given unlike.1)

pub names-filter : (p : Given → Bool) (given : List Given) → list_all is_name (names_of given) ≡ true → list_all is_name (names_of (filter p given)) ≡ true
names-filter p [] h = refl
names-filter p (g ∷ given) h = go (p g) (names-filter p given parts.1)
  where
    parts : (is_name g.name ≡ true) × (list_all is_name (names_of given) ≡ true)
    parts = and_parts (is_name g.name) (list_all is_name (names_of given)) h

    go : (b : Bool) → list_all is_name (names_of (filter p given)) ≡ true → list_all is_name (names_of (cond b (g ∷ filter p given) (filter p given))) ≡ true
    go true rest = and_from (is_name g.name) (list_all is_name (names_of (filter p given))) parts.0 rest
    go false rest = rest

not_among : (p : Given → Bool) (g : Given) (given : List Given) (rest : List (List ℕ)) → All (λ (h : Given). g.name ≢ h.name) given → g.name ∷ rest ≡ names_of (filter p given) → ⊥
not_among p g [] rest other e = cc
not_among p g (h ∷ given) rest other e = go (p h) e (not_among p g given rest (All-tail (λ (k : Given). g.name ≢ k.name) h given other))
  where
    go : (b : Bool) → g.name ∷ rest ≡ names_of (cond b (h ∷ filter p given) (filter p given)) → (g.name ∷ rest ≡ names_of (filter p given) → ⊥) → ⊥
    go true e later = All-head (λ (k : Given). g.name ≢ k.name) h given other (let head : g.name ≡ h.name = cc in head)
    go false e later = later e

-- tests that keep the same names agree
pub same_kept : (p q : Given → Bool) (given : List Given) → Unlike given → names_of (filter p given) ≡ names_of (filter q given) → All (λ g. p g ≡ q g) given
same_kept p q [] unlike e = All-nil (λ g. p g ≡ q g)
same_kept p q (g ∷ given) unlike e = go (p g) (q g) refl refl e (same_kept p q given unlike.1)
  where
    go : (b c : Bool) → p g ≡ b → q g ≡ c → names_of (cond b (g ∷ filter p given) (filter p given)) ≡ names_of (cond c (g ∷ filter q given) (filter q given)) →
        (names_of (filter p given) ≡ names_of (filter q given) → All (λ g. p g ≡ q g) given) → All (λ g. p g ≡ q g) (g ∷ given)
    go true true at there e rest = All-cons (λ g. p g ≡ q g) g given (at ∙ sym there) (rest (let tails : names_of (filter p given) ≡ names_of (filter q given) = cc in tails))
    go false false at there e rest = All-cons (λ g. p g ≡ q g) g given (at ∙ sym there) (rest e)
    go true false at there e rest = absurd (not_among q g given (names_of (filter p given)) unlike.0 e)
    go false true at there e rest = absurd (not_among p g given (names_of (filter q given)) unlike.0 (sym e))
