-- The scopes with candidates that a question violates, listed one after another.
use Rattle.bias_store.proofs.Prelude.{◌≡◌, ℕ, ◌+◌, ◌<◌, ◌≤◌, Bool, true, false, ◌&&◌, ◌||◌, zero, suc, List, [], ◌∷◌, length, take, refl, sym, ◌∙◌, ap, arith, inl, inr, ◌⊎◌, get_or-set_same, get_or-set_other, slice_index_or, slice_set, list_any, cases_eq, cases_lt, both_ways, true_from_ne_false, length-set, is_within, Assignment, Candidate, Language, scope_at, scope_of, violates, ones_of, members_from, is_struck_within, violated_on, AreNoneViolated, IsViolated, IsHit, AreHitsListed, Violated}
use Rattle.bias_store.proofs.Members.{candidate_at, none_passes, one_passes}
use Rattle.bias_store.proofs.Struck.{fails_of_filter, one_fails}

-- of the first scopes exactly those are listed that have a violated relation
pub record AreHits (l : Language) (q : Assignment) (masks : List ℕ) (sets : List (List ℕ)) (count from : ℕ) : Type 0 where
  pub within : from ≤ length l.scopes
  pub room : count ≤ length sets
  pub some : (j : ℕ) → j < count → (s : ℕ) × (s < length l.scopes) × (slice_index_or sets j [] ≡ scope_at l s) × IsHit l q masks s
  pub all : (s : ℕ) → s < from → IsHit l q masks s → (j : ℕ) × (j < count) × (slice_index_or sets j [] ≡ scope_at l s)

pub hits_none : (l : Language) (q : Assignment) (masks : List ℕ) (sets : List (List ℕ)) → AreHits l q masks sets 0 0
hits_none l q masks sets = record {
  within = omega arith;
  room = omega arith;
  some = λ j low. absurd (omega arith);
  all = λ s low. absurd (omega arith);
}

-- no relation of a scope is violated
no_hit : (l : Language) (q : Assignment) (masks : List ℕ) (s : ℕ) → violated_on l q s (slice_index_or masks s 0) ≡ [] → IsHit l q masks s → ⊥
no_hit l q masks s none hit = both_ways _ (fails_of_filter (λ r. violates l (candidate_at s r) q) (ones_of (slice_index_or masks s 0)) none) hit

-- one scope more
pub hits_more : (l : Language) (q : Assignment) (masks : List ℕ) (sets : List (List ℕ)) (count from : ℕ) (v : Violated) (set : List ℕ) → AreHits l q masks sets count from → IsViolated l q masks from v → count < length sets → set ≡ scope_at l v.scope →
    AreHits l q masks (slice_set sets count set) (count + 1) (v.scope + 1)
hits_more l q masks sets count from v set is found low at = record {
  within = (let within = found.within in omega arith);
  room = (let long = length-set sets count set in omega arith);
  some = λ j below. some j below (cases_eq j count);
  all = λ s below hit. all s below hit (cases_eq s v.scope);
}
  where
    hit_here : IsHit l q masks v.scope
    hit_here = one_fails (λ r. violates l (candidate_at v.scope r) q) (slice_index_or masks v.scope 0) v.relations found.small found.here found.some

    some : (j : ℕ) → j < count + 1 → (j ≡ count) ⊎ (j ≡ count → ⊥) → (s : ℕ) × (s < length l.scopes) × (slice_index_or (slice_set sets count set) j [] ≡ scope_at l s) × IsHit l q masks s
    some j below (inl same) = (v.scope, found.within, ap (λ k. slice_index_or (slice_set sets count set) k []) same ∙ get_or-set_same sets count set [] low ∙ at, hit_here)
    some j below (inr other) =
        let old = is.some j (omega arith) in
        (old.0, old.1, get_or-set_other sets count j set [] other ∙ old.2, old.3)

    all : (s : ℕ) → s < v.scope + 1 → IsHit l q masks s → (s ≡ v.scope) ⊎ (s ≡ v.scope → ⊥) → (j : ℕ) × (j < count + 1) × (slice_index_or (slice_set sets count set) j [] ≡ scope_at l s)
    all s below hit (inl same) = (count, omega arith, get_or-set_same sets count set [] low ∙ at ∙ ap (scope_at l) (sym same))
    all s below hit (inr other) = go (cases_lt s from)
      where
        go : (s < from) ⊎ (from ≤ s) → (j : ℕ) × (j < count + 1) × (slice_index_or (slice_set sets count set) j [] ≡ scope_at l s)
        go (inl before) =
            let old = is.all s before hit in
            (old.0, (let early = old.1 in omega arith), get_or-set_other sets count old.0 set [] (let early = old.1 in omega arith) ∙ old.2)
        go (inr behind) = absurd (no_hit l q masks s (found.none s behind (omega arith)) hit)

-- those that are listed, where there is room for no more, and where no more are found
pub hits_some : (l : Language) (q : Assignment) (masks : List ℕ) (sets : List (List ℕ)) (count from : ℕ) → AreHits l q masks sets count from → AreHitsListed l q masks sets count false
hits_some l q masks sets count from is = record { room = is.room; some = is.some; all = λ never. absurd (both_ways _ refl never) }

pub hits_all : (l : Language) (q : Assignment) (masks : List ℕ) (sets : List (List ℕ)) (count from : ℕ) → AreHits l q masks sets count from → AreNoneViolated l q masks from (length l.scopes) → AreHitsListed l q masks sets count true
hits_all l q masks sets count from is none = record { room = is.room; some = is.some; all = λ whole s low hit. go s low hit (cases_lt s from) }
  where
    go : (s : ℕ) → s < length l.scopes → IsHit l q masks s → (s < from) ⊎ (from ≤ s) → (j : ℕ) × (j < count) × (slice_index_or sets j [] ≡ scope_at l s)
    go s low hit (inl before) = is.all s before hit
    go s low hit (inr behind) = absurd (no_hit l q masks s (none s behind low) hit)

-- ---- what is listed, and within a set

found_in : (p : List ℕ → Bool) (sets : List (List ℕ)) (count : ℕ) → list_any p (take count sets) ≡ true → (j : ℕ) × (j < count) × (p (slice_index_or sets j []) ≡ true)
found_in p sets zero h = absurd (both_ways _ refl h)
found_in p [] (suc count) h = absurd (both_ways _ refl h)
found_in p (x ∷ sets) (suc count) h = go (p x) refl h (found_in p sets count)
  where
    go : (b : Bool) → p x ≡ b → (b || list_any p (take count sets)) ≡ true → (list_any p (take count sets) ≡ true → (j : ℕ) × (j < count) × (p (slice_index_or sets j []) ≡ true)) →
        (j : ℕ) × (j < suc count) × (p (slice_index_or (x ∷ sets) j []) ≡ true)
    go true on any rest = (0, omega arith, on)
    go false off any rest = let later = rest any in (suc later.0, (let low = later.1 in omega arith), later.2)

any_in : (p : List ℕ → Bool) (sets : List (List ℕ)) (count j : ℕ) → j < count → count ≤ length sets → p (slice_index_or sets j []) ≡ true → list_any p (take count sets) ≡ true
any_in p sets zero j low room on = absurd (omega arith)
any_in p [] (suc count) j low room on = absurd (omega arith)
any_in p (x ∷ sets) (suc count) zero low room on = ap (λ b. b || list_any p (take count sets)) on
any_in p (x ∷ sets) (suc count) (suc j) low room on = ap (λ b. p x || b) (any_in p sets count j (omega arith) (omega arith) on) ∙ or_true (p x)
  where
    or_true : (b : Bool) → (b || true) ≡ true
    or_true true = refl
    or_true false = refl

module _ (l : Language) (q : Assignment) (masks : List ℕ) (w : List ℕ) where
  bites : Candidate → Bool
  bites c = is_within (scope_of l c) w && violates l c q

  on_scope : (s : ℕ) (xs : List ℕ) → is_within (scope_at l s) w ≡ true → list_any (λ r. violates l (candidate_at s r) q) xs ≡ list_any (λ r. is_within (scope_at l s) w && violates l (candidate_at s r) q) xs
  on_scope s [] in_set = refl
  on_scope s (r ∷ xs) in_set = λ i. sym (ap (λ b. b && violates l (candidate_at s r) q) in_set) i || on_scope s xs in_set i

  pub struck_some : (sets : List (List ℕ)) (count : ℕ) (are_all : Bool) → length masks ≡ length l.scopes → AreHitsListed l q masks sets count are_all → list_any (λ set. is_within set w) (take count sets) ≡ true → is_struck_within l (members_from 0 masks) q w ≡ true
  struck_some sets count are_all long is any =
      let found = found_in (λ set. is_within set w) sets count any in
      let hit = is.some found.0 found.1 in
      let low = hit.1 in
      let in_set : is_within (scope_at l hit.0) w ≡ true = ap (λ set. is_within set w) (sym hit.2) ∙ found.2 in
      one_passes (λ c. is_within (scope_of l c) w && violates l c q) masks hit.0 (omega arith) (sym (on_scope hit.0 (ones_of (slice_index_or masks hit.0 0)) in_set) ∙ hit.3)

  pub struck_all_within : (sets : List (List ℕ)) (count : ℕ) (are_all : Bool) → length masks ≡ length l.scopes → AreHitsListed l q masks sets count are_all → are_all ≡ true →
      is_struck_within l (members_from 0 masks) q w ≡ true → list_any (λ set. is_within set w) (take count sets) ≡ true
  struck_all_within sets count are_all long is whole struck = true_from_ne_false (list_any (λ set. is_within set w) (take count sets)) (λ never.
      both_ways _ (none_passes (λ c. is_within (scope_of l c) w && violates l c q) masks (λ k low. nothing never k (omega arith) (is_within (scope_at l k) w) refl)) struck)
    where
      away : (k : ℕ) (xs : List ℕ) → is_within (scope_at l k) w ≡ false → list_any (λ r. is_within (scope_at l k) w && violates l (candidate_at k r) q) xs ≡ false
      away k [] out = refl
      away k (r ∷ xs) out = λ i. ap (λ b. b && violates l (candidate_at k r) q) out i || away k xs out i

      nothing : list_any (λ set. is_within set w) (take count sets) ≡ false → (k : ℕ) → k < length l.scopes → (b : Bool) → is_within (scope_at l k) w ≡ b →
          list_any (λ r. is_within (scope_at l k) w && violates l (candidate_at k r) q) (ones_of (slice_index_or masks k 0)) ≡ false
      nothing never k low false out = away k (ones_of (slice_index_or masks k 0)) out
      nothing never k low true in_set = sym (on_scope k (ones_of (slice_index_or masks k 0)) in_set) ∙ quiet (list_any (λ r. violates l (candidate_at k r) q) (ones_of (slice_index_or masks k 0))) refl
        where
          quiet : (b : Bool) → list_any (λ r. violates l (candidate_at k r) q) (ones_of (slice_index_or masks k 0)) ≡ b → b ≡ false
          quiet false hit = refl
          quiet true hit = absurd (
              let at = is.all whole k low hit in
              both_ways _ never (any_in (λ set. is_within set w) sets count at.0 at.1 is.room (ap (λ set. is_within set w) at.2 ∙ in_set)))
