-- A part's search, one scope after another.
use Rattle.query_gen.proofs.Prelude.{◌≡◌, ℕ, zero, suc, ◌+◌, ◌-◌, ◌<◌, ◌≤◌, Bool, true, false, cond, ◌||◌, List, [], ◌∷◌, length, get_or, replicate, refl, sym, ◌∙◌, ap, subst, arith, inl, inr, ◌⊎◌, ◌==◌, ◌≢◌, filter, range_with_len, cases_lt, cases_eq, ne_eqb, eq-eqb, false_from_ne_true, get_or-replicate, length-replicate, All-contains, has, Candidate, Language, IsCandidate, relations_on, number_of, IsNetwork, any-map, any-filter, count, count_more, count_rises, ones_of, kept_relations, candidate_at, Query, Ask, AllImplied, Undecided, is_among, is_ask, reach, scope_start, IsScopeOf, IsSearchedTo, IsSearchedBefore}
use Rattle.std.specs.Int.{bit_at}
use Rattle.std.proofs.Math.ListN.{get_or-eq_default}
use Rattle.query_gen.proofs.Among.{among_contained}
use Rattle.query_gen.proofs.Parts.{next_other}

-- ---- Where scopes begin

start_is : (l : Language) (s : ℕ) → scope_start l s ≡ count l s
start_is l s = omega arith

pub start_next : (l : Language) (s : ℕ) → scope_start l (s + 1) ≡ scope_start l s + length (relations_on l s)
start_next l s =
    let more = count_more l s in let here = start_is l s in let next = start_is l (s + 1) in omega arith

pub start_rises : (l : Language) (s t : ℕ) → s ≤ t → scope_start l s ≤ scope_start l t
start_rises l s t low =
    let rises = count_rises l s t low in let here = start_is l s in let there = start_is l t in omega arith

-- a candidate's number, from where its scope begins
pub from_start : (l : Language) (c : Candidate) → number_of l c ≡ scope_start l c.scope + c.rel
from_start l c = let here = start_is l c.scope in omega arith

-- the scopes of a part's first and last candidate, and those between them
pub scope_inside : (l : Language) (first end s : ℕ) (a b : Candidate) → IsCandidate l a → IsCandidate l b → number_of l a ≡ first → number_of l b ≡ end - 1 → first < end → a.scope ≤ s → s < b.scope + 1 → IsScopeOf l first end s
scope_inside l first end s a b is_a is_b at_a at_b some from to = record {
  known = (let low = is_b.scope in omega arith);
  ends =
      (let number = from_start l a in let rel = is_a.rel in let next = start_next l a.scope in let rises = start_rises l (a.scope + 1) (s + 1) (omega arith) in omega arith);
  begins = (let number = from_start l b in let rises = start_rises l s b.scope (omega arith) in omega arith);
  rising = omega arith;
}

-- the last one doesn't come before the first one
pub rising_scopes : (l : Language) (first end : ℕ) (a b : Candidate) (s t : ℕ) → s ≡ a.scope → t ≡ b.scope → number_of l a ≡ first → number_of l b ≡ end - 1 → IsCandidate l a → IsCandidate l b → first < end → s ≤ t + 1
rising_scopes l first end a b s t at_s at_t at_a at_b is_a is_b some = go (cases_lt b.scope a.scope)
  where
    go : (b.scope < a.scope) ⊎ (a.scope ≤ b.scope) → s ≤ t + 1
    go (inr up) = omega arith
    go (inl down) = absurd (let here = from_start l a in let there = from_start l b in let rel = is_b.rel in let next = start_next l b.scope in let rises = start_rises l (b.scope + 1) a.scope (omega arith) in omega arith)

-- ---- A scope that has no kept candidate

among_has : (kept : List Candidate) (s r : ℕ) → is_among kept (candidate_at s r) ≡ has (kept_relations kept s) r
among_has kept s r = sym (any-map (λ x. x == r) (λ (c : Candidate). c.rel) (filter (λ c. c.scope == s) kept) ∙ any-filter (λ (c : Candidate). c.rel == r) (λ c. c.scope == s) kept)

-- a relation that is kept on a scope is one of a candidate
pub kept_known : (l : Language) (kept : List Candidate) (s r : ℕ) → IsNetwork l kept → has (kept_relations kept s) r ≡ true → IsCandidate l (candidate_at s r)
kept_known l kept s r known there = All-contains (IsCandidate l) kept (candidate_at s r) known (among_contained kept (candidate_at s r) (among_has kept s r ∙ there))

-- some numbers of the scope's candidates, none of which is kept
passed : (l : Language) (network kept : List Candidate) (budget first s : ℕ) (bytes : List ℕ) (answer : Query) → s < length l.scopes → (k n : ℕ) → first ≤ n → scope_start l s ≤ n →
    n + k ≤ scope_start l s + length (relations_on l s) → ((r : ℕ) → n ≤ scope_start l s + r → scope_start l s + r < n + k → has (kept_relations kept s) r ≡ false) →
    IsSearchedTo l network kept budget first n bytes answer → IsSearchedTo l network kept budget first (n + k) bytes answer
passed l network kept budget first s bytes answer low zero n from on within none before =
    subst (λ (m : ℕ). IsSearchedTo l network kept budget first m bytes answer) (let e : n ≡ n + 0 = omega arith in e) before
passed l network kept budget first s bytes answer low (suc k) n from on within none before =
    let c : Candidate = record { scope = s; rel = n - scope_start l s } in
    let is : IsCandidate l c = record { scope = low; rel = omega arith } in
    let at : number_of l c ≡ n = (let number = from_start l c in omega arith) in
    let off : is_among kept c ≡ false = among_has kept s (n - scope_start l s) ∙ none (n - scope_start l s) (omega arith) (omega arith) in
    subst (λ (m : ℕ). IsSearchedTo l network kept budget first m bytes answer) (let e : (n + 1) + k ≡ n + suc k = omega arith in e)
    (passed l network kept budget first s bytes answer low k (n + 1) (omega arith) (omega arith) (omega arith) (λ r after below. none r (omega arith) (omega arith)) (next_other l network kept budget first n c bytes answer is at from off before))

pub passed_to : (l : Language) (network kept : List Candidate) (budget first s n m : ℕ) (bytes : List ℕ) (answer : Query) → s < length l.scopes → first ≤ n → scope_start l s ≤ n → n ≤ m →
    m ≤ scope_start l s + length (relations_on l s) → ((r : ℕ) → n ≤ scope_start l s + r → scope_start l s + r < m → has (kept_relations kept s) r ≡ false) →
    IsSearchedTo l network kept budget first n bytes answer → IsSearchedTo l network kept budget first m bytes answer
passed_to l network kept budget first s n m bytes answer low from on rising within none before =
    subst (λ (k : ℕ). IsSearchedTo l network kept budget first k bytes answer) (let e : n + (m - n) ≡ m = omega arith in e)
    (passed l network kept budget first s bytes answer low (m - n) n from on (omega arith) (λ r after below. none r after (omega arith)) before)

pub scope_passed : (l : Language) (network kept : List Candidate) (budget first end s : ℕ) (bytes : List ℕ) (answer : Query) → IsScopeOf l first end s → kept_relations kept s ≡ [] →
    IsSearchedBefore l network kept budget first end s bytes answer → IsSearchedBefore l network kept budget first end (s + 1) bytes answer
scope_passed l network kept budget first end s bytes answer inside none before =
    let next = start_next l s in
    let ends = inside.ends in
    let begins = inside.begins in
    let rising = inside.rising in
    passed_to l network kept budget first s (reach first end (scope_start l s)) (reach first end (scope_start l (s + 1))) bytes answer inside.known (omega arith) (omega arith) (omega arith) (omega arith)
    (λ r after below. ap (λ rs. has rs r) none) before

-- ---- The least relation of some

range_above : (p : ℕ → Bool) (a n r : ℕ) → has (filter p (range_with_len a n)) r ≡ true → a ≤ r
range_above p a zero r h = cc
range_above p a (suc n) r h = go (p a) (range_above p (a + 1) n r) h
  where
    rest : List ℕ
    rest = filter p (range_with_len (a + 1) n)

    here : (a ≡ r) ⊎ (a ≢ r) → (has rest r ≡ true → a + 1 ≤ r) → has (a ∷ rest) r ≡ true → a ≤ r
    here (inl same) further h = omega arith
    here (inr other) further h = let above = further (sym (ap (λ b. b || has rest r) (ne_eqb a r other)) ∙ h) in omega arith

    go : (b : Bool) → (has rest r ≡ true → a + 1 ≤ r) → has (cond b (a ∷ rest) rest) r ≡ true → a ≤ r
    go true further h = here (cases_eq a r) further h
    go false further h = let above = further h in omega arith

range_least : (p : ℕ → Bool) (a n x : ℕ) (xs : List ℕ) → filter p (range_with_len a n) ≡ x ∷ xs → (r : ℕ) → has xs r ≡ true → x < r
range_least p a zero x xs h r there = cc
range_least p a (suc n) x xs h r there = go (p a) (λ same. range_least p (a + 1) n x xs same r there) h
  where
    rest : List ℕ
    rest = filter p (range_with_len (a + 1) n)

    go : (b : Bool) → (rest ≡ x ∷ xs → x < r) → cond b (a ∷ rest) rest ≡ x ∷ xs → x < r
    go true further h =
        let first : a ≡ x = cc in
        let others : rest ≡ xs = cc in
        let above = range_above p (a + 1) n r (ap (λ ys. has ys r) others ∙ there) in
        omega arith
    go false further h = further h

-- none of some relations is below the first one
pub none_below : (relations rel others : ℕ) → ones_of relations ≡ rel ∷ ones_of others → (r : ℕ) → r < rel → has (ones_of relations) r ≡ false
unfolding ones_of
none_below relations rel others is r below =
    ap (λ rs. has rs r) is ∙ ap (λ b. b || has (ones_of others) r) (ne_eqb rel r (λ e. omega arith))
    ∙ false_from_ne_true (has (ones_of others) r) (λ there. (let above = range_least (λ k. bit_at relations k == 1) 0 64 rel (ones_of others) is r there in omega arith))

-- and the others are those that aren't it
pub others_has : (relations rel others : ℕ) → ones_of relations ≡ rel ∷ ones_of others → (r : ℕ) → rel ≢ r → has (ones_of others) r ≡ has (ones_of relations) r
others_has relations rel others is r other = sym (ap (λ rs. has rs r) is ∙ ap (λ b. b || has (ones_of others) r) (ne_eqb rel r other))

pub first_has : (relations rel others : ℕ) → ones_of relations ≡ rel ∷ ones_of others → has (ones_of relations) rel ≡ true
first_has relations rel others is = ap (λ rs. has rs rel) is ∙ ap (λ b. b || has (ones_of others) rel) (eq-eqb rel rel refl)

-- ---- Looking through the relations that are kept on a scope

-- Of the candidates on a scope with numbers from next to below end, those are kept whose relation is one of these. The scope's first number is base.
abbrev pub AreLeft : List Candidate → ℕ → ℕ → ℕ → ℕ → ℕ → Type 0
AreLeft kept s base end relations next = (r : ℕ) → next ≤ base + r → base + r < end → has (ones_of relations) r ≡ has (kept_relations kept s) r

pub all_left : (kept : List Candidate) (s base end relations next : ℕ) → ones_of relations ≡ kept_relations kept s → AreLeft kept s base end relations next
all_left kept s base end relations next is = λ r low high. ap (λ rs. has rs r) is

pub left_after : (kept : List Candidate) (s base end relations rel others next after : ℕ) → ones_of relations ≡ rel ∷ ones_of others → next ≤ after → ((r : ℕ) → after ≤ base + r → base + r < end → rel ≢ r) →
    AreLeft kept s base end relations next → AreLeft kept s base end others after
left_after kept s base end relations rel others next after is further other left = λ r low high. others_has relations rel others is r (other r low high) ∙ left r (omega arith) high

-- none is kept before the first of them
pub none_between : (kept : List Candidate) (s base end relations rel others next : ℕ) → ones_of relations ≡ rel ∷ ones_of others → base + rel < end → AreLeft kept s base end relations next →
    (r : ℕ) → next ≤ base + r → base + r < base + rel → has (kept_relations kept s) r ≡ false
none_between kept s base end relations rel others next is below left r low before = sym (left r low (omega arith)) ∙ none_below relations rel others is r (omega arith)

pub none_left : (kept : List Candidate) (s base end relations next : ℕ) → ones_of relations ≡ [] → AreLeft kept s base end relations next → (r : ℕ) → next ≤ base + r → base + r < end → has (kept_relations kept s) r ≡ false
none_left kept s base end relations next none left r low high = sym (left r low high) ∙ ap (λ rs. has rs r) none

-- and the first is a candidate's
pub first_known : (l : Language) (kept : List Candidate) (s base end relations rel others next : ℕ) → IsNetwork l kept → ones_of relations ≡ rel ∷ ones_of others → next ≤ base + rel → base + rel < end →
    AreLeft kept s base end relations next → IsCandidate l (candidate_at s rel)
first_known l kept s base end relations rel others next known is low high left = kept_known l kept s rel known (sym (left rel low high) ∙ first_has relations rel others is)

-- one scope more has none
pub none_so_far : (kept : List Candidate) (from s : ℕ) → ((k : ℕ) → from ≤ k → k < s → kept_relations kept k ≡ []) → kept_relations kept s ≡ [] → (k : ℕ) → from ≤ k → k < s + 1 → kept_relations kept k ≡ []
none_so_far kept from s before here k low high = go (cases_lt k s)
  where
    go : (k < s) ⊎ (s ≤ k) → kept_relations kept k ≡ []
    go (inl below) = before k low below
    go (inr past) = ap (kept_relations kept) (let e : k ≡ s = omega arith in e) ∙ here

-- as many of them
pub scopes_passed : (l : Language) (network kept : List Candidate) (budget first end s t : ℕ) (bytes : List ℕ) (answer : Query) → s ≤ t → ((k : ℕ) → s ≤ k → k < t → IsScopeOf l first end k) →
    ((k : ℕ) → s ≤ k → k < t → kept_relations kept k ≡ []) → IsSearchedBefore l network kept budget first end s bytes answer → IsSearchedBefore l network kept budget first end t bytes answer
scopes_passed l network kept budget first end s t bytes answer rising inside none before =
    subst (λ (k : ℕ). IsSearchedBefore l network kept budget first end k bytes answer) (let e : s + (t - s) ≡ t = omega arith in e) (go (t - s) (omega arith))
  where
    go : (n : ℕ) → s + n ≤ t → IsSearchedBefore l network kept budget first end (s + n) bytes answer
    go zero low = subst (λ (k : ℕ). IsSearchedBefore l network kept budget first end k bytes answer) (let e : s ≡ s + 0 = omega arith in e) before
    go (suc n) low =
        subst (λ (k : ℕ). IsSearchedBefore l network kept budget first end k bytes answer) (let e : (s + n) + 1 ≡ s + suc n = omega arith in e)
        (scope_passed l network kept budget first end (s + n) bytes answer (inside (s + n) (omega arith) (omega arith)) (none (s + n) (omega arith) (omega arith)) (go n (omega arith)))

-- bytes that are all 0
pub blank : (bytes : List ℕ) (n : ℕ) → bytes ≡ replicate {A = ℕ} n 0 → (k : ℕ) → get_or bytes k 0 ≡ 0
blank bytes n is k = ap (λ (xs : List ℕ). get_or xs k 0) is ∙ go (cases_lt k n)
  where
    go : (k < n) ⊎ (n ≤ k) → get_or (replicate {A = ℕ} n 0) k 0 ≡ 0
    go (inl low) = get_or-replicate n k 0 0 low
    go (inr past) = get_or-eq_default (replicate {A = ℕ} n 0) 0 (let long = length-replicate {A = ℕ} n 0 in omega arith)

-- ---- One number after another

pub moved : (l : Language) (network kept : List Candidate) (budget first m n : ℕ) (bytes : List ℕ) (answer : Query) → m ≡ n → IsSearchedTo l network kept budget first m bytes answer → IsSearchedTo l network kept budget first n bytes answer
moved l network kept budget first m n bytes answer same before = subst (λ (k : ℕ). IsSearchedTo l network kept budget first k bytes answer) same before

-- ---- Answers

pub no_ask : (answer : Query) → ((e : _) → answer ≢ Ask e) → is_ask answer ≡ false
no_ask (Ask e) other = absurd (other e refl)
no_ask AllImplied other = refl
no_ask Undecided other = refl
