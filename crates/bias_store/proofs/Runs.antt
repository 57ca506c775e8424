-- Runs of scopes with the same first variable, and scopes that a question leaves open.
use Rattle.bias_store.proofs.Prelude.{◌≡◌, ℕ, ◌+◌, ◌-◌, ◌<◌, ◌≤◌, false, ◌&&◌, not, List, [], ◌∷◌, length, get_or, None, sym, ◌∙◌, ap, subst, arith, inl, inr, ◌⊎◌, get_or-set_same, get_or-set_other, slice_set, replicate, is_some, cases_eq, false_from_ne_true, length-set, length-replicate, get_or-replicate, Assignment, value_of, covers, tuple_on, holds, Language, IsLanguage, IsScope, scope_at, relation_of, violates, AreRunsFrom, CoversOnly}
use Rattle.bias_store.proofs.Members.{candidate_at, read_at}

-- the last scope's run ends behind it
pub runs_last : (l : Language) (n : ℕ) (next : List ℕ) → n ≡ length l.scopes → next ≡ replicate n n → AreRunsFrom l next (n - 1)
runs_last l n next same is = record {
  long = ap length is ∙ length-replicate n n ∙ same;
  ahead = λ s low below. omega (arith, at s below);
  within = λ s low below. omega (arith, at s below);
  alike = λ s k low below from until. (let e : k ≡ s = omega (arith, at s below) in ap (λ t. get_or (scope_at l t) 0 0) e);
}
  where
    at : (s : ℕ) → s < length l.scopes → get_or next s 0 ≡ n
    at s below = ap (λ xs. get_or xs s 0) is ∙ get_or-replicate n s n 0 (omega arith)

module _ (l : Language) (next : List ℕ) (s x : ℕ) (is : AreRunsFrom l next (s + 1)) (here : s < length l.scopes) where
  at_this : get_or (slice_set next s x) s 0 ≡ x
  at_this = let long = is.long in get_or-set_same next s x 0 (omega arith)

  -- one scope more, whose run ends at x
  pub runs_more : s < x → x ≤ length l.scopes → ((k : ℕ) → s ≤ k → k < x → get_or (scope_at l k) 0 0 ≡ get_or (scope_at l s) 0 0) → AreRunsFrom l (slice_set next s x) s
  runs_more after within same = record {
    long = length-set next s x ∙ is.long;
    ahead = λ k low below. ahead k low below (cases_eq k s);
    within = λ k low below. inside k low below (cases_eq k s);
    alike = λ k m low below from until. alike k m low below from until (cases_eq k s);
  }
    where
      ahead : (k : ℕ) → s ≤ k → k < length l.scopes → (k ≡ s) ⊎ (k ≡ s → ⊥) → k < get_or (slice_set next s x) k 0
      ahead k low below (inl e) = omega (arith, ap (λ t. get_or (slice_set next s x) t 0) e, at_this)
      ahead k low below (inr other) = omega (arith, get_or-set_other next s k x 0 other, is.ahead k (omega arith) below)

      inside : (k : ℕ) → s ≤ k → k < length l.scopes → (k ≡ s) ⊎ (k ≡ s → ⊥) → get_or (slice_set next s x) k 0 ≤ length l.scopes
      inside k low below (inl e) = omega (arith, ap (λ t. get_or (slice_set next s x) t 0) e, at_this)
      inside k low below (inr other) = omega (arith, get_or-set_other next s k x 0 other, is.within k (omega arith) below)

      alike : (k m : ℕ) → s ≤ k → k < length l.scopes → k ≤ m → m < get_or (slice_set next s x) k 0 → (k ≡ s) ⊎ (k ≡ s → ⊥) → get_or (scope_at l m) 0 0 ≡ get_or (scope_at l k) 0 0
      alike k m low below from until (inl e) =
          same m (omega arith) (omega (arith, ap (λ t. get_or (slice_set next s x) t 0) e, at_this)) ∙ ap (λ t. get_or (scope_at l t) 0 0) (sym e)
      alike k m low below from until (inr other) = is.alike k m (omega arith) below from (omega (arith, get_or-set_other next s k x 0 other))

-- the next scope has another first variable
pub runs_apart : (l : Language) (next : List ℕ) (s x : ℕ) → AreRunsFrom l next (s + 1) → s + 1 < length l.scopes → x ≡ s + 1 → AreRunsFrom l (slice_set next s x) s
runs_apart l next s x is here at = runs_more l next s x is (omega arith) (omega arith) (omega arith) (λ k from until. (let e : k ≡ s = omega arith in ap (λ t. get_or (scope_at l t) 0 0) e))

-- it has the same one
pub runs_on : (l : Language) (next : List ℕ) (s x : ℕ) → AreRunsFrom l next (s + 1) → s + 1 < length l.scopes → x ≡ get_or next (s + 1) 0 → get_or (scope_at l s) 0 0 ≡ get_or (scope_at l (s + 1)) 0 0 → AreRunsFrom l (slice_set next s x) s
runs_on l next s x is here at same =
    let ahead = is.ahead (s + 1) (omega arith) here in
    let within = is.within (s + 1) (omega arith) here in
    runs_more l next s x is (omega arith) (omega arith) (omega arith) (λ k from until. go k from until (cases_eq k s))
  where
    go : (k : ℕ) → s ≤ k → k < x → (k ≡ s) ⊎ (k ≡ s → ⊥) → get_or (scope_at l k) 0 0 ≡ get_or (scope_at l s) 0 0
    go k from until (inl e) = ap (λ t. get_or (scope_at l t) 0 0) e
    go k from until (inr other) = is.alike (s + 1) k (omega arith) here (omega arith) (omega arith) ∙ sym same

-- ---- scopes that a question leaves open

open_at_first : (q : Assignment) (scope : List ℕ) → 1 ≤ length scope → value_of q (get_or scope 0 0) ≡ None → covers q scope ≡ false
open_at_first q [] some none = absurd (omega arith)
open_at_first q (v ∷ scope) some none = ap (λ o. is_some o && covers q scope) none

-- a run whose first variable has no value
pub run_open : (l : Language) (q : Assignment) (next : List ℕ) (s k : ℕ) → IsLanguage l → AreRunsFrom l next 0 → s < length l.scopes → value_of q (get_or (scope_at l s) 0 0) ≡ None → s ≤ k → k < get_or next s 0 → covers q (scope_at l k) ≡ false
run_open l q next s k lawful is here none from until =
    let within = is.within s (omega arith) here in
    let scope : IsScope (length l.names) (scope_at l k) = lawful.scopes k [] (omega arith) in
    open_at_first q (scope_at l k) scope.not_empty (ap (value_of q) (is.alike s k (omega arith) here from until) ∙ none)

-- nothing on such a scope is violated
pub open_violates : (l : Language) (s : ℕ) (q : Assignment) → covers q (scope_at l s) ≡ false → (r : ℕ) → violates l (candidate_at s r) q ≡ false
open_violates l s q none r = ap (λ b. b && not (holds l.value_count (relation_of l (candidate_at s r)) (tuple_on q (scope_at l s)))) none

-- nothing on another scope than the only one that is covered
pub open_elsewhere : (l : Language) (s : ℕ) (q : Assignment) (n : ℕ) → n ≡ length l.scopes → CoversOnly l s q → (k : ℕ) → k < n → (k ≡ s → ⊥) → (r : ℕ) → violates l (candidate_at k r) q ≡ false
open_elsewhere l s q n all only k low other = open_violates l k q (false_from_ne_true _ (λ covered. other (only k (omega arith) covered)))

-- ---- one step of the way back from the last scope

module _ (l : Language) (next : List ℕ) (n back s i x : ℕ) (is : AreRunsFrom l next (n - back)) (some : 1 ≤ back) (low : back < n) (all : n ≡ length l.scopes) (here : s ≡ n - 1 - back) (at : i ≡ s) where
  later : AreRunsFrom l next (s + 1)
  later = subst (AreRunsFrom l next) (omega arith) is

  pub step_apart : x ≡ s + 1 → AreRunsFrom l (slice_set next i x) (n - (back + 1))
  step_apart end = subst (AreRunsFrom l (slice_set next i x)) (let e : s ≡ n - (back + 1) = omega arith in e)
      (subst (λ (j : ℕ). AreRunsFrom l (slice_set next j x) s) (sym at) (runs_apart l next s x later (omega arith) end))

  pub step_on : (j : ℕ) → j ≡ s + 1 → x ≡ get_or next j x → get_or (scope_at l s) 0 0 ≡ get_or (scope_at l (s + 1)) 0 0 → AreRunsFrom l (slice_set next i x) (n - (back + 1))
  step_on j end read same = subst (AreRunsFrom l (slice_set next i x)) (let e : s ≡ n - (back + 1) = omega arith in e)
      (subst (λ (k : ℕ). AreRunsFrom l (slice_set next k x) s) (sym at)
      (runs_on l next s x later (omega arith) (let long = later.long in read_at next (s + 1) j x (omega arith) end read) same))
