-- Masks that lose, one scope after another, the relations of the candidates that fail a test.
use Rattle.bias_store.proofs.Prelude.{◌≡◌, ℕ, ◌+◌, ◌-◌, ◌<◌, ◌≤◌, ◌^◌, Bool, true, false, cond, ◌||◌, not, List, [], ◌∷◌, length, refl, sym, ◌∙◌, ap, subst, arith, inl, inr, ◌⊎◌, get_or-set_same, get_or-set_other, ◌==◌, bit_and, slice_index_or, slice_set, All, filter, list_any, bit_not, w64, cases_eq, cases_lt, eq-eqb, ne_eqb, or_parts, true_from_ne_false, length-set, All-filter, Candidate, Language, IsCandidate, nothing_passes, ones_of, IsAcceptingOf, KeptSet, IsMadeFor, members_from, ones_of-zero}
use Rattle.std.proofs.lemmas.List.Filters.{length-filter_both}
use Rattle.bias_store.proofs.Members.{candidate_at, length-members_set, fewer_on_one, filter_of_masks, all_pass}
use Rattle.assign.proofs.Ones.{no_ones, ones_of-and_not}

-- the scopes below s are struck, and the count is right
pub record IsStruck (fails : Candidate → Bool) (old now : List ℕ) (s before count : ℕ) : Type 0 where
  pub long : length now ≡ length old
  pub counted : count ≡ length (members_from 0 now)
  pub fewer : count ≤ before
  pub struck : (k : ℕ) → k < s → ones_of (slice_index_or now k 0) ≡ filter (λ r. not (fails (candidate_at k r))) (ones_of (slice_index_or old k 0))
  pub rest : (k : ℕ) → s ≤ k → slice_index_or now k 0 ≡ slice_index_or old k 0

pub begins : (fails : Candidate → Bool) (old : List ℕ) (count : ℕ) → count ≡ length (members_from 0 old) → IsStruck fails old old 0 count count
begins fails old count counted = record { long = refl; counted = counted; fewer = omega arith; struck = λ k low. absurd (omega arith); rest = λ k far. refl }

module _ (fails : Candidate → Bool) (old now : List ℕ) (s before count relations failing failed : ℕ) (is : IsStruck fails old now s before count) (low : s < length old)
    (here : relations ≡ slice_index_or now s 0) (small : failing < 2 ^ 64) (fail : ones_of failing ≡ filter (λ r. fails (candidate_at s r)) (ones_of relations)) (counts : failed ≡ length (ones_of failing)) where
  left : ones_of (bit_and relations (bit_not w64 failing)) ≡ filter (λ r. not (fails (candidate_at s r))) (ones_of relations)
  left = ones_of-and_not relations failing (λ r. fails (candidate_at s r)) small fail

  both : failed + length (ones_of (bit_and relations (bit_not w64 failing))) ≡ length (ones_of (slice_index_or now s 0))
  both =
      let parts : length (filter (λ r. fails (candidate_at s r)) (ones_of relations)) + length (filter (λ r. not (fails (candidate_at s r))) (ones_of relations)) ≡ length (ones_of relations) =
      length-filter_both (λ r. fails (candidate_at s r)) (λ r. not (fails (candidate_at s r))) (λ r. refl) (ones_of relations) in
      (λ i. (counts ∙ ap length fail) i + length (left i)) ∙ parts ∙ ap (λ m. length (ones_of m)) here

  long : s < length now
  long = let same = is.long in omega arith

  pub enough : failed ≤ count
  enough = let counted = is.counted in omega (arith, both, fewer_on_one 0 now s long)

  pub struck_more : IsStruck fails old (slice_set now s (bit_and relations (bit_not w64 failing))) (s + 1) before (count - failed)
  struck_more =
      let set_count = length-members_set 0 now s (bit_and relations (bit_not w64 failing)) long in
      let counted = is.counted in
      let fewer = is.fewer in
      record {
        long = length-set now s (bit_and relations (bit_not w64 failing)) ∙ is.long;
        counted = omega (arith, both, set_count);
        fewer = omega arith;
        struck = λ k below. struck_at k below (cases_eq k s);
        rest = λ k past. get_or-set_other now s k (bit_and relations (bit_not w64 failing)) 0 (λ e. omega arith) ∙ is.rest k (omega arith);
      }
    where
      struck_at : (k : ℕ) → k < s + 1 → (k ≡ s) ⊎ (k ≡ s → ⊥) →
          ones_of (slice_index_or (slice_set now s (bit_and relations (bit_not w64 failing))) k 0) ≡ filter (λ r. not (fails (candidate_at k r))) (ones_of (slice_index_or old k 0))
      struck_at k below (inl same) = subst
          (λ (t : ℕ). ones_of (slice_index_or (slice_set now s (bit_and relations (bit_not w64 failing))) t 0) ≡ filter (λ r. not (fails (candidate_at t r))) (ones_of (slice_index_or old t 0))) (sym same)
          (ap ones_of (get_or-set_same now s (bit_and relations (bit_not w64 failing)) 0 long) ∙ left ∙ ap (λ m. filter (λ r. not (fails (candidate_at s r))) (ones_of m)) (here ∙ is.rest s (omega arith)))
      struck_at k below (inr other) = ap ones_of (get_or-set_other now s k (bit_and relations (bit_not w64 failing)) 0 other) ∙ is.struck k (omega arith)

-- scopes on which none fails are passed over
pub struck_skip : (fails : Candidate → Bool) (old now : List ℕ) (s t before count : ℕ) → IsStruck fails old now s before count → s ≤ t → ((k : ℕ) → s ≤ k → k < t → (r : ℕ) → fails (candidate_at k r) ≡ false) → IsStruck fails old now t before count
struck_skip fails old now s t before count is ahead none = record {
  long = is.long;
  counted = is.counted;
  fewer = is.fewer;
  struck = λ k low. go k low (cases_lt k s);
  rest = λ k past. is.rest k (omega arith);
}
  where
    go : (k : ℕ) → k < t → (k < s) ⊎ (s ≤ k) → ones_of (slice_index_or now k 0) ≡ filter (λ r. not (fails (candidate_at k r))) (ones_of (slice_index_or old k 0))
    go k low (inl before) = is.struck k before
    go k low (inr from) = ap ones_of (is.rest k from) ∙ sym (all_pass (λ r. not (fails (candidate_at k r))) (ones_of (slice_index_or old k 0)) (λ r. ap not (none k from low r)))

-- only on one scope any fails
module _ (fails : Candidate → Bool) (old : List ℕ) (s count relations failing failed : ℕ) (counted : count ≡ length (members_from 0 old)) (low : s < length old) (here : relations ≡ slice_index_or old s 0)
    (small : failing < 2 ^ 64) (fail : ones_of failing ≡ filter (λ r. fails (candidate_at s r)) (ones_of relations)) (counts : failed ≡ length (ones_of failing))
    (alone : (k : ℕ) → k < length old → (k ≡ s → ⊥) → (r : ℕ) → fails (candidate_at k r) ≡ false) where
  up_to : IsStruck fails old old s count count
  up_to = struck_skip fails old old 0 s count count (begins fails old count counted) (omega arith) (λ k from until. alone k (omega arith) (λ e. omega arith))

  pub enough_alone : failed ≤ count
  enough_alone = enough fails old old s count count relations failing failed up_to low here small fail counts

  pub struck_alone : IsStruck fails old (slice_set old s (bit_and relations (bit_not w64 failing))) (length old) count (count - failed)
  struck_alone =
      struck_skip fails old (slice_set old s (bit_and relations (bit_not w64 failing))) (s + 1) (length old) count (count - failed)
      (struck_more fails old old s count count relations failing failed up_to low here small fail counts) (omega arith) (λ k from until. alone k until (λ e. omega arith))

-- all scopes are struck
pub struck_all : (fails : Candidate → Bool) (old now : List ℕ) (s before count : ℕ) → IsStruck fails old now s before count → length old ≤ s → members_from 0 now ≡ filter (λ c. not (fails c)) (members_from 0 old)
struck_all fails old now s before count is end = filter_of_masks (λ c. not (fails c)) old now is.long (λ k low. is.struck k (omega arith))

-- ---- whether one fails

pub fails_of_filter : (p : ℕ → Bool) (xs : List ℕ) → filter p xs ≡ [] → list_any p xs ≡ false
fails_of_filter p [] none = refl
fails_of_filter p (x ∷ xs) none = go (p x) refl none (fails_of_filter p xs)
  where
    go : (b : Bool) → p x ≡ b → cond b (x ∷ filter p xs) (filter p xs) ≡ [] → (filter p xs ≡ [] → list_any p xs ≡ false) → list_any p (x ∷ xs) ≡ false
    go true on none rest = cc
    go false off none rest = ap (λ b. b || list_any p xs) off ∙ rest none

filter_of_fails : (p : ℕ → Bool) (xs : List ℕ) → list_any p xs ≡ false → filter p xs ≡ []
filter_of_fails p [] none = refl
filter_of_fails p (x ∷ xs) none = let parts = or_parts (p x) (list_any p xs) none in rw parts.0 (filter_of_fails p xs parts.1)

pub none_fails : (fails : ℕ → Bool) (relations failing : ℕ) → ones_of failing ≡ filter fails (ones_of relations) → failing ≡ 0 → list_any fails (ones_of relations) ≡ false
none_fails fails relations failing is none = fails_of_filter fails (ones_of relations) (sym is ∙ ap ones_of none ∙ ones_of-zero)

all_stay : (p : ℕ → Bool) (xs : List ℕ) → list_any p xs ≡ false → filter (λ x. not (p x)) xs ≡ xs
all_stay p [] none = refl
all_stay p (x ∷ xs) none = let parts = or_parts (p x) (list_any p xs) none in rw parts.0 (ap (λ ys. x ∷ ys) (all_stay p xs parts.1))

-- scopes on which none of the candidates that are left fails are passed over
pub struck_pass : (fails : Candidate → Bool) (old now : List ℕ) (s t before count : ℕ) → IsStruck fails old now s before count → ((k : ℕ) → s ≤ k → k < t → filter (λ r. fails (candidate_at k r)) (ones_of (slice_index_or now k 0)) ≡ []) →
    s ≤ t → IsStruck fails old now t before count
struck_pass fails old now s t before count is none ahead = record {
  long = is.long;
  counted = is.counted;
  fewer = is.fewer;
  struck = λ k low. go k low (cases_lt k s);
  rest = λ k past. is.rest k (omega arith);
}
  where
    go : (k : ℕ) → k < t → (k < s) ⊎ (s ≤ k) → ones_of (slice_index_or now k 0) ≡ filter (λ r. not (fails (candidate_at k r))) (ones_of (slice_index_or old k 0))
    go k low (inl before) = is.struck k before
    go k low (inr from) =
        sym (all_stay (λ r. fails (candidate_at k r)) (ones_of (slice_index_or now k 0)) (fails_of_filter (λ r. fails (candidate_at k r)) (ones_of (slice_index_or now k 0)) (none k from low)))
        ∙ ap (λ m. filter (λ r. not (fails (candidate_at k r))) (ones_of m)) (is.rest k from)

pub one_fails : (fails : ℕ → Bool) (relations failing : ℕ) → failing < 2 ^ 64 → ones_of failing ≡ filter fails (ones_of relations) → (failing ≡ 0 → ⊥) → list_any fails (ones_of relations) ≡ true
one_fails fails relations failing small is some =
    true_from_ne_false (list_any fails (ones_of relations)) (λ none. some (no_ones failing small (is ∙ filter_of_fails fails (ones_of relations) none)))

-- ---- the mask of one scope is emptied

pub dropped : (masks : List ℕ) (s : ℕ) → s < length masks → members_from 0 (slice_set masks s 0) ≡ filter (λ c. not (s == c.scope)) (members_from 0 masks)
dropped masks s low = filter_of_masks (λ c. not (s == c.scope)) masks (slice_set masks s 0) (length-set masks s 0) (λ k below. go k (cases_eq s k))
  where
    go : (k : ℕ) → (s ≡ k) ⊎ (s ≡ k → ⊥) → ones_of (slice_index_or (slice_set masks s 0) k 0) ≡ filter (λ r. not (s == k)) (ones_of (slice_index_or masks k 0))
    go k (inl same) =
        ap (λ t. ones_of (slice_index_or (slice_set masks s 0) t 0)) (sym same) ∙ ap ones_of (get_or-set_same masks s 0 0 low) ∙ ones_of-zero
        ∙ sym (nothing_passes (λ r. not (s == k)) (ones_of (slice_index_or masks k 0)) (λ r. ap not (eq-eqb s k same)))
    go k (inr other) =
        ap ones_of (get_or-set_other masks s k 0 0 (λ e. other (sym e)))
        ∙ sym (all_pass (λ r. not (s == k)) (ones_of (slice_index_or masks k 0)) (λ r. ap not (ne_eqb s k other)))

pub dropped_count : (masks : List ℕ) (s relations dropping count : ℕ) → s < length masks → relations ≡ slice_index_or masks s 0 → dropping ≡ length (ones_of relations) → count ≡ length (members_from 0 masks) →
    (dropping ≤ count) × (count - dropping ≡ length (members_from 0 (slice_set masks s 0)))
dropped_count masks s relations dropping count low here counts counted =
    let same = ap (λ m. length (ones_of m)) here in
    let none = ap length ones_of-zero in
    let set_count = length-members_set 0 masks s 0 low in
    let few = fewer_on_one 0 masks s low in
    (omega arith, omega arith)

-- ---- made for a language

-- a set with some of the members is made for the same languages
pub made_still : (l : Language) (old new : KeptSet) (ok : Candidate → Bool) → IsMadeFor l old → new.scopes ≡ old.scopes → new.members ≡ filter ok old.members → new.accepting ≡ old.accepting → IsMadeFor l new
made_still l old new ok made same members accepting = record {
  scopes = same ∙ made.scopes;
  known = subst (All (IsCandidate l)) (sym members) (All-filter ok (IsCandidate l) old.members made.known);
  accepting = subst (IsAcceptingOf l) (sym accepting) made.accepting;
}
