-- No flaw is found exactly where the certificate is good.
use Rattle.cert_check.proofs.Prelude.{◌≡◌, ℕ, ◌+◌, ◌<◌, Bool, true, false, not, ◌&&◌, List, [], length, take, Option, Some, None, refl, sym, ◌∙◌, ap, subst, arith, inl, inr, ◌⊎◌, All, Any, AllPairs, IsTrue, position, slice_index_or, ◌==◌, ◌↔◌, option_or, get_or-take, length-take, Any-from_list_any, list_any-from_Any, list_any_at, list_all-from_AllPass, AllPass-from_list_all, length-range_with_len, get_or-range_with_len, both_ways, not-true, not-false, and_parts, and_from, and_left, and_right, not_from_true, not_from_false, false_from_ne_true, eqb-true, eq-eqb, ne_eqb, numbers, is_same, variables_of, Answer, Candidate, Language, IsCandidate, candidates, number_of, scope_of, violates, accepts, is_struck, has_scope, IsNoOn, numbered, Yes, Refutation, has_refutation, IsGood, is_other, repeats_scope, is_no_on, has_own_no, has_other, is_spared, is_rival, is_uncovered, is_unearned, flaw_before_list, first_flaw, verdict_of, list_same, same_list}
use Rattle.std.specs.Prelude.{option_map}
use Rattle.std.specs.Bool.{beq}
use Rattle.cert_check.specs.declared.verdict.Flaw.{Flaw}
use Rattle.cert_check.specs.declared.verdict.Flaw.TheVariants as flaw
use Rattle.cert_check.specs.declared.verdict.Verdict.{Verdict}
use Rattle.cert_check.specs.Told.{flaw_told}
use Rattle.cert_check.proofs.Finding.{none_found, all_fail, no_number, within}
use Rattle.language.proofs.Members.{all_candidates}
use Rattle.shared_lemmas.proofs.Read.{map_none, or_none}

-- ---- none of several

-- ---- tests and what they mean

no_on : (l : Language) (c : Candidate) (a : Answer) → is_no_on l c a ≡ true → IsNoOn l c a
no_on l c a h = let both = and_parts (not a.yes) (is_same (variables_of a.question) (scope_of l c)) h in
    record { no = not-true a.yes both.0; exact = same_list (variables_of a.question) (scope_of l c) both.1 }

is_on : (l : Language) (c : Candidate) (a : Answer) → IsNoOn l c a → is_no_on l c a ≡ true
is_on l c a h = and_from (not a.yes) (is_same (variables_of a.question) (scope_of l c)) (not_from_false a.yes h.no)
    (subst (λ (vs : List ℕ). is_same (variables_of a.question) vs ≡ true) h.exact (list_same (variables_of a.question)))

-- a no about a scope is one about the scope of each candidate there
no_beside : (l : Language) (c d : Candidate) (a : Answer) → d.scope ≡ c.scope → IsNoOn l d a → IsNoOn l c a
no_beside l c d a same h = record { no = h.no; exact = h.exact ∙ ap (λ s. slice_index_or l.scopes s []) same }

any_as : {X : Type 0} (P Q : X → Type 0) (xs : List X) → ((x : X) → P x → Q x) → Any P xs → Any Q xs
any_as P Q xs h some = (some.0, some.1, some.2, some.3, h some.1 some.4)

-- ---- the candidates

-- what fails at each of them fails at each candidate
fails_there : (l : Language) (p : Candidate → Bool) → All (λ c. p c ≡ false) (candidates l) → (c : Candidate) → IsCandidate l c → p c ≡ false
fails_there l p all c is = subst (λ (d : Candidate). p d ≡ false) ((numbered l).there c c is) (all (number_of l c) c ((numbered l).below c is))

fails_each : (l : Language) (p : Candidate → Bool) → ((c : Candidate) → IsCandidate l c → p c ≡ false) → All (λ c. p c ≡ false) (candidates l)
fails_each l p h = λ k d low. h (slice_index_or (candidates l) k d) (all_candidates l k d low)

-- one or the other, where not both fail
either : (a b : Bool) → (not a && not b) ≡ false → (a ≡ true) ⊎ (b ≡ true)
either true b h = inl refl
either false true h = inr refl
either false false h = absurd (let no : ⊥ = cc in no)

neither : (a b : Bool) → (a ≡ true) ⊎ (b ≡ true) → (not a && not b) ≡ false
neither a b (inl h) = and_left (not a) (not b) (not_from_true a h)
neither a b (inr h) = and_right (not a) (not b) (not_from_true b h)

module _ (l : Language) (network : List Candidate) (t : List Answer) (refutations : List Refutation) where
  -- ---- from no flaw

  first_part : first_flaw l network t refutations ≡ None → flaw_before_list l network t refutations ≡ None
  first_part h = (or_none (flaw_before_list l network t refutations) _ h).0

  one_each : All (λ k. repeats_scope network k ≡ false) (numbers (length network)) → AllPairs (λ c d. (c.scope ≡ d.scope) → ⊥) network
  one_each all i j d before low same =
      let at : repeats_scope network j ≡ false =
      subst (λ k. repeats_scope network k ≡ false) (get_or-range_with_len 0 (length network) j 0 low ∙ (let e : 0 + j ≡ j = omega arith in e)) (all j 0 (let size = length-range_with_len 0 (length network) in omega (arith, size, low))) in
      both_ways _ at (list_any_at (λ c. c.scope == (slice_index_or network j (record { scope = 0; rel = 0 })).scope) (take j network) i d
      (let size = length-take j network in omega (arith, size, before, low))
      (eq-eqb _ _ (ap (λ (c : Candidate). c.scope) (get_or-take j network i d before) ∙ same ∙ ap (λ (c : Candidate). c.scope) (within network j d (record { scope = 0; rel = 0 }) low))))

  told_each : All (λ c. is_rival l network t c ≡ false) (candidates l) →
      All (λ c. (d : Candidate) → IsCandidate l d → d.scope ≡ c.scope → (d.rel ≡ c.rel → ⊥) → IsTrue (is_struck l t d) ⊎ Any (λ a. IsNoOn l c a × (violates l d a.question ≡ false)) t) network
  told_each all k e low d is same other =
      let c : Candidate = slice_index_or network k e in
      go c same (either (is_struck l t d) (is_spared l t d) (second (has_other network d) _
      (list_any_at (λ b. (b.scope == d.scope) && not (b.rel == d.rel)) network k e low (and_from _ _ (eq-eqb _ _ (sym same)) (not_from_false _ (ne_eqb _ _ (λ is. other (sym is))))))
      (fails_there l (is_rival l network t) all d is)))
    where
      second : (a b : Bool) → a ≡ true → (a && b) ≡ false → b ≡ false
      second true b h k = k
      second false b h k = absurd (let no : ⊥ = cc in no)

      go : (c : Candidate) → d.scope ≡ c.scope → (is_struck l t d ≡ true) ⊎ (is_spared l t d ≡ true) → IsTrue (is_struck l t d) ⊎ Any (λ a. IsNoOn l c a × (violates l d a.question ≡ false)) t
      go c same (inl struck) = inl struck
      go c same (inr spared) = inr (any_as (λ a. (is_no_on l d a && not (violates l d a.question)) ≡ true) (λ a. IsNoOn l c a × (violates l d a.question ≡ false)) t
          (λ a h. (let both = and_parts (is_no_on l d a) (not (violates l d a.question)) h in (no_beside l c d a same (no_on l d a both.0), not-true _ both.1)))
          (Any-from_list_any (λ a. is_no_on l d a && not (violates l d a.question)) t spared))

  covered_each : All (λ c. is_uncovered l network t refutations c ≡ false) (candidates l) → (c : Candidate) → IsCandidate l c → has_scope network c.scope ≡ false → IsTrue (is_struck l t c) ⊎ IsTrue (has_refutation refutations (number_of l c))
  covered_each all c is free = either (is_struck l t c) (has_refutation refutations (number_of l c))
      (second (has_scope network c.scope) _ free (fails_there l (is_uncovered l network t refutations) all c is))
    where
      second : (a b : Bool) → a ≡ false → (not a && b) ≡ false → b ≡ false
      second true b h k = absurd (let no : ⊥ = cc in no)
      second false b h k = k

  pub good_without_flaw : first_flaw l network t refutations ≡ None → IsGood l network t refutations
  good_without_flaw h =
      let whole = or_none (flaw_before_list l network t refutations) (option_map flaw.Refutation (position (is_unearned l network) refutations)) h in
      let a = or_none (option_map flaw.Answer (position (is_other l network) t)) _ whole.0 in
      let b = or_none (option_map flaw.ScopeTwice (position (repeats_scope network) (numbers (length network)))) _ a.1 in
      let c = or_none (option_map flaw.NoOwnNo (position (λ c. not (has_own_no l t c)) network)) _ b.1 in
      let d = or_none (option_map flaw.Rival (position (is_rival l network t) (candidates l))) _ c.1 in
      record {
        agreeing = list_all-from_AllPass (λ a. beq (accepts l network a.question) a.yes) t (λ k e low. not-false _ (all_fail (is_other l network) t (map_none flaw.Answer _ a.0) k e low));
        one_a_scope = one_each (all_fail (repeats_scope network) (numbers (length network)) (map_none flaw.ScopeTwice _ b.0));
        begun = λ k e low. any_as (λ a. is_no_on l (slice_index_or network k e) a ≡ true) (IsNoOn l (slice_index_or network k e)) t (no_on l (slice_index_or network k e))
            (Any-from_list_any (is_no_on l (slice_index_or network k e)) t (not-false _ (all_fail (λ c. not (has_own_no l t c)) network (map_none flaw.NoOwnNo _ c.0) k e low)));
        told = told_each (all_fail (is_rival l network t) (candidates l) (map_none flaw.Rival _ d.0));
        earned = λ k e low. not-false _ (all_fail (is_unearned l network) refutations (map_none flaw.Refutation _ whole.1) k e low);
        rest = covered_each (all_fail (is_uncovered l network t refutations) (candidates l) (map_none flaw.Uncovered _ d.1));
      }

  -- ---- to no flaw

  -- a scope of an earlier item stands there
  earlier : (j : ℕ) → repeats_scope network j ≡ true → AllPairs (λ c d. (c.scope ≡ d.scope) → ⊥) network → j < length network → ⊥
  earlier j at apart low =
      let some = Any-from_list_any (λ c. c.scope == (slice_index_or network j (record { scope = 0; rel = 0 })).scope) (take j network) at in
      let size = length-take j network in
      let before : some.0 < j = (let h = some.2 in omega (arith, size, h)) in
      apart some.0 j (record { scope = 0; rel = 0 }) before low
      (ap (λ (c : Candidate). c.scope) (within network some.0 (record { scope = 0; rel = 0 }) some.1 (omega (arith, before, low)) ∙ sym (get_or-take j network some.0 some.1 before) ∙ some.3)
      ∙ eqb-true _ _ some.4)

  no_rival : IsGood l network t refutations → (d : Candidate) → IsCandidate l d → is_rival l network t d ≡ false
  no_rival good d is = false_from_ne_true _ (λ rival.
      let both = and_parts (has_other network d) _ rival in
      let some = Any-from_list_any (λ b. (b.scope == d.scope) && not (b.rel == d.rel)) network both.0 in
      let here = and_parts (some.1.scope == d.scope) (not (some.1.rel == d.rel)) some.4 in
      let same : some.1.scope ≡ d.scope = eqb-true _ _ here.0 in
      both_ways _ (neither (is_struck l t d) (is_spared l t d)
      (go some.1 (sym same) (told_there some.0 some.1 some.2 some.3 (sym same) (λ e. both_ways _ (not-true _ here.1) (eq-eqb _ _ (sym e)))))) both.1)
    where
      told_there : (k : ℕ) (c : Candidate) → k < length network → slice_index_or network k c ≡ c → d.scope ≡ c.scope → (d.rel ≡ c.rel → ⊥) → IsTrue (is_struck l t d) ⊎ Any (λ a. IsNoOn l c a × (violates l d a.question ≡ false)) t
      told_there k c low at same other = subst (λ (b : Candidate). d.scope ≡ b.scope → (d.rel ≡ b.rel → ⊥) → IsTrue (is_struck l t d) ⊎ Any (λ a. IsNoOn l b a × (violates l d a.question ≡ false)) t) at
          (λ scope rel. good.told k c low d is scope rel) same other

      go : (c : Candidate) → d.scope ≡ c.scope → IsTrue (is_struck l t d) ⊎ Any (λ a. IsNoOn l c a × (violates l d a.question ≡ false)) t → (is_struck l t d ≡ true) ⊎ (is_spared l t d ≡ true)
      go c same (inl struck) = inl struck
      go c same (inr some) = inr (list_any-from_Any (λ a. is_no_on l d a && not (violates l d a.question)) t
          (any_as (λ a. IsNoOn l c a × (violates l d a.question ≡ false)) (λ a. (is_no_on l d a && not (violates l d a.question)) ≡ true) t
          (λ a h. and_from (is_no_on l d a) (not (violates l d a.question)) (is_on l d a (no_beside l d c a (sym same) h.0)) (not_from_false _ h.1)) some))

  none_uncovered : IsGood l network t refutations → (c : Candidate) → IsCandidate l c → is_uncovered l network t refutations c ≡ false
  none_uncovered good c is = go (has_scope network c.scope) refl
    where
      go : (b : Bool) → has_scope network c.scope ≡ b → (not (has_scope network c.scope) && (not (is_struck l t c) && not (has_refutation refutations (number_of l c)))) ≡ false
      go true e = and_left (not (has_scope network c.scope)) _ (not_from_true _ e)
      go false e = and_right (not (has_scope network c.scope)) _ (neither (is_struck l t c) (has_refutation refutations (number_of l c)) (good.rest c is e))

  pub no_flaw_in_good : IsGood l network t refutations → first_flaw l network t refutations ≡ None
  no_flaw_in_good good =
      let a : position (is_other l network) t ≡ None = none_found (is_other l network) t (λ k e low. not_from_true _ (AllPass-from_list_all (λ a. beq (accepts l network a.question) a.yes) t good.agreeing k e low)) in
      let b : position (repeats_scope network) (numbers (length network)) ≡ None = no_number (repeats_scope network) (length network) (λ k low. false_from_ne_true _ (λ at. earlier k at good.one_a_scope low)) in
      let c : position (λ c. not (has_own_no l t c)) network ≡ None = none_found (λ c. not (has_own_no l t c)) network (λ k e low. not_from_true _ (list_any-from_Any (is_no_on l (slice_index_or network k e)) t
      (any_as (IsNoOn l (slice_index_or network k e)) (λ a. is_no_on l (slice_index_or network k e) a ≡ true) t (is_on l (slice_index_or network k e)) (good.begun k e low)))) in
      let d : position (is_rival l network t) (candidates l) ≡ None = none_found (is_rival l network t) (candidates l) (fails_each l (is_rival l network t) (no_rival good)) in
      let u : position (is_uncovered l network t refutations) (candidates l) ≡ None = none_found (is_uncovered l network t refutations) (candidates l) (fails_each l (is_uncovered l network t refutations) (none_uncovered good)) in
      let r : position (is_unearned l network) refutations ≡ None = none_found (is_unearned l network) refutations (λ k e low. not_from_true _ (good.earned k e low)) in
      λ i. option_or (option_or (option_map flaw.Answer (a i)) (option_or (option_map flaw.ScopeTwice (b i)) (option_or (option_map flaw.NoOwnNo (c i)) (option_or (option_map flaw.Rival (d i)) (option_map flaw.Uncovered (u i)))))) (option_map flaw.Refutation (r i))

  -- ---- the verdict

  yes_means : (o : Option Flaw) → verdict_of o ≡ Yes → o ≡ None
  yes_means None h = refl
  yes_means (Some f) h = absurd (let no : ⊥ = cc in no)

  pub yes_is_good : (verdict_of (first_flaw l network t refutations) ≡ Yes) ↔ IsGood l network t refutations
  yes_is_good = (λ h. good_without_flaw (yes_means (first_flaw l network t refutations) h), λ good. ap verdict_of (no_flaw_in_good good))

  -- a verdict that is the stated one
  pub good_at : (found : Verdict) → found ≡ verdict_of (first_flaw l network t refutations) → (found ≡ Yes) ↔ IsGood l network t refutations
  good_at found is = (λ h. yes_is_good.0 (sym is ∙ h), λ good. is ∙ yes_is_good.1 good)

-- ---- the first flaw that what the answers tell shows

pub none_where : (o : Option ℕ) → ((i : ℕ) → o ≡ Some i → ⊥) → o ≡ None
none_where None h = refl
none_where (Some i) h = absurd (h i refl)

pub flaw_of_told : (l : Language) (network : List Candidate) (t : List Answer) (refutations : List Refutation) (a b d : Option ℕ) →
    a ≡ position (λ c. not (has_own_no l t c)) network → b ≡ position (is_rival l network t) (candidates l) → d ≡ position (is_uncovered l network t refutations) (candidates l) →
    option_or (option_map flaw.NoOwnNo a) (option_or (option_map flaw.Rival b) (option_map flaw.Uncovered d)) ≡ flaw_told l network t refutations
flaw_of_told l network t refutations a b d e f g = λ j. option_or (option_map flaw.NoOwnNo (e j)) (option_or (option_map flaw.Rival (f j)) (option_map flaw.Uncovered (g j)))
