-- What one answer more tells of all candidates.
use Rattle.cert_check.proofs.Prelude.{◌≡◌, ℕ, ◌+◌, ◌-◌, ◌<◌, ◌≤◌, ◌^◌, Bool, true, false, cond, not, ◌&&◌, ◌||◌, List, [], ◌∷◌, length, take, get_or, Option, Some, None, refl, sym, ◌∙◌, ap, subst, arith, inl, inr, ◌⊎◌, get_or-set_same, get_or-set_other, ◌==◌, All, IfSome, bit_or, slice_set, slice_index_or, unwrap_or, list_any, and_from, and_parts, both_ways, cases_eq, eq-eqb, false_from_ne_true, length-set, bit_at-zero, list_any_at, list_any_more, list_all-from_AllPass, has, is_same, is_within, is_one, is_one-or, Assignment, covers, variables_of, Answer, Candidate, Language, IsLanguage, IsCandidate, place_on, relations_on, scope_at, scope_number, scope_of, violates, is_struck, covered_within, same_scope, any_number, is_spared, AreSpared, IsSparedOn, is_no_about, AreUnstruck, HaveLost, option_map_or, list_same, same_list}
use Rattle.cert_check.proofs.Finding.{all_fail}
use Rattle.assign.specs.Sets.{ones_of}
use Rattle.assign.proofs.Ones.{has-ones_of, ones_of-first}
use Rattle.assign.proofs.Masks.{is_one-and}
use Rattle.std.specs.Int.{bit_at}
use Rattle.std.specs.Prelude.{bit_and}

-- ---- the candidates that no yes violates

all_ones : (mask r : ℕ) → mask ≡ 2 ^ 64 - 1 → r < 64 → is_one mask r ≡ true
all_ones mask r is low = sym (has-ones_of mask r low) ∙ ap (λ m. has (ones_of m) r) is ∙ ap (λ xs. has xs r) (ones_of-first 64 (omega arith)) ∙ any_number (λ x. x == r) 64 r low (eq-eqb r r refl)

pub none_struck : (l : Language) (t : List Answer) (list : List ℕ) → IsLanguage l → length list ≡ length l.scopes → ((s : ℕ) → s < length list → slice_index_or list s 0 ≡ 2 ^ 64 - 1) → AreUnstruck l (take 0 t) list
none_struck l t list lawful long all = record {
  long = long;
  few = lawful.few_relations;
  each = λ s r low small. all_ones (slice_index_or list s 0) r (all s (omega (arith, low, long))) (let few = lawful.few_relations s low in omega (arith, small, few));
}

module _ (l : Language) (q : Assignment) where
  pub lost_none : (before : List ℕ) → HaveLost l q 0 before before
  lost_none before = record { long = refl; each = λ s r low known small. absurd (omega (arith, low)); rest = λ s from. refl }

  -- one scope more
  pub lost_more : (n mask : ℕ) (before now : List ℕ) → n < length before → ((r : ℕ) → r < length (relations_on l n) → is_one mask r ≡ not (violates l (record { scope = n; rel = r }) q)) →
      HaveLost l q n before now → HaveLost l q (n + 1) before (slice_set now n (bit_and (slice_index_or now n 0) mask))
  lost_more n mask before now low is lost = record {
    long = length-set now n _ ∙ lost.long;
    each = λ s r below known small. each s r below known small (cases_eq s n);
    rest = λ s from. get_or-set_other now n s _ 0 (λ same. (let h : ⊥ = omega (arith, same, from) in h)) ∙ lost.rest s (omega (arith, from));
  }
    where
      inside : n < length now
      inside = let same = lost.long in omega (arith, low, same)

      each : (s r : ℕ) → s < n + 1 → s < length l.scopes → r < length (relations_on l s) → (s ≡ n) ⊎ (s ≡ n → ⊥) →
          is_one (slice_index_or (slice_set now n (bit_and (slice_index_or now n 0) mask)) s 0) r ≡ (is_one (slice_index_or before s 0) r && not (violates l (record { scope = s; rel = r }) q))
      each s r below known small (inl same) =
          ap (λ k. is_one (slice_index_or (slice_set now n (bit_and (slice_index_or now n 0) mask)) k 0) r) same
          ∙ ap (λ m. is_one m r) (get_or-set_same now n _ 0 inside)
          ∙ is_one-and (slice_index_or now n 0) mask r
          ∙ ap (λ m. is_one m r && is_one mask r) (lost.rest n (omega arith))
          ∙ ap (λ b. is_one (slice_index_or before n 0) r && b) (is r (subst (λ k. r < length (relations_on l k)) same small))
          ∙ ap (λ k. is_one (slice_index_or before k 0) r && not (violates l (record { scope = k; rel = r }) q)) (sym same)
      each s r below known small (inr other) = ap (λ m. is_one m r) (get_or-set_other now n s _ 0 other) ∙ lost.each s r (omega (arith, below, other)) known small

  -- and one on which nothing was left
  pub lost_nothing : (n : ℕ) (before now : List ℕ) → slice_index_or now n 0 ≡ 0 → HaveLost l q n before now → HaveLost l q (n + 1) before now
  lost_nothing n before now none lost = record {
    long = lost.long;
    each = λ s r below known small. each s r below known small (cases_eq s n);
    rest = λ s from. lost.rest s (omega (arith, from));
  }
    where
      no_bit : (r : ℕ) → is_one 0 r ≡ false
      no_bit r = ap (λ x. x == 1) (bit_at-zero r)

      each : (s r : ℕ) → s < n + 1 → s < length l.scopes → r < length (relations_on l s) → (s ≡ n) ⊎ (s ≡ n → ⊥) →
          is_one (slice_index_or now s 0) r ≡ (is_one (slice_index_or before s 0) r && not (violates l (record { scope = s; rel = r }) q))
      each s r below known small (inl same) =
          let now_none : slice_index_or now s 0 ≡ 0 = ap (λ k. slice_index_or now k 0) same ∙ none in
          let before_none : slice_index_or before s 0 ≡ 0 = sym (lost.rest s (omega (arith, same))) ∙ now_none in
          ap (λ m. is_one m r) now_none ∙ no_bit r
          ∙ sym (ap (λ m. is_one m r && not (violates l (record { scope = s; rel = r }) q)) before_none ∙ ap (λ b. b && not (violates l (record { scope = s; rel = r }) q)) (no_bit r))
      each s r below known small (inr other) = lost.each s r (omega (arith, below, other)) known small

module _ (l : Language) (t : List Answer) (i : ℕ) (a : Answer) (low : i < length t) (at : a ≡ get_or t i a) where
  -- one answer more
  struck_more : (c : Candidate) → is_struck l (take (i + 1) t) c ≡ (is_struck l (take i t) c || (a.yes && violates l c a.question))
  struck_more c = list_any_more (λ (b : Answer). b.yes && violates l c b.question) t i a low ∙ ap (λ (b : Answer). is_struck l (take i t) c || (b.yes && violates l c b.question)) (sym at)

  pub yes_strikes : (before after : List ℕ) → a.yes ≡ true → AreUnstruck l (take i t) before → HaveLost l a.question (length before) before after → AreUnstruck l (take (i + 1) t) after
  yes_strikes before after said are lost = record {
    long = lost.long ∙ are.long;
    few = are.few;
    each = λ s r known small.
        lost.each s r (let long = are.long in omega (arith, known, long)) known small
        ∙ ap (λ b. b && not (violates l (record { scope = s; rel = r }) a.question)) (are.each s r known small)
        ∙ go (is_struck l (take i t) (record { scope = s; rel = r })) (violates l (record { scope = s; rel = r }) a.question)
        ∙ ap (λ b. not (is_struck l (take i t) (record { scope = s; rel = r }) || (b && violates l (record { scope = s; rel = r }) a.question))) (sym said)
        ∙ ap not (sym (struck_more (record { scope = s; rel = r })));
  }
    where
      go : (b v : Bool) → (not b && not v) ≡ not (b || (true && v))
      go true v = refl
      go false v = refl

  pub no_strikes : (list : List ℕ) → a.yes ≡ false → AreUnstruck l (take i t) list → AreUnstruck l (take (i + 1) t) list
  no_strikes list denied are = record {
    long = are.long;
    few = are.few;
    each = λ s r known small.
        are.each s r known small
        ∙ go (is_struck l (take i t) (record { scope = s; rel = r }))
        ∙ ap (λ b. not (is_struck l (take i t) (record { scope = s; rel = r }) || (b && violates l (record { scope = s; rel = r }) a.question))) (sym denied)
        ∙ ap not (sym (struck_more (record { scope = s; rel = r })));
  }
    where
      go : (b : Bool) → not b ≡ not (b || false)
      go true = refl
      go false = refl

-- ---- the scope that a no is about exactly

module _ (l : Language) (lawful : IsLanguage l) where
  is_lone : (s : ℕ) → s < length l.scopes → IsCandidate l (record { scope = s; rel = 0 })
  is_lone s low = record { scope = low; rel = lawful.used s low }

  within_itself : (xs : List ℕ) → is_within xs xs ≡ true
  within_itself xs = list_all-from_AllPass (has xs) xs (λ k d low. list_any_at (λ x. x == slice_index_or xs k d) xs k d low (eq-eqb _ _ refl))

  -- two scopes of the same variables are one
  one_scope : (s k : ℕ) → s < length l.scopes → k < length l.scopes → scope_at l s ≡ scope_at l k → s ≡ k
  one_scope s k low below same = same_scope l lawful (record { scope = k; rel = 0 }) (record { scope = s; rel = 0 }) (is_lone k below) (is_lone s low)
      (subst (λ (xs : List ℕ). is_within (scope_at l s) xs ≡ true) same (within_itself (scope_at l s)))

  pub about_found : (a : Answer) (found : Option ℕ) → a.yes ≡ false → IfSome found (λ s. scope_at l s ≡ variables_of a.question) → IfSome found (λ s. is_no_about l s a ≡ true)
  about_found a None denied there = there
  about_found a (Some s) denied there = and_from (not a.yes) _ (ap not denied) (subst (λ (xs : List ℕ). is_same (variables_of a.question) xs ≡ true) (sym there) (list_same (variables_of a.question)))

  pub only_scope : (a : Answer) (found : Option ℕ) → found ≡ scope_number l (variables_of a.question) → IfSome found (λ s. s < length l.scopes) → IfSome found (λ s. scope_at l s ≡ variables_of a.question) →
      (s : ℕ) → s < length l.scopes → is_no_about l s a ≡ true → found ≡ Some s
  only_scope a None none known there s low about = absurd (both_ways _ (all_fail (is_same (variables_of a.question)) l.scopes (sym none) s [] low) (and_parts (not a.yes) _ about).1)
  only_scope a (Some k) some known there s low about = ap Some (one_scope k s known low (there ∙ same_list _ _ (and_parts (not a.yes) _ about).1))

  -- a set of more variables is no scope
  pub too_many : (a : Answer) (found : Option ℕ) → 4 < length (variables_of a.question) → (s : ℕ) → s < length l.scopes → is_no_about l s a ≡ true → found ≡ Some s
  too_many a found many s low about =
      let same : length (variables_of a.question) ≡ length (scope_at l s) = ap length (same_list (variables_of a.question) (scope_at l s) (and_parts (not a.yes) (is_same (variables_of a.question) (scope_at l s)) about).1) in
      let short = (lawful.scopes s [] low).short in
      absurd (omega (arith, many, same, short))

-- ---- what such a no spares

-- whether an answer is such a no whose tuple the relation on that scope accepts
abbrev spares : Language → ℕ → ℕ → Answer → Bool
spares l s r b = is_no_about l s b && not (violates l (record { scope = s; rel = r }) b.question)

nothing_spared : (l : Language) (s r : ℕ) (xs : List Answer) → list_any (is_no_about l s) xs ≡ false → list_any (spares l s r) xs ≡ false
nothing_spared l s r [] none = refl
nothing_spared l s r (b ∷ bs) none = go (is_no_about l s b) none (nothing_spared l s r bs)
  where
    go : (x : Bool) → (x || list_any (is_no_about l s) bs) ≡ false → (list_any (is_no_about l s) bs ≡ false → list_any (spares l s r) bs ≡ false) →
        ((x && not (violates l (record { scope = s; rel = r }) b.question)) || list_any (spares l s r) bs) ≡ false
    go true h rest = absurd (both_ways _ h refl)
    go false h rest = rest h

module _ (l : Language) (t : List Answer) (i : ℕ) (a : Answer) (low : i < length t) (at : a ≡ get_or t i a) where
  about_more : (s : ℕ) → list_any (is_no_about l s) (take (i + 1) t) ≡ (list_any (is_no_about l s) (take i t) || is_no_about l s a)
  about_more s = list_any_more (is_no_about l s) t i a low ∙ ap (λ (b : Answer). list_any (is_no_about l s) (take i t) || is_no_about l s b) (sym at)

  spares_more : (s r : ℕ) → list_any (spares l s r) (take (i + 1) t) ≡ (list_any (spares l s r) (take i t) || spares l s r a)
  spares_more s r = list_any_more (spares l s r) t i a low ∙ ap (λ (b : Answer). list_any (spares l s r) (take i t) || spares l s r b) (sym at)

  or_false : (b c : Bool) → c ≡ false → (b || c) ≡ b
  or_false true c h = refl
  or_false false c h = h

  or_true : (b c : Bool) → c ≡ true → (b || c) ≡ true
  or_true true c h = refl
  or_true false c h = h

  elsewhere : (s : ℕ) (o : Option ℕ) → is_no_about l s a ≡ false → IsSparedOn l (take i t) s o → IsSparedOn l (take (i + 1) t) s o
  elsewhere s None other none = about_more s ∙ or_false _ _ other ∙ none
  elsewhere s (Some mask) other some = (
    about_more s ∙ or_false _ _ other ∙ some.0,
    λ r below. some.1 r below ∙ sym (spares_more s r ∙ or_false _ _ (ap (λ b. b && not (violates l (record { scope = s; rel = r }) a.question)) other)),
  )

  here : (s : ℕ) (o : Option ℕ) (accepting : ℕ) → is_no_about l s a ≡ true → ((r : ℕ) → r < length (relations_on l s) → is_one accepting r ≡ not (violates l (record { scope = s; rel = r }) a.question)) →
      IsSparedOn l (take i t) s o → IsSparedOn l (take (i + 1) t) s (Some (bit_or (unwrap_or o 0) accepting))
  here s None accepting about is none = (
    about_more s ∙ or_true _ _ about,
    λ r below. is_one-or 0 accepting r ∙ (λ j. zero_has_none r j || is r below j)
        ∙ sym (spares_more s r ∙ (λ j. nothing_spared l s r (take i t) none j || (about j && not (violates l (record { scope = s; rel = r }) a.question)))),
  )
    where
      zero_has_none : (r : ℕ) → is_one 0 r ≡ false
      zero_has_none r = ap (λ x. x == 1) (bit_at-zero r)
  here s (Some mask) accepting about is some = (
    about_more s ∙ or_true _ _ about,
    λ r below. is_one-or mask accepting r ∙ (λ j. some.1 r below j || is r below j)
        ∙ sym (spares_more s r ∙ ap (λ b. list_any (spares l s r) (take i t) || (b && not (violates l (record { scope = s; rel = r }) a.question))) about),
  )

  pub spared_same : (list : List (Option ℕ)) → ((s : ℕ) → s < length l.scopes → is_no_about l s a ≡ false) → AreSpared l (take i t) list → AreSpared l (take (i + 1) t) list
  spared_same list none are = record { long = are.long; each = λ s below. elsewhere s (slice_index_or list s None) (none s below) (are.each s below) }

  pub spared_more : (list : List (Option ℕ)) (s accepting : ℕ) → s < length l.scopes → is_no_about l s a ≡ true → ((k : ℕ) → k < length l.scopes → is_no_about l k a ≡ true → Some s ≡ Some k) →
      ((r : ℕ) → r < length (relations_on l s) → is_one accepting r ≡ not (violates l (record { scope = s; rel = r }) a.question)) →
      AreSpared l (take i t) list → AreSpared l (take (i + 1) t) (slice_set list s (Some (bit_or (unwrap_or (slice_index_or list s None) 0) accepting)))
  spared_more list s accepting below about only is are = record {
    long = length-set list s _ ∙ are.long;
    each = λ k under. go k under (cases_eq k s);
  }
    where
      long : length list ≡ length l.scopes
      long = are.long

      some_is : (x y : ℕ) → Some x ≡ Some y → x ≡ y
      some_is x y e = ap (λ o. unwrap_or o 0) e

      go : (k : ℕ) → k < length l.scopes → (k ≡ s) ⊎ (k ≡ s → ⊥) → IsSparedOn l (take (i + 1) t) k (slice_index_or (slice_set list s (Some (bit_or (unwrap_or (slice_index_or list s None) 0) accepting))) k None)
      go k under (inl same) = subst (λ (n : ℕ). IsSparedOn l (take (i + 1) t) n (slice_index_or (slice_set list s (Some (bit_or (unwrap_or (slice_index_or list s None) 0) accepting))) n None)) (sym same)
          (subst (IsSparedOn l (take (i + 1) t) s) (sym (get_or-set_same list s _ None (omega (arith, below, long)))) (here s (slice_index_or list s None) accepting about is (are.each s below)))
      go k under (inr other) = subst (IsSparedOn l (take (i + 1) t) k) (sym (get_or-set_other list s k _ None other))
          (elsewhere k (slice_index_or list k None) (false_from_ne_true _ (λ on. other (sym (some_is s k (only k under on))))) (are.each k under))

-- ---- what is read

module _ (l : Language) (t : List Answer) (list : List (Option ℕ)) (c : Candidate) (are : AreSpared l t list) (is : IsCandidate l c) where
  pub mask_tells : (mask : ℕ) → slice_index_or list c.scope None ≡ Some mask → is_one mask c.rel ≡ is_spared l t c
  mask_tells mask there = (subst (IsSparedOn l t c.scope) there (are.each c.scope is.scope)).1 c.rel is.rel

  pub none_tells : slice_index_or list c.scope None ≡ None → false ≡ is_spared l t c
  none_tells there = sym (nothing_spared l c.scope c.rel t (subst (IsSparedOn l t c.scope) there (are.each c.scope is.scope)))

-- what is left on a candidate's scope tells whether no yes violates it
pub left_tells : (l : Language) (t : List Answer) (list : List ℕ) (c : Candidate) (mask : ℕ) → AreUnstruck l t list → IsCandidate l c → slice_index_or list c.scope 0 ≡ mask → is_one mask c.rel ≡ not (is_struck l t c)
left_tells l t list c mask are is there = ap (λ m. is_one m c.rel) (sym there) ∙ are.each c.scope c.rel is.scope is.rel

-- ---- the relations on a scope that a question doesn't violate

pick : (b : Bool) (x : ℕ) (p : ℕ → Bool) → not (b && not (p x)) ≡ option_map_or p (cond b (Some x) None) true
pick true x p = twice (p x)
  where
    twice : (b : Bool) → not (not b) ≡ b
    twice true = refl
    twice false = refl
pick false x p = refl

-- those that accept the tuple that it gives the scope, and all where it gives none
not_violated : (l : Language) (s : ℕ) (q : Assignment) (r : ℕ) →
    not (violates l (record { scope = s; rel = r }) q) ≡ option_map_or (λ at. slice_index_or (slice_index_or (relations_on l s) r []) at false) (place_on l s q) true
not_violated l s q r = pick (covers q (scope_at l s)) _ (λ at. slice_index_or (slice_index_or (relations_on l s) r []) at false)

module _ (l : Language) (s : ℕ) (q : Assignment) (mask : ℕ) where
  pub unviolated_bare : length (relations_on l s) ≤ 64 → None ≡ place_on l s q → mask ≡ 2 ^ 64 - 1 → (r : ℕ) → r < length (relations_on l s) → is_one mask r ≡ not (violates l (record { scope = s; rel = r }) q)
  unviolated_bare few none all r low =
      all_ones mask r all (omega (arith, low, few))
      ∙ ap (λ o. option_map_or (λ at. slice_index_or (slice_index_or (relations_on l s) r []) at false) o true) none ∙ sym (not_violated l s q r)

  pub unviolated_at : (at : ℕ) → Some at ≡ place_on l s q → ((r : ℕ) → (bit_at mask r == 1) ≡ slice_index_or (slice_index_or (relations_on l s) r []) at false) → (r : ℕ) → r < length (relations_on l s) →
      is_one mask r ≡ not (violates l (record { scope = s; rel = r }) q)
  unviolated_at at there is r low =
      is r ∙ ap (λ o. option_map_or (λ p. slice_index_or (slice_index_or (relations_on l s) r []) p false) o true) there ∙ sym (not_violated l s q r)

-- ---- a scope that isn't covered

pub open_holds : (l : Language) → IsLanguage l → (c : Candidate) → IsCandidate l c → (q : Assignment) → is_within (scope_of l c) (variables_of q) ≡ false → violates l c q ≡ false
open_holds l lawful c is q apart = false_from_ne_true _ (λ bad. both_ways _ apart (covered_within q (scope_of l c) small (and_parts (covers q (scope_of l c)) _ bad).0))
  where
    small : All (λ v. v < 128) (scope_of l c)
    small k d h = (let low = (lawful.scopes c.scope [] is.scope).known k d h in let most = lawful.few_variables in omega arith)
