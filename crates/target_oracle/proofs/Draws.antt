-- Draws, hidden values, and what follows of them.
use Rattle.target_oracle.proofs.Prelude.{◌≡◌, ◌≢◌, ℕ, zero, suc, ◌+◌, ◌/◌, ◌%◌, ◌^◌, ◌<◌, ◌≤◌, ◌++◌, ◌==◌, ◌&&◌, ◌||◌, Bool, true, false, not, cond, List, [], ◌∷◌, length, map, get_or, Option, Some, None, refl, sym, ◌∙◌, ap, subst, arith, inl, inr, ◌⊎◌, All, AllPairs, slice_set, pos, replicate, String, string_bytes, map-append, same_Some, list_all, filter, ForSome, option_map_or, get_or-eq_default, ext_get_or, get_or-set_same, get_or-set_other, get_or-replicate, length-map, All-head, All-tail, All-weaker, has_scope, numbers, Candidate, is_in, range_in, whole_range, Language, Given, AreNames, IsQuestion, accepts, violates, scope_of, relations_on, Frame, build_refusal, pair_after, after, state_at, draw, names, name_of, given, frame, hidden, drawn_on, target_of, IsGenerated}
use Rattle.std.specs.declared.alloc.Global.{Global}
use Rattle.language.specs.declared.parts.LangFault.{LangFault}
use Rattle.std.specs.Fmt.{decimal, digits}
use Rattle.std.proofs.lemmas.Fmt.{decimal_injective}
use Rattle.std.proofs.lemmas.Bool.{and_from, ne_eqb, cases_eq, le-leb}
use Rattle.rel_table.specs.Relation.{holds, place}
use Rattle.std.proofs.lemmas.List.FromFn.{length-map-range_with_len, get_or-map-range_with_len, map-range_with_len_more, filter_of_map_range_with_len_more}
use Rattle.assign.specs.Assignment.{Assignment, covers, tuple_on}
use Rattle.language.specs.Search.{satisfies}

-- ---- the names

pub names-apart : AllPairs (λ a b. a ≢ b) names
names-apart i j d low high same =
    let first : get_or names i d ≡ name_of i = get_or-map-range_with_len name_of 0 10 i i d (omega arith) (omega arith) in
    let second : get_or names j d ≡ name_of j = get_or-map-range_with_len name_of 0 10 j j d high (omega arith) in
    let both : name_of i ≡ name_of j = sym first ∙ same ∙ second in
    let numbers : i + 1 ≡ j + 1 = decimal_injective (i + 1) (j + 1) (omega arith) (omega arith) (let tails : decimal (i + 1) ≡ decimal (j + 1) = cc in tails) in
    omega arith

pub are_names : AreNames names
unfolding digits
are_names = record { formed = refl; apart = names-apart }

pub is_buildable : build_refusal 10 given None ≡ None
unfolding pair_after
is_buildable = refl

-- ---- the state, draw by draw

pub next_state : (number i x y : ℕ) → x ≡ state_at number i → y ≡ after x → y ≡ state_at number (i + 1)
unfolding state_at
next_state number i x y at is = is ∙ ap after at ∙ ap (state_at number) (let e : suc i ≡ i + 1 = omega arith in e)

pub first_state : (number x : ℕ) → x ≡ number → x ≡ state_at number 0
unfolding state_at
first_state number x is = is

-- ---- hidden values, one by one

pub drawn_more : (number v y : ℕ) (old new : Assignment) → length old ≡ 10 → v < 10 → y ≡ state_at number (v + 1) → new ≡ slice_set old v (Some (y / 2 ^ 32 % 3)) →
    ((k : ℕ) → k < v → get_or old k None ≡ Some (draw number (k + 1) 3)) → (k : ℕ) → k < v + 1 → get_or new k None ≡ Some (draw number (k + 1) 3)
drawn_more number v y old new size low state more so_far k below = ap (λ (e : Assignment). get_or e k None) more ∙ go (cases_eq k v)
  where
    go : (k ≡ v) ⊎ (k ≢ v) → get_or (slice_set old v (Some (y / 2 ^ 32 % 3))) k None ≡ Some (draw number (k + 1) 3)
    go (inl same) =
        ap (λ (j : ℕ). get_or (slice_set old v (Some (y / 2 ^ 32 % 3))) j None) same
        ∙ get_or-set_same old v (Some (y / 2 ^ 32 % 3)) None (omega (arith, size))
        ∙ ap (λ (x : ℕ). Some (x / 2 ^ 32 % 3)) state ∙ ap (λ (j : ℕ). Some (draw number (j + 1) 3)) (sym same)
    go (inr other) = get_or-set_other old v k (Some (y / 2 ^ 32 % 3)) None other ∙ so_far k (omega arith)

pub all_drawn : (number v : ℕ) (values : Assignment) → 10 ≤ v → length values ≡ 10 → ((k : ℕ) → k < v → get_or values k None ≡ Some (draw number (k + 1) 3)) → values ≡ hidden number
unfolding hidden
all_drawn number v values past size drawn =
    ext_get_or None values (hidden number) (size ∙ sym (length-map-range_with_len (λ v. Some (draw number (v + 1) 3)) 0 10))
    (λ i low. drawn i (omega (arith, size)) ∙ sym (get_or-map-range_with_len (λ v. Some (draw number (v + 1) 3)) 0 10 i i None (omega (arith, size)) (omega arith)))

-- ---- hidden values are a question

pub is_question : (number : ℕ) (l : Language) → IsGenerated l → IsQuestion l (hidden number)
unfolding hidden
is_question number l built = record {
  size = length-map-range_with_len (λ v. Some (draw number (v + 1) 3)) 0 10 ∙ sym (ap length built.names ∙ length-map-range_with_len name_of 0 10);
  values_fit = λ k d low.
      let few : k < 10 = subst (λ n. k < n) (length-map-range_with_len (λ v. Some (draw number (v + 1) 3)) 0 10) low in
      let at : get_or (hidden number) k d ≡ Some (draw number (k + 1) 3) = get_or-map-range_with_len (λ v. Some (draw number (v + 1) 3)) 0 10 k k d few (omega arith) in
      subst (λ (o : Option ℕ). ForSome o (λ x. x < l.value_count)) (sym at) (λ x e. subst (λ n. n < l.value_count) (same_Some (draw number (k + 1) 3) x e) (subst (λ n. draw number (k + 1) 3 < n) (sym built.value_count) (let small : draw number (k + 1) 3 < 3 = omega arith in small)));
  within = λ v low.
      let few : v < 10 = omega (arith, low, ap length built.names, length-map-range_with_len name_of 0 10) in
      let at : get_or (hidden number) v None ≡ Some (draw number (v + 1) 3) = get_or-map-range_with_len (λ v. Some (draw number (v + 1) 3)) 0 10 v v None few (omega arith) in
      let all : range_in l.ranges v ≡ whole_range 3 = ap (λ ranges. range_in ranges v) built.ranges ∙ get_or-replicate 10 v (whole_range 3) (record { first = 0; last = 63 }) few in
      let inside : is_in (whole_range 3) (draw number (v + 1) 3) ≡ true =
      and_from _ _ (le-leb 0 (draw number (v + 1) 3) (omega arith)) (le-leb (draw number (v + 1) 3) 2 (let small : draw number (v + 1) 3 < 3 = omega arith in omega arith)) in
      (λ i. option_map_or (is_in (all i)) (at i) true) ∙ inside;
}

-- ---- hidden values are a solution

not_violated : (a b : Bool) → (a && b) ≡ true → not (a && not b) ≡ true
not_violated true true h = refl
not_violated true false h = h
not_violated false b h = refl

all_filtered : (p q : Candidate → Bool) (cs : List Candidate) → ((c : Candidate) → p c ≡ true → q c ≡ true) → list_all q (filter p cs) ≡ true
all_filtered p q [] h = refl
all_filtered p q (c ∷ cs) h = go (p c) refl (all_filtered p q cs h)
  where
    go : (b : Bool) → p c ≡ b → list_all q (filter p cs) ≡ true → list_all q (cond b (c ∷ filter p cs) (filter p cs)) ≡ true
    go true e rest = and_from (q c) (list_all q (filter p cs)) (h c e) rest
    go false e rest = rest

pub is_solution : (number : ℕ) (l : Language) → accepts l (target_of number l) (hidden number) ≡ true
is_solution number l = all_filtered (λ c. satisfies l c (hidden number)) (λ c. not (violates l c (hidden number))) (map (drawn_on number) (numbers (length l.scopes)))
    (λ c h. not_violated _ _ h)

-- ---- the target, scope by scope

abbrev pub drawn_below : ℕ → Language → ℕ → List Candidate
drawn_below number l s = filter (λ c. satisfies l c (hidden number)) (map (drawn_on number) (numbers s))

pub one_more : (number : ℕ) (l : Language) (s : ℕ) → drawn_below number l (s + 1) ≡ drawn_below number l s ++ cond (satisfies l (drawn_on number s) (hidden number)) (drawn_on number s ∷ []) []
one_more number l s = filter_of_map_range_with_len_more (λ c. satisfies l c (hidden number)) (drawn_on number) 0 s s (omega arith)

abbrev pub drawn_by : ℕ → ℕ → Candidate
drawn_by s x = record { scope = s; rel = x / 2 ^ 32 % 7 }

pub target_more : (number : ℕ) (l : Language) (s x : ℕ) (e : Assignment) (b : Bool) (list new : List Candidate) → x ≡ state_at number (s + 11) → e ≡ hidden number → b ≡ satisfies l (drawn_by s x) e →
    list ≡ drawn_below number l s → new ≡ list ++ cond b (drawn_by s x ∷ []) [] → new ≡ drawn_below number l (s + 1)
target_more number l s x e b list new state values test so_far more =
    let same : drawn_by s x ≡ drawn_on number s = ap (drawn_by s) state in
    let passes : b ≡ satisfies l (drawn_on number s) (hidden number) = test ∙ (λ i. satisfies l (same i) (values i)) in
    more ∙ (λ i. so_far i ++ cond (passes i) (same i ∷ []) []) ∙ sym (one_more number l s)

pub later : (list : List Candidate) (s : ℕ) → All (λ (c : Candidate). c.scope < s) list → All (λ (c : Candidate). c.scope < s + 1) list
later list s low = All-weaker (λ (c : Candidate). c.scope < s) (λ (c : Candidate). c.scope < s + 1) (λ c h. omega arith) list low

-- ---- the language

pub frame_is : (f : Frame) → f.names ≡ names → f.least_value ≡ pos 1 → f.value_count ≡ 3 → f.ranges ≡ replicate 10 (whole_range 3) → f ≡ frame
frame_is f a b c ranges = λ i. record { names = a i; least_value = b i; value_count = c i; ranges = ranges i }

pub nothing_on : (list : List Candidate) (s : ℕ) → All (λ (c : Candidate). c.scope < s) list → has_scope list s ≡ false
nothing_on [] s low = refl
nothing_on (c ∷ list) s low =
    let here : (c.scope == s) ≡ false = ne_eqb c.scope s (λ e. let h = All-head (λ (c : Candidate). c.scope < s) c list low in omega arith) in
    let rest : has_scope list s ≡ false = nothing_on list s (All-tail (λ (c : Candidate). c.scope < s) c list low) in
    (λ i. here i || rest i)

-- ---- one name more

pub name_more : (v : ℕ) (items new : List (String Global)) (text : String Global) → new ≡ items ++ text ∷ [] → string_bytes text ≡ name_of v → map string_bytes items ≡ map name_of (numbers v) →
    map string_bytes new ≡ map name_of (numbers (v + 1))
name_more v items new text more is so_far =
    ap (map string_bytes) more ∙ map-append (λ (s : String Global). string_bytes s) items (text ∷ []) ∙ (λ i. so_far i ++ is i ∷ []) ∙ sym (map-range_with_len_more name_of 0 v v (omega arith))

-- ---- nothing refuses the language

pub no_refusal : (n : ℕ) (parts : List Given) (fault : LangFault) → n ≡ 10 → parts ≡ given → build_refusal n parts None ≡ Some fault → ⊥
no_refusal n parts fault size same refused = go (sym refused ∙ (λ i. build_refusal (size i) (same i) None) ∙ is_buildable)
  where
    go : ◌≡◌ {A = Option LangFault} (Some fault) None → ⊥
    go e = cc

pub how_many : (f : Frame) → f.names ≡ names → length f.names ≡ 10
how_many f same = ap length same ∙ length-map-range_with_len name_of 0 10

pub how_many_strings : (items : List (String Global)) → map string_bytes items ≡ names → length items ≡ 10
how_many_strings items same = sym (length-map items (λ (s : String Global). string_bytes s)) ∙ ap length same ∙ length-map-range_with_len name_of 0 10
