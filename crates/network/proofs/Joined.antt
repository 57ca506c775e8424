-- The intersection of several relations comes first among the relations that lie within each of them.
use Rattle.network.proofs.Prelude.{◌≡◌, ℕ, zero, suc, ◌+◌, ◌-◌, ◌^◌, ◌<◌, ◌≤◌, ◌++◌, ◌==◌, ◌&&◌, Bool, true, false, cond, w64, List, [], ◌∷◌, length, drop, map, get_or, Option, Some, None, Bor, refl, sym, ◌∙◌, ap, subst, arith, append_assoc, inl, inr, ◌⊎◌, min, All, Contains, slice_index_or, position, bit_and, find, bytes_eq, option_map, option_and_then, drop-cons, and_parts, and_from, both_ways, cases_order, get_or_default, All-nil, All-cons, All-head, All-tail, All-contains, All-weaker, Relation, meet_all, is_above, IsClosing, not_above_itself, Language, Given, IsLanguage, scope_at, relations_on, given_on, is_part, relation_named, TellsNamed, texts_of, position_here, given_on_sized, relations_named, intersection_on, relation_by}
use Rattle.std.specs.Int.{bit_at, trailing_zeros}
use Rattle.std.proofs.lemmas.Option.{same_Some}
use Rattle.std.proofs.lemmas.Nat.Bits.{bit_at_and, bit_at_ones, bit_at-lt, bit_at-zero, bit_at-trailing_zeros}
use Rattle.std.proofs.lemmas.List.Sums.{AllPass-from_list_all, list_all-from_AllPass}
use Rattle.assign.specs.SetLemmas.{is_one}
use Rattle.assign.proofs.Masks.{is_one-and}
use Rattle.language.specs.Building.{is_same_relation, relations_given}
use Rattle.language.proofs.Repeats.{same_is, same_itself}
use Rattle.network.specs.Masks.{is_within_all, TellsWithinAll}
use Rattle.network.proofs.Parts.{part_of_first, part_of_more, part_of_all}
use Rattle.std.proofs.lemmas.Bool.{false_from_ne_true}

-- what comes before a relation has a tuple that the relation lacks
above_not_part : (x m : Relation) → is_above x m ≡ true → is_part x m ≡ true → ⊥
above_not_part [] m h k = cc
above_not_part (x ∷ r) [] h k = cc
above_not_part (true ∷ r) (true ∷ m) h k = above_not_part r m h k
above_not_part (true ∷ r) (false ∷ m) h k = cc
above_not_part (false ∷ r) (true ∷ m) h k = cc
above_not_part (false ∷ r) (false ∷ m) h k = above_not_part r m h k

-- where a mask tells of each number whether the relation there lies within some relations, its lowest one is at their intersection
pub record IsLowest (rels : List Relation) (first : Relation) (more : List Relation) (mask : ℕ) : Type 0 where
  pub low : trailing_zeros w64 mask < length rels
  pub is : position (is_same_relation (meet_all first more)) rels ≡ Some (trailing_zeros w64 mask)

pub lowest : (n : ℕ) (file rels : List Relation) (first : Relation) (more : List Relation) (mask : ℕ) →
    All (λ q. length q ≡ n) file → IsClosing file rels → length rels ≤ 64 → mask < 2 ^ 64 → Contains file first → All (Contains file) more →
    ((k : ℕ) → k < length rels → is_one mask k ≡ is_within_all (first ∷ more) (slice_index_or rels k [])) → IsLowest rels first more mask
lowest n file rels first more mask sized closing few small given others tells =
    record { low = subst (λ (k : ℕ). k < length rels) (sym same) r_low; is = at ∙ ap Some (sym same) }
  where
    m : Relation
    m = meet_all first more

    there : Contains rels m
    there = closing.every m (record { first = first; more = more; first_given = given; more_given = others; is = refl })

    r : ℕ
    r = there.0

    r_low : r < length rels
    r_low = there.1

    r_is : slice_index_or rels r [] ≡ m
    r_is = get_or_default rels r [] m r_low ∙ there.2

    long : length first ≡ n
    long = All-contains (λ q. length q ≡ n) file first sized given

    all_long : All (λ q. length q ≡ n) more
    all_long = All-weaker (Contains file) (λ q. length q ≡ n) (λ q has. All-contains (λ s. length s ≡ n) file q sized has) more others

    within : is_within_all (first ∷ more) m ≡ true
    within = and_from (is_part m first) (is_within_all more m) (part_of_first n first more long all_long) (list_all-from_AllPass (is_part m) more (part_of_more n first more long all_long))

    before : (k : ℕ) → k < r → is_above (slice_index_or rels k []) m ≡ true
    before k low = ap (is_above (slice_index_or rels k [])) (sym r_is) ∙ closing.falling k r [] low r_low

    not_within : (k : ℕ) → k < r → is_within_all (first ∷ more) (slice_index_or rels k []) ≡ false
    not_within k low = false_from_ne_true _ (λ e.
        let parts = and_parts (is_part (slice_index_or rels k []) first) (is_within_all more (slice_index_or rels k [])) e in
        above_not_part (slice_index_or rels k []) m (before k low) (part_of_all (slice_index_or rels k []) first more parts.0 (AllPass-from_list_all (is_part (slice_index_or rels k [])) more parts.1)))

    not_same : (k : ℕ) → k < r → is_same_relation m (slice_index_or rels k []) ≡ false
    not_same k low = false_from_ne_true _ (λ e. both_ways _ (not_above_itself m) (ap (λ x. is_above x m) (same_is m (slice_index_or rels k []) e) ∙ before k low))

    at : position (is_same_relation m) rels ≡ Some r
    at = position_here (is_same_relation m) rels r [] r_low not_same (ap (is_same_relation m) r_is ∙ same_itself m)

    one_at : is_one mask r ≡ true
    one_at = tells r r_low ∙ ap (is_within_all (first ∷ more)) r_is ∙ within

    some : 0 < mask
    some = go (cases_order 0 mask)
      where
        go : (0 ≡ mask) ⊎ ((0 < mask) ⊎ (mask < 0)) → 0 < mask
        go (inl e) = absurd (both_ways (is_one mask r) (ap (λ (x : ℕ). is_one x r) (sym e) ∙ ap (λ x. x == 1) (bit_at-zero r)) one_at)
        go (inr (inl h)) = h
        go (inr (inr h)) = absurd (omega arith)

    same : trailing_zeros w64 mask ≡ r
    same = go (cases_order (trailing_zeros w64 mask) r)
      where
        go : (trailing_zeros w64 mask ≡ r) ⊎ ((trailing_zeros w64 mask < r) ⊎ (r < trailing_zeros w64 mask)) → trailing_zeros w64 mask ≡ r
        go (inl e) = e
        go (inr (inl below)) =
            absurd (both_ways (is_one mask (trailing_zeros w64 mask)) (tells (trailing_zeros w64 mask) (let first : trailing_zeros w64 mask < r = below in omega (arith, first, r_low)) ∙ not_within (trailing_zeros w64 mask) below)
            (ap (λ x. x == 1) (bit_at-trailing_zeros w64 mask some small).1))
        go (inr (inr above)) = absurd (both_ways (is_one mask r) (ap (λ x. x == 1) ((bit_at-trailing_zeros w64 mask some small).2 r above)) one_at)

-- ---- one name more

within-append : (rs : List Relation) (q r : Relation) → is_within_all (rs ++ q ∷ []) r ≡ (is_within_all rs r && is_part r q)
within-append [] q r = go (is_part r q)
  where
    go : (b : Bool) → (b && true) ≡ b
    go true = refl
    go false = refl
within-append (p ∷ rs) q r = ap (λ b. is_part r p && b) (within-append rs q r) ∙ go (is_part r p) (is_within_all rs r) (is_part r q)
  where
    go : (a b c : Bool) → (a && (b && c)) ≡ ((a && b) && c)
    go true b c = refl
    go false b c = refl

-- the names so far are those of some relations, and the mask tells what lies within each of these
pub record IsMasked (l : Language) (s : ℕ) (names rest : List (List ℕ)) (mask : ℕ) : Type 0 where
  pub relations : List Relation
  pub named : relations_named l s names ≡ option_map (λ more. relations ++ more) (relations_named l s rest)
  pub tells : (k : ℕ) → k < length (relations_on l s) → is_one mask k ≡ is_within_all relations (slice_index_or (relations_on l s) k [])

same_option : (o : Option (List Relation)) → o ≡ option_map (λ more. [] ++ more) o
same_option None = refl
same_option (Some rs) = refl

pub begun : (l : Language) (s : ℕ) (names : List (List ℕ)) → length (relations_on l s) ≤ 64 → IsMasked l s names names (2 ^ 64 - 1)
begun l s names few = record {
  relations = [];
  named = same_option (relations_named l s names);
  tells = λ k low. ap (λ x. x == 1) (bit_at_ones 64 k (omega arith));
}

names-drop : (l : Language) (s : ℕ) (names : List (Bor (List ℕ))) (i : ℕ) (d : Bor (List ℕ)) → i < length names →
    relations_named l s (texts_of (drop i names)) ≡ option_and_then (λ r. option_map (λ rs. r ∷ rs) (relations_named l s (texts_of (drop (i + 1) names)))) (relation_named l s (get_or names i d).now)
names-drop l s names i d low =
    let next : i + 1 ≡ suc i = omega arith in
    rw next (ap (λ rest. relations_named l s (texts_of rest)) (drop-cons names i d low))

put_behind : (rest : Option (List Relation)) (before : List Relation) (q : Relation) → option_map (λ more. before ++ more) (option_map (λ rs. q ∷ rs) rest) ≡ option_map (λ more. (before ++ q ∷ []) ++ more) rest
put_behind None before q = refl
put_behind (Some rs) before q = ap Some (sym (append_assoc before (q ∷ []) rs))

pub one_more : (l : Language) (s : ℕ) (whole : List (List ℕ)) (names : List (Bor (List ℕ))) (i : ℕ) (d : Bor (List ℕ)) (mask m : ℕ) → i < length names →
    TellsNamed l s (relation_named l s (get_or names i d).now) (Some m) → IsMasked l s whole (texts_of (drop i names)) mask → IsMasked l s whole (texts_of (drop (i + 1) names)) (bit_and mask m)
one_more l s whole names i d mask m low tells so_far = go (relation_named l s (get_or names i d).now) refl tells
  where
    rest : Option (List Relation)
    rest = relations_named l s (texts_of (drop (i + 1) names))

    go : (o : Option Relation) → relation_named l s (get_or names i d).now ≡ o → TellsNamed l s o (Some m) → IsMasked l s whole (texts_of (drop (i + 1) names)) (bit_and mask m)
    go None e t = absurd t
    go (Some q) e t = record {
      relations = so_far.relations ++ q ∷ [];
      named = so_far.named ∙ ap (λ o. option_map (λ more. so_far.relations ++ more) o) (names-drop l s names i d low)
          ∙ ap (λ o. option_map (λ more. so_far.relations ++ more) (option_and_then (λ r. option_map (λ rs. r ∷ rs) rest) o)) e ∙ put_behind rest so_far.relations q;
      tells = λ k h. is_one-and mask m k ∙ (λ j. so_far.tells k h j && t k h j) ∙ sym (within-append so_far.relations q (slice_index_or (relations_on l s) k []));
    }

-- ---- all names

found : (p : Given → Bool) (given : List Given) (r : Relation) → option_map (λ (g : Given). g.relation) (find p given) ≡ Some r → Contains (map (λ (g : Given). g.relation) given) r
found p [] r h = absurd (cc)
found p (g ∷ given) r h = go (p g) h (found p given r)
  where
    go : (b : Bool) → option_map (λ (g : Given). g.relation) (cond b (Some g) (find p given)) ≡ Some r → (option_map (λ (g : Given). g.relation) (find p given) ≡ Some r → Contains (map (λ (g : Given). g.relation) given) r) →
        Contains (g.relation ∷ map (λ (g : Given). g.relation) given) r
    go true e rest = (zero, omega arith, same_Some g.relation r e)
    go false e rest = let has = rest e in (suc has.0, (let low = has.1 in omega (arith, low)), has.2)

abbrev OfSome : {A : Type 0} → (A → Type 0) → Option A → Type 0
OfSome P None = Unit {0}
OfSome P (Some x) = P x

one_given : (P : Relation → Type 0) (o : Option Relation) (rest : Option (List Relation)) → ((r : Relation) → o ≡ Some r → P r) → OfSome (All P) rest → OfSome (All P) (option_and_then (λ r. option_map (λ rs. r ∷ rs) rest) o)
one_given P None rest h k = tt
one_given P (Some r) None h k = tt
one_given P (Some r) (Some rs) h k = All-cons P r rs (h r refl) k

each_given : (l : Language) (s : ℕ) (names : List (List ℕ)) → OfSome (All (Contains (relations_given (given_on l s)))) (relations_named l s names)
each_given l s [] = All-nil (Contains (relations_given (given_on l s)))
each_given l s (name ∷ names) =
    one_given (Contains (relations_given (given_on l s))) (relation_named l s name) (relations_named l s names) (λ r e. found (λ (g : Given). bytes_eq g.name name) (given_on l s) r e) (each_given l s names)

none_left : (o : Option Relation) (rest : Option (List Relation)) → option_and_then (λ r. option_map (λ rs. r ∷ rs) rest) o ≡ Some [] → ⊥
none_left None rest h = cc
none_left (Some r) None h = cc
none_left (Some r) (Some rs) h = no_cons r rs (same_Some (r ∷ rs) [] h)
  where
    no_cons : (r : Relation) (rs : List Relation) → r ∷ rs ≡ [] → ⊥
    no_cons r rs e = cc

some_named : (l : Language) (s : ℕ) (names : List (List ℕ)) → 1 ≤ length names → relations_named l s names ≡ Some [] → ⊥
some_named l s [] some h = absurd (omega arith)
some_named l s (name ∷ names) some h = none_left (relation_named l s name) (relations_named l s names) h

-- the lowest one of the mask is the relation that the names stand for
pub record IsJoined (l : Language) (s : ℕ) (names : List (List ℕ)) (mask : ℕ) : Type 0 where
  pub is : relation_by l s names ≡ Some (trailing_zeros w64 mask)
  pub low : trailing_zeros w64 mask < length (relations_on l s)

pub joined : (l : Language) → IsLanguage l → (s : ℕ) → s < length l.scopes → (names : List (List ℕ)) → 1 ≤ length names → (mask : ℕ) → mask < 2 ^ 64 →
    TellsWithinAll l s (relations_named l s names) (Some mask) → IsJoined l s names mask
joined l lawful s known names some mask small tells = go (relations_named l s names) refl tells (each_given l s names)
  where
    file : List Relation
    file = relations_given (given_on l s)

    go : (o : Option (List Relation)) → relations_named l s names ≡ o → TellsWithinAll l s o (Some mask) → OfSome (All (Contains file)) (relations_named l s names) → IsJoined l s names mask
    go None e t given = absurd t
    go (Some []) e t given = absurd (some_named l s names some e)
    go (Some (first ∷ more)) e t given =
        let all : All (Contains file) (first ∷ more) = subst (OfSome (All (Contains file))) e given in
        let at = lowest (l.value_count ^ length (scope_at l s)) file (relations_on l s) first more mask (given_on_sized l lawful s) (lawful.closed s known) (lawful.few_relations s known) small
        (All-head (Contains file) first more all) (All-tail (Contains file) first more all) t in
        record { is = ap (λ o. option_and_then (intersection_on l s) o) e ∙ at.is; low = at.low }
