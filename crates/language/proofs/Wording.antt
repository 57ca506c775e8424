-- Texts that grow by one piece after another.
use Rattle.language.proofs.Prelude.{◌≡◌, ℕ, zero, suc, ◌+◌, ◌<◌, ◌≤◌, ◌++◌, ◌==◌, ◌&&◌, Bool, true, false, cond, List, [], ◌∷◌, length, map, drop, Option, ℤ, negsuc, pos, ◌≤ℤ◌, ◌+ℤ◌, w64, refl, sym, ◌∙◌, ap, arith, rules, append_assoc, append-nil, length-append, slice_index_or, All, string_bytes, filter, drop-cons, ints, ne_eqb, nat_lt, range_with_len, Some, None, is_some, true≢false, inl, inr, ◌⊎◌, cases_lt, le-ltb, lt-ltb, Rises, IsSet, least_of, without, variables_of, All-head, All-map, All-filter, Assignment, value_of, Relation, Given, of_arity, RelPart, given_by, value_text, values_text, is_part, joined, names_containing}
use Rattle.assign.proofs.Masks.{rises_filter}
use Rattle.assign.specs.Sets.{set_where}
use Rattle.language.proofs.InOrder.{rest_is}
use mir.Val.{SFits}

-- one more piece is written
pub one_more : (whole before after piece rest next : List ℕ) → whole ≡ before ++ rest → after ≡ before ++ piece → rest ≡ piece ++ next → whole ≡ after ++ next
one_more whole before after piece rest next h k s = h ∙ ap (λ r. before ++ r) s ∙ sym (append_assoc before piece next) ∙ ap (λ r. r ++ next) (sym k)

-- nothing is left to write
pub all_written : (whole before rest : List ℕ) → whole ≡ before ++ rest → rest ≡ [] → before ≡ whole
all_written whole before rest h e = sym (h ∙ ap (λ r. before ++ r) e ∙ append-nil before)

no_values : (least : ℤ) (names : List (List ℕ)) → values_text least names [] ≡ []
no_values least [] = refl
no_values least (name ∷ names) = refl

no_names : (least : ℤ) (names : List (List ℕ)) (v : ℕ) (q : Assignment) → length names ≤ v → values_text least (drop v names) q ≡ []
no_names least [] zero q h = refl
no_names least [] (suc v) q h = refl
no_names least (name ∷ names) zero q h = absurd (omega arith)
no_names least (name ∷ names) (suc v) q h = no_names least names v q (omega arith)

next_value : (least : ℤ) (names : List (List ℕ)) (q : Assignment) (v : ℕ) → v < length names →
    values_text least (drop v names) (drop v q) ≡ value_text least (slice_index_or names v []) (value_of q v) ++ values_text least (drop (suc v) names) (drop (suc v) q)
next_value least [] q v low = absurd (omega arith)
next_value least (name ∷ names) [] zero low = sym (no_values least names)
next_value least (name ∷ names) [] (suc v) low = no_values least (drop v names) ∙ sym (no_values least (drop (suc v) names))
next_value least (name ∷ names) (value ∷ q) zero low = refl
next_value least (name ∷ names) (value ∷ q) (suc v) low = next_value least names q v (omega arith)

-- the names and values of the variables of a list, as far as there are names
abbrev pub pieces : ℤ → List (List ℕ) → Assignment → List ℕ → List ℕ
pieces least names q [] = []
pieces least names q (v ∷ vs) = cond (nat_lt v (length names)) (value_text least (slice_index_or names v []) (value_of q v)) [] ++ pieces least names q vs

-- past the names there are none
pieces_past : (least : ℤ) (names : List (List ℕ)) (q : Assignment) (a : ℕ) (vs : List ℕ) → length names ≤ a → Rises a vs → pieces least names q vs ≡ []
pieces_past least names q a [] h r = refl
pieces_past least names q a (v ∷ vs) h r =
    let low = r.0 in
    ap (λ b. cond b (value_text least (slice_index_or names v []) (value_of q v)) [] ++ pieces least names q vs) (le-ltb v (length names) (omega (arith, low)))
    ∙ pieces_past least names q (v + 1) vs (omega (arith, low)) r.2

-- those of the variables from one on that have a value are the text of all from there on
pieces_from : (least : ℤ) (names : List (List ℕ)) (q : Assignment) (a n : ℕ) → length names ≤ 128 → a + n ≡ 128 →
    values_text least (drop a names) (drop a q) ≡ pieces least names q (filter (λ v. is_some (value_of q v)) (range_with_len a n))
pieces_from least names q a zero few end = no_names least names a (drop a q) (omega arith)
pieces_from least names q a (suc n) few end =
    go (cases_lt a (length names)) (value_of q a) refl
    (ap (λ k. values_text least (drop k names) (drop k q)) (let e : suc a ≡ a + 1 = omega arith in e) ∙ pieces_from least names q (a + 1) n few (omega arith))
  where
    others : List ℕ
    others = filter (λ v. is_some (value_of q v)) (range_with_len (a + 1) n)

    here : (o : Option ℕ) → value_of q a ≡ o → a < length names → value_text least (slice_index_or names a []) o ++ pieces least names q others ≡ pieces least names q (cond (is_some o) (a ∷ others) others)
    here None is low = refl
    here (Some x) is low =
        ap (λ o. value_text least (slice_index_or names a []) o ++ pieces least names q others) (sym is)
        ∙ ap (λ b. cond b (value_text least (slice_index_or names a []) (value_of q a)) [] ++ pieces least names q others) (sym (lt-ltb a (length names) low))

    go : ((a < length names) ⊎ (length names ≤ a)) → (o : Option ℕ) → value_of q a ≡ o → values_text least (drop (suc a) names) (drop (suc a) q) ≡ pieces least names q others →
        values_text least (drop a names) (drop a q) ≡ pieces least names q (filter (λ v. is_some (value_of q v)) (range_with_len a (suc n)))
    go (inr past) o is rest = no_names least names a (drop a q) past ∙ sym (pieces_past least names q a _ past (rises_filter (λ v. is_some (value_of q v)) a (suc n) (omega arith)))
    go (inl low) o is rest =
        next_value least names q a low
        ∙ ap (λ t. value_text least (slice_index_or names a []) (value_of q a) ++ t) rest
        ∙ ap (λ p. value_text least (slice_index_or names a []) p ++ pieces least names q others) is
        ∙ here o is low
        ∙ ap (λ p. pieces least names q (cond (is_some p) (a ∷ others) others)) (sym is)

-- the values of all variables are those of the variables that have one
pub values_are_pieces : (least : ℤ) (names : List (List ℕ)) (q : Assignment) → length names ≤ 128 → values_text least names q ≡ pieces least names q (variables_of q)
unfolding set_where
values_are_pieces least names q few = pieces_from least names q 0 128 few refl

-- the name and the value of the least of the variables are written
pub piece_written : (least : ℤ) (names : List (List ℕ)) (q : Assignment) (v : ℕ) (left others whole before after name : List ℕ) (value : Option ℕ) → v < length names →
    IsSet left → least_of left ≡ Some v → others ≡ without left v → name ≡ slice_index_or names v [] → value ≡ value_of q v → after ≡ before ++ value_text least name value →
    whole ≡ before ++ pieces least names q left → whole ≡ after ++ pieces least names q others
piece_written least names q v [] others whole before after name value low set is less name_is value_is more so_far = absurd (true≢false (ap (λ o. is_some o) (sym is)))
piece_written least names q v (w ∷ left) others whole before after name value low set is less name_is value_is more so_far =
    let one : w ≡ v = cc in
    let rest : others ≡ left = less ∙ ap (without (w ∷ left)) (sym one) ∙ rest_is w left set in
    one_more whole before after _ _ _ so_far (more ∙ (λ i. before ++ value_text least (name_is i) (value_is i)))
    (ap (λ u. cond (nat_lt u (length names)) (value_text least (slice_index_or names u []) (value_of q u)) [] ++ pieces least names q left) one
    ∙ ap (λ b. cond b (value_text least (slice_index_or names v []) (value_of q v)) [] ++ pieces least names q left) (lt-ltb v (length names) low)
    ∙ ap (λ vs. value_text least (slice_index_or names v []) (value_of q v) ++ pieces least names q vs) (sym rest))

-- nothing is left to write where no variable is left, or the least one has no name
pub no_pieces : (least : ℤ) (names : List (List ℕ)) (q : Assignment) (left : List ℕ) → least_of left ≡ None → pieces least names q left ≡ []
no_pieces least names q [] is = refl
no_pieces least names q (v ∷ left) is = absurd (true≢false (ap (λ o. is_some o) is))

pub nameless_pieces : (least : ℤ) (names : List (List ℕ)) (q : Assignment) (v : ℕ) (left : List ℕ) → IsSet left → least_of left ≡ Some v → length names ≤ v → pieces least names q left ≡ []
nameless_pieces least names q v [] set is past = refl
nameless_pieces least names q v (w ∷ left) set is past =
    let one : w ≡ v = cc in
    pieces_past least names q w (w ∷ left) (omega arith) (omega arith, set.1, set.2)

-- a value within the limit fits 64 bits
pub small_fits : (z : ℤ) → negsuc 999999 ≤ℤ z → z ≤ℤ pos 1000000 → SFits w64 z
small_fits z a b = search (rules, ints)

-- so does a lowest value
pub least_fits : (z : ℤ) (d : ℕ) → 1 ≤ d → negsuc 999999 ≤ℤ z → (z +ℤ pos d) ≤ℤ pos 1000001 → SFits w64 z
least_fits z d some low high = small_fits z low (let most : z ≤ℤ pos 1000000 = omega (arith, ints, high, some) in most)

-- the names that are written after some text, each after a `&` but the first
abbrev pub joined_from : List ℕ → List (List ℕ) → List ℕ
joined_from text [] = text
joined_from text (name ∷ names) = joined_from (cond (length text == 0) name (text ++ 38 ∷ name)) names

ands : List (List ℕ) → List ℕ
ands [] = []
ands (name ∷ names) = 38 ∷ (name ++ ands names)

joined-cons : (name : List ℕ) (names : List (List ℕ)) → joined 38 (name ∷ names) ≡ name ++ ands names
unfolding ands
joined-cons name [] = sym (append-nil name)
joined-cons name (next ∷ names) = ap (λ text. name ++ 38 ∷ text) (joined-cons next names)

some_text : (text : List ℕ) → 1 ≤ length text → (length text == 0) ≡ false
some_text [] h = absurd (omega arith)
some_text (x ∷ text) h = ne_eqb (length (x ∷ text)) 0 (λ e. omega arith)

joined_after : (text : List ℕ) (names : List (List ℕ)) → 1 ≤ length text → joined_from text names ≡ text ++ ands names
unfolding ands
joined_after text [] h = sym (append-nil text)
joined_after text (name ∷ names) h =
    ap (λ b. joined_from (cond b name (text ++ 38 ∷ name)) names) (some_text text h)
    ∙ joined_after (text ++ 38 ∷ name) names (simp length-append (omega arith))
    ∙ append_assoc text (38 ∷ name) (ands names)

-- from no text
pub joined-from_none : (names : List (List ℕ)) → All (λ name. 1 ≤ length name) names → joined 38 names ≡ joined_from [] names
joined-from_none [] h = refl
joined-from_none (name ∷ names) h = joined-cons name names ∙ sym (joined_after name names (All-head (λ (n : List ℕ). 1 ≤ length n) name names h))

map_cond : (f : Given → List ℕ) (b : Bool) (g : Given) (given : List Given) → map f (cond b (g ∷ given) given) ≡ cond b (f g ∷ map f given) (map f given)
map_cond f true g given = refl
map_cond f false g given = refl

-- a relation of the vocabulary, made another
abbrev pub made : (Relation → Relation) → Given → Given
made w g = record { name = g.name; arity = g.arity; relation = w g.relation }

filter_cond : (w : Relation → Relation) (f : Given → List ℕ) (p : Given → Bool) (b : Bool) (g : Given) (given : List Given) →
    map f (filter p (map (made w) (cond b (g ∷ given) given))) ≡ cond (b && p (made w g)) (f (made w g) ∷ map f (filter p (map (made w) given))) (map f (filter p (map (made w) given)))
filter_cond w f p true g given = map_cond f (p (made w g)) (made w g) (filter p (map (made w) given))
filter_cond w f p false g given = refl

-- the names of those parts that contain a relation of an arity, each made another
abbrev pub names_of : (Relation → Relation) → ℕ → Relation → List RelPart → List (List ℕ)
names_of w arity r parts = names_containing r (map (made w) (of_arity arity (map given_by parts)))

names_of-cons : (w : Relation → Relation) (arity : ℕ) (r : Relation) (part : RelPart) (parts : List RelPart) →
    names_of w arity r (part ∷ parts) ≡ cond ((part.table.arity == arity) && is_part r (w part.table.truth)) (string_bytes part.name ∷ names_of w arity r parts) (names_of w arity r parts)
names_of-cons w arity r part parts =
    filter_cond w (λ (g : Given). g.name) (λ (g : Given). is_part r g.relation) (part.table.arity == arity) (given_by part) (filter (λ (g : Given). g.arity == arity) (map given_by parts))

pub some_names : (w : Relation → Relation) (arity : ℕ) (r : Relation) (parts : List RelPart) → All (λ (part : RelPart). 1 ≤ length (string_bytes part.name)) parts → All (λ (name : List ℕ). 1 ≤ length name) (names_of w arity r parts)
some_names w arity r parts h =
    let nonempty : Given → Type 0 = λ g. 1 ≤ length g.name in
    All-map (λ (name : List ℕ). 1 ≤ length name) (λ (g : Given). g.name) _
    (All-filter (λ (g : Given). is_part r g.relation) nonempty _ (All-map nonempty (made w) _ (All-filter (λ (g : Given). g.arity == arity) nonempty _ (All-map nonempty given_by parts h))))

names_of-drop : (w : Relation → Relation) (arity : ℕ) (r : Relation) (parts : List RelPart) (i : ℕ) (part : RelPart) (b : Bool) → i < length parts → part ≡ slice_index_or parts i part →
    ((part.table.arity == arity) && is_part r (w part.table.truth)) ≡ b →
    names_of w arity r (drop i parts) ≡ cond b (string_bytes part.name ∷ names_of w arity r (drop (i + 1) parts)) (names_of w arity r (drop (i + 1) parts))
names_of-drop w arity r parts i part b low is test =
    let next : suc i ≡ i + 1 = omega arith in
    ap (names_of w arity r) (drop-cons parts i part low ∙ (λ j. sym is j ∷ drop (next j) parts))
    ∙ names_of-cons w arity r part (drop (i + 1) parts)
    ∙ ap (λ t. cond t (string_bytes part.name ∷ names_of w arity r (drop (i + 1) parts)) (names_of w arity r (drop (i + 1) parts))) test

pub name_written : (w : Relation → Relation) (arity : ℕ) (r : Relation) (parts : List RelPart) (i : ℕ) (part : RelPart) (whole before after name : List ℕ) (b : Bool) → i < length parts → part ≡ slice_index_or parts i part →
    b ≡ ((part.table.arity == arity) && is_part r (w part.table.truth)) → b ≡ true → name ≡ string_bytes part.name → after ≡ cond (length before == 0) name (before ++ 38 ∷ name) →
    whole ≡ joined_from before (names_of w arity r (drop i parts)) → whole ≡ joined_from after (names_of w arity r (drop (i + 1) parts))
name_written w arity r parts i part whole before after name b low is test on name_is more so_far =
    so_far ∙ ap (joined_from before) (names_of-drop w arity r parts i part true low is (sym test ∙ on))
    ∙ ap (λ n. joined_from (cond (length before == 0) n (before ++ 38 ∷ n)) (names_of w arity r (drop (i + 1) parts))) (sym name_is)
    ∙ ap (λ t. joined_from t (names_of w arity r (drop (i + 1) parts))) (sym more)

pub name_left_out : (w : Relation → Relation) (arity : ℕ) (r : Relation) (parts : List RelPart) (i : ℕ) (part : RelPart) (whole before after : List ℕ) (b : Bool) → i < length parts → part ≡ slice_index_or parts i part →
    b ≡ ((part.table.arity == arity) && is_part r (w part.table.truth)) → b ≡ false → after ≡ before →
    whole ≡ joined_from before (names_of w arity r (drop i parts)) → whole ≡ joined_from after (names_of w arity r (drop (i + 1) parts))
name_left_out w arity r parts i part whole before after b low is test off same so_far =
    so_far ∙ (λ j. joined_from (sym same j) (names_of-drop w arity r parts i part false low is (sym test ∙ off) j))
