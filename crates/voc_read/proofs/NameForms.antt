-- Names that nothing refuses are names, and no two of them are equal.
use Rattle.voc_read.proofs.Prelude.{◌≡◌, ◌≢◌, ℕ, zero, suc, ◌+◌, ◌<◌, ◌≤◌, ◌++◌, Bool, true, false, not, cond, nat_lt, List, [], ◌∷◌, length, take, get_or, Option, Some, None, Bor, refl, sym, ap, ap₂, ◌∙◌, arith, true≢false, append_assoc, append-nil, ◌&&◌, position, AllPairs, option_map, option_or, list_any, list_all, position_or_len, bytes_eq, length-take, get_or-take, list_any_at, bytes_eq-Decides, ltb-false, is_name, AreNames, VocFault, BadName, NameRepeated, first_bad, repeat_after, first_repeat, names_refusal, texts_of}

bad_place : (names : List (Bor (List ℕ))) → position_or_len (λ name. not (is_name name.now)) names ≡ position_or_len (λ name. not (is_name name)) (texts_of names)
bad_place [] = refl
bad_place (name ∷ names) = ap (λ rest. cond (not (not (is_name name.now))) (1 + rest) 0) (bad_place names)

count : (names : List (Bor (List ℕ))) → length names ≡ length (texts_of names)
count [] = refl
count (name ∷ names) = ap suc (count names)

-- where the first bad name stands
pub first_bad-texts_of : (names : List (Bor (List ℕ))) → position (λ name. not (is_name name.now)) names ≡ first_bad (texts_of names)
first_bad-texts_of names = rw (bad_place names, count names) refl

one_formed : (formed all : Bool) (rest n : ℕ) → suc n ≤ cond (not (not formed)) (1 + rest) 0 → (n ≤ rest → all ≡ true) → (formed && all) ≡ true
one_formed true all rest n h more = more (omega arith)
one_formed false all rest n h more = absurd (omega arith)

all_formed : (names : List (List ℕ)) → length names ≤ position_or_len (λ name. not (is_name name)) names → list_all is_name names ≡ true
all_formed [] h = refl
all_formed (name ∷ names) h = one_formed (is_name name) (list_all is_name names) _ (length names) h (all_formed names)

not_found : (at n : ℕ) (before : Bool) → before ≡ nat_lt at n → ◌≡◌ {A = Option ℕ} (cond before (Some at) None) None → n ≤ at
not_found at n true e h = absurd (cc)
not_found at n false e h = ltb-false at n (sym e)

formed : (names : List (List ℕ)) → first_bad names ≡ None → list_all is_name names ≡ true
formed names h = all_formed names (not_found (position_or_len (λ name. not (is_name name)) names) (length names) _ refl h)

-- name j stands neither before nor among those above it
new_after : (found : Bool) (at : ℕ × ℕ) (rest : Option (ℕ × ℕ)) → ◌≡◌ {A = Option (ℕ × ℕ)} (cond found (Some at) rest) None → (found ≡ false) × (rest ≡ None)
new_after true at rest h = absurd (cc)
new_after false at rest h = (refl, h)

is_new : (before names : List (List ℕ)) (j : ℕ) (d : List ℕ) → repeat_after before names ≡ None → j < length names → list_any (bytes_eq (get_or names j d)) (before ++ take j names) ≡ false
unfolding repeat_after
is_new before [] j d none within = absurd (omega arith)
is_new before (name ∷ names) zero d none within =
    rw (append-nil before) (new_after _ _ _ none).0
is_new before (name ∷ names) (suc j) d none within =
    rw (← append_assoc before (name ∷ []) (take j names)) (is_new (before ++ name ∷ []) names j d (new_after _ _ _ none).1 (omega arith))

pub apart : (names : List (List ℕ)) → first_repeat names ≡ None → AllPairs (λ a b. a ≢ b) names
apart names none = λ i j d above within same.
    let new : list_any (bytes_eq (get_or names j d)) (take j names) ≡ false = is_new [] names j d none within in
    let count : length (take j names) ≡ j = grind (arith, length-take) in
    let inside : i < length (take j names) = omega arith in
    let there : get_or (take j names) i d ≡ get_or names i d = get_or-take j names i d above in
    let tied : bytes_eq (get_or names j d) (get_or (take j names) i d) ≡ true = (bytes_eq-Decides (get_or names j d) (get_or (take j names) i d)).1 (sym same ∙ sym there) in
    true≢false (sym (list_any_at (bytes_eq (get_or names j d)) (take j names) i d inside tied) ∙ new)

refusal_for : Option ℕ → Option (ℕ × ℕ) → Option VocFault
refusal_for bad pair = option_or (option_map BadName bad) (option_map (λ p. NameRepeated p.0 p.1) pair)

pub names_refusal-parts : (names : List (List ℕ)) (bad : Option ℕ) (pair : Option (ℕ × ℕ)) → first_bad names ≡ bad → first_repeat names ≡ pair
    → names_refusal names ≡ option_or (option_map BadName bad) (option_map (λ p. NameRepeated p.0 p.1) pair)
unfolding refusal_for
names_refusal-parts names bad pair e f = ap₂ refusal_for e f

neither : (bad : Option ℕ) (pair : Option (ℕ × ℕ)) → option_or (option_map BadName bad) (option_map (λ p. NameRepeated p.0 p.1) pair) ≡ None → (bad ≡ None) × (pair ≡ None)
neither None None h = (refl, refl)
neither None (Some p) h = absurd (cc)
neither (Some i) pair h = absurd (cc)

pub AreNames-accepted : (names : List (List ℕ)) → names_refusal names ≡ None → AreNames names
AreNames-accepted names h =
    let both = neither (first_bad names) (first_repeat names) h in
    record { formed = formed names both.0; apart = apart names both.1 }
