-- The names that a table of numbers holds, one more at a time.
use Rattle.voc_read.proofs.Prelude.{◌≡◌, ℕ, zero, suc, ◌+◌, ◌<◌, ◌≤◌, ◌++◌, ◌||◌, true, false, not, cond, Bool, Option, List, [], ◌∷◌, length, take, drop, get_or, Some, None, Bor, refl, sym, ap, ap₂, ◌∙◌, arith, drop-cons, take_more, length-take, length-map, get_or-map, position, list_any, position_or_len, bytes_eq, repeat_after, texts_of}
use Rattle.std.proofs.lemmas.List.{drop_all}

any_text : (text : List ℕ) (keys : List (Bor (List ℕ))) → list_any (λ key. bytes_eq text key.now) keys ≡ list_any (bytes_eq text) (texts_of keys)
any_text text [] = refl
any_text text (key ∷ keys) = ap (λ rest. bytes_eq text key.now || rest) (any_text text keys)

place_of_text : (text : List ℕ) (keys : List (Bor (List ℕ))) → position_or_len (λ key. bytes_eq text key.now) keys ≡ position_or_len (bytes_eq text) (texts_of keys)
place_of_text text [] = refl
place_of_text text (key ∷ keys) = ap (λ rest. cond (not (bytes_eq text key.now)) (1 + rest) 0) (place_of_text text keys)

texts_of-append : (keys : List (Bor (List ℕ))) (key : Bor (List ℕ)) → texts_of (keys ++ key ∷ []) ≡ texts_of keys ++ key.now ∷ []
texts_of-append [] key = refl
texts_of-append (first ∷ keys) key = ap (λ rest. first.now ∷ rest) (texts_of-append keys key)

-- the names from j on begin with that one
from_here : (names : List (Bor (List ℕ))) (j : ℕ) (d : Bor (List ℕ)) → j < length names → drop j (texts_of names) ≡ (get_or names j d).now ∷ drop (j + 1) (texts_of names)
from_here names j d within =
    let next : j + 1 ≡ suc j = omega arith in
    let inside : j < length (texts_of names) = rw (length-map names (λ (name : Bor (List ℕ)). name.now)) within in
    rw (next, drop-cons (texts_of names) j d.now inside, get_or-map (λ (name : Bor (List ℕ)). name.now) names j d d.now within) refl

-- name j stands among the keys, at place i
pub repeats : (keys names : List (Bor (List ℕ))) (i j : ℕ) (d : Bor (List ℕ)) → j < length names → texts_of keys ≡ take j (texts_of names)
    → list_any (λ key. bytes_eq (get_or names j d).now key.now) keys ≡ true → i ≡ position_or_len (λ key. bytes_eq (get_or names j d).now key.now) keys
    → repeat_after (texts_of keys) (drop j (texts_of names)) ≡ Some (i, j)
unfolding repeat_after
repeats keys names i j d within seen found at =
    let found_in : list_any (bytes_eq (get_or names j d).now) (texts_of keys) ≡ true = sym (any_text (get_or names j d).now keys) ∙ found in
    let at_in : i ≡ position_or_len (bytes_eq (get_or names j d).now) (texts_of keys) = at ∙ place_of_text (get_or names j d).now keys in
    let inside : j < length (texts_of names) = rw (length-map names (λ (name : Bor (List ℕ)). name.now)) within in
    let count : length (texts_of keys) ≡ j = ap length seen ∙ grind (arith, length-take) in
    rw (from_here names j d within, found_in) (ap₂ (λ a b. Some (a, b)) (sym at_in) count)

-- name j doesn't stand among the keys
pub goes_on : (keys names : List (Bor (List ℕ))) (j : ℕ) (d : Bor (List ℕ)) → j < length names → texts_of keys ≡ take j (texts_of names)
    → list_any (λ key. bytes_eq (get_or names j d).now key.now) keys ≡ false
    → (texts_of (keys ++ get_or names j d ∷ []) ≡ take (j + 1) (texts_of names))
    × (repeat_after (texts_of keys) (drop j (texts_of names)) ≡ repeat_after (texts_of (keys ++ get_or names j d ∷ [])) (drop (j + 1) (texts_of names)))
unfolding repeat_after
goes_on keys names j d within seen new =
    let new_in : list_any (bytes_eq (get_or names j d).now) (texts_of keys) ≡ false = sym (any_text (get_or names j d).now keys) ∙ new in
    let inside : j < length (texts_of names) = rw (length-map names (λ (name : Bor (List ℕ)). name.now)) within in
    let here : get_or (texts_of names) j d.now ≡ (get_or names j d).now = get_or-map (λ (name : Bor (List ℕ)). name.now) names j d d.now within in
    let more : take (j + 1) (texts_of names) ≡ take j (texts_of names) ++ (get_or names j d).now ∷ [] = take_more (texts_of names) j d.now inside ∙ ap (λ text. take j (texts_of names) ++ text ∷ []) here in
    (texts_of-append keys (get_or names j d) ∙ ap (λ texts. texts ++ (get_or names j d).now ∷ []) seen ∙ sym more, rw (from_here names j d within, new_in, texts_of-append keys (get_or names j d)) refl)

-- no name is left
pub all_are_new : (keys names : List (Bor (List ℕ))) (j : ℕ) → length names ≤ j → repeat_after (texts_of keys) (drop j (texts_of names)) ≡ None
unfolding repeat_after
all_are_new keys names j past =
    let none : drop j (texts_of names) ≡ [] = drop_all j (texts_of names) (rw (length-map names (λ (name : Bor (List ℕ)). name.now)) past) in
    rw none refl

count : (keys : List (Bor (List ℕ))) → length keys ≡ length (texts_of keys)
count [] = refl
count (key ∷ keys) = ap suc (count keys)

-- where a text stands among the keys
pub position-texts_of : (text : List ℕ) (keys : List (Bor (List ℕ))) → position (λ key. bytes_eq text key.now) keys ≡ position (bytes_eq text) (texts_of keys)
position-texts_of text keys = rw (place_of_text text keys, count keys) refl

none_left : (keys names : List (Bor (List ℕ))) (j : ℕ) (d : Bor (List ℕ)) (found : Bool) → j < length names → texts_of keys ≡ take j (texts_of names)
    → repeat_after (texts_of keys) (drop j (texts_of names)) ≡ None → list_any (λ key. bytes_eq (get_or names j d).now key.now) keys ≡ found → found ≡ false
none_left keys names j d false within seen none is = refl
none_left keys names j d true within seen none is =
    let some : ◌≡◌ {A = Option (ℕ × ℕ)} None (Some (position_or_len (λ key. bytes_eq (get_or names j d).now key.now) keys, j)) = sym none ∙ repeats keys names _ j d within seen is refl in absurd (cc)

-- where no name from j on repeats one, name j doesn't stand among the keys
pub is_no_repeat : (keys names : List (Bor (List ℕ))) (j : ℕ) (d : Bor (List ℕ)) → j < length names → texts_of keys ≡ take j (texts_of names)
    → repeat_after (texts_of keys) (drop j (texts_of names)) ≡ None → list_any (λ key. bytes_eq (get_or names j d).now key.now) keys ≡ false
is_no_repeat keys names j d within seen none = none_left keys names j d _ within seen none refl
