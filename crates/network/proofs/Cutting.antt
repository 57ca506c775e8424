-- Texts that are cut at a byte which their pieces don't have.
use Rattle.network.proofs.Prelude.{◌≡◌, ℕ, Bool, true, false, not, List, [], ◌∷◌, ◌++◌, refl, sym, ◌∙◌, ap, ◌==◌, list_all, flat_map, and_parts, both_ways, eq-eqb, All, append_assoc, All-head, All-tail, joined}

-- no byte is this one
abbrev pub is_without : ℕ → List ℕ → Bool
is_without b bytes = list_all (λ x. not (x == b)) bytes

not_here : (b x : ℕ) (xs : List ℕ) → is_without b (x ∷ xs) ≡ true → x ≡ b → ⊥
not_here b x xs h same = both_ways (not (x == b)) (ap not (eq-eqb x b same)) (and_parts (not (x == b)) (is_without b xs) h).0

more_of : (b x : ℕ) (xs : List ℕ) → is_without b (x ∷ xs) ≡ true → is_without b xs ≡ true
more_of b x xs h = (and_parts (not (x == b)) (is_without b xs) h).1

-- both begin with the pieces before the byte
pub same_front : (b : ℕ) (xs ys more rest : List ℕ) → is_without b xs ≡ true → is_without b ys ≡ true → xs ++ b ∷ more ≡ ys ++ b ∷ rest → (xs ≡ ys) × (more ≡ rest)
same_front b [] [] more rest h k e = let tails : more ≡ rest = cc in (refl, tails)
same_front b [] (y ∷ ys) more rest h k e = let head : y ≡ b = cc in absurd (not_here b y ys k head)
same_front b (x ∷ xs) [] more rest h k e = let head : x ≡ b = cc in absurd (not_here b x xs h head)
same_front b (x ∷ xs) (y ∷ ys) more rest h k e =
    let head : x ≡ y = cc in
    let tails : xs ++ b ∷ more ≡ ys ++ b ∷ rest = cc in
    let both = same_front b xs ys more rest (more_of b x xs h) (more_of b y ys k) tails in
    ((λ i. head i ∷ both.0 i), both.1)

no_line_at : (b : ℕ) (xs rest : List ℕ) → [] ≡ xs ++ b ∷ rest → ⊥
no_line_at b [] rest e = cc
no_line_at b (x ∷ xs) rest e = cc

-- some byte, and none is this one
abbrev pub is_piece : ℕ → List ℕ → Bool
is_piece b [] = false
is_piece b (x ∷ xs) = is_without b (x ∷ xs)

no_piece : (b : ℕ) (xs : List ℕ) → is_piece b xs ≡ true → [] ≡ xs → ⊥
no_piece b [] h e = cc
no_piece b (x ∷ xs) h e = cc

-- ---- lines

no_line : (b : ℕ) (xs rest : List ℕ) → [] ≡ (xs ++ b ∷ []) ++ rest → ⊥
no_line b [] rest e = cc
no_line b (x ∷ xs) rest e = cc

-- the same lines, where no line has the byte that ends it
pub same_lines : {X : Type 0} (b : ℕ) (text : X → List ℕ) (P : X → Type 0) (xs ys : List X) →
    ((x : X) → P x → is_without b (text x) ≡ true) → ((x y : X) → P x → P y → text x ≡ text y → x ≡ y) → All P xs → All P ys →
    flat_map (λ x. text x ++ b ∷ []) xs ≡ flat_map (λ x. text x ++ b ∷ []) ys → xs ≡ ys
same_lines b text P [] [] plain one all every e = refl
same_lines b text P [] (y ∷ ys) plain one all every e = absurd (no_line b (text y) (flat_map (λ x. text x ++ b ∷ []) ys) e)
same_lines b text P (x ∷ xs) [] plain one all every e = absurd (no_line b (text x) (flat_map (λ x. text x ++ b ∷ []) xs) (sym e))
same_lines b text P (x ∷ xs) (y ∷ ys) plain one all every e =
    let first = All-head P x xs all in
    let other = All-head P y ys every in
    let both = same_front b (text x) (text y) (flat_map (λ x. text x ++ b ∷ []) xs) (flat_map (λ x. text x ++ b ∷ []) ys) (plain x first) (plain y other)
    (sym (append_assoc (text x) (b ∷ []) (flat_map (λ x. text x ++ b ∷ []) xs)) ∙ e ∙ append_assoc (text y) (b ∷ []) (flat_map (λ x. text x ++ b ∷ []) ys)) in
    let rest = same_lines b text P xs ys plain one (All-tail P x xs all) (All-tail P y ys every) both.1 in
    λ i. one x y first other both.0 i ∷ rest i

-- ---- words, each after the byte

-- the first word ends where the next begins
word_end : (b : ℕ) (word other : List ℕ) (words others : List (List ℕ)) → is_without b word ≡ true → is_without b other ≡ true →
    word ++ flat_map (λ w. b ∷ w) words ≡ other ++ flat_map (λ w. b ∷ w) others → (word ≡ other) × (flat_map (λ w. b ∷ w) words ≡ flat_map (λ w. b ∷ w) others)
word_end b [] [] words others h k e = (refl, e)
word_end b [] (y ∷ other) [] others h k e = cc
word_end b [] (y ∷ other) (w ∷ words) others h k e = let head : y ≡ b = cc in absurd (not_here b y other k head)
word_end b (x ∷ word) [] words [] h k e = cc
word_end b (x ∷ word) [] words (w ∷ others) h k e = let head : x ≡ b = cc in absurd (not_here b x word h head)
word_end b (x ∷ word) (y ∷ other) words others h k e =
    let head : x ≡ y = cc in
    let tails : word ++ flat_map (λ w. b ∷ w) words ≡ other ++ flat_map (λ w. b ∷ w) others = cc in
    let both = word_end b word other words others (more_of b x word h) (more_of b y other k) tails in
    ((λ i. head i ∷ both.0 i), both.1)

pub same_words : (b : ℕ) (words others : List (List ℕ)) → list_all (is_without b) words ≡ true → list_all (is_without b) others ≡ true →
    flat_map (λ w. b ∷ w) words ≡ flat_map (λ w. b ∷ w) others → words ≡ others
same_words b [] [] h k e = refl
same_words b [] (o ∷ others) h k e = cc
same_words b (w ∷ words) [] h k e = cc
same_words b (w ∷ words) (o ∷ others) h k e =
    let here = and_parts (is_without b w) (list_all (is_without b) words) h in
    let there = and_parts (is_without b o) (list_all (is_without b) others) k in
    let tails : w ++ flat_map (λ w. b ∷ w) words ≡ o ++ flat_map (λ w. b ∷ w) others = cc in
    let both = word_end b w o words others here.0 there.0 tails in
    let rest = same_words b words others here.1 there.1 both.1 in
    λ i. both.0 i ∷ rest i

-- ---- pieces with the byte between them

piece_without : (b : ℕ) (piece : List ℕ) → is_piece b piece ≡ true → is_without b piece ≡ true
piece_without b [] h = refl
piece_without b (x ∷ xs) h = h

byte_in : (b : ℕ) (xs rest : List ℕ) → is_without b (xs ++ b ∷ rest) ≡ true → ⊥
byte_in b [] rest h = not_here b b rest h refl
byte_in b (x ∷ xs) rest h = byte_in b xs rest (more_of b x (xs ++ b ∷ rest) h)

pub same_pieces : (b : ℕ) (pieces others : List (List ℕ)) → list_all (is_piece b) pieces ≡ true → list_all (is_piece b) others ≡ true → joined b pieces ≡ joined b others → pieces ≡ others
same_pieces b [] [] h k e = refl
same_pieces b [] (o ∷ []) h k e = absurd (no_piece b o (and_parts (is_piece b o) true k).0 e)
same_pieces b [] (o ∷ p ∷ others) h k e = absurd (no_line_at b o (joined b (p ∷ others)) e)
same_pieces b (o ∷ []) [] h k e = absurd (no_piece b o (and_parts (is_piece b o) true h).0 (sym e))
same_pieces b (o ∷ p ∷ others) [] h k e = absurd (no_line_at b o (joined b (p ∷ others)) (sym e))
same_pieces b (p ∷ []) (o ∷ []) h k e = ap (λ x. x ∷ []) e
same_pieces b (p ∷ []) (o ∷ q ∷ others) h k e = absurd (byte_in b o (joined b (q ∷ others)) (ap (is_without b) (sym e) ∙ piece_without b p (and_parts (is_piece b p) true h).0))
same_pieces b (p ∷ r ∷ pieces) (o ∷ []) h k e = absurd (byte_in b p (joined b (r ∷ pieces)) (ap (is_without b) e ∙ piece_without b o (and_parts (is_piece b o) true k).0))
same_pieces b (p ∷ r ∷ pieces) (o ∷ q ∷ others) h k e =
    let here = and_parts (is_piece b p) (list_all (is_piece b) (r ∷ pieces)) h in
    let there = and_parts (is_piece b o) (list_all (is_piece b) (q ∷ others)) k in
    let both = same_front b p o (joined b (r ∷ pieces)) (joined b (q ∷ others)) (piece_without b p here.0) (piece_without b o there.0) e in
    let rest = same_pieces b (r ∷ pieces) (q ∷ others) here.1 there.1 both.1 in
    λ i. both.0 i ∷ rest i
