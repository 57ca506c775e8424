-- The candidates that are listed, and the first of them whose tree is too long.
use Rattle.cert_check.proofs.Prelude.{◌≡◌, ℕ, zero, suc, ◌+◌, ◌<◌, ◌≤◌, Bool, true, false, cond, not, ◌&&◌, List, [], ◌∷◌, ◌++◌, length, take, get_or, map, Some, None, refl, sym, ◌∙◌, ap, arith, inl, inr, ◌⊎◌, All, IsTrue, find, codes, filter, flat_map, append-nil, length-map, take_all, All-head, All-tail, filter_more, flat_map-map, and_parts, both_ways, not-true, Answer, Candidate, Language, IsCandidate, IsImplied, number_of, IsCovered, is_struck, has_scope, Sheet, is_long, fitting_text, made_within, refutation_of, AddsPiece, count_line, listed_line, implied_section}
use Rattle.std.specs.Prelude.{option_map}
use Rattle.cert_check.proofs.Sheets.{adds_as}

-- whether a candidate is kept
abbrev pub is_kept : Language → List Answer → List Candidate → Candidate → Bool
is_kept l t network c = not (is_struck l t c) && not (has_scope network c.scope)

pub implied_if_kept : (l : Language) (t : List Answer) (network : List Candidate) (c : Candidate) → IsCovered l network t → IsCandidate l c → is_kept l t network c ≡ true → IsImplied l network c
implied_if_kept l t network c covered is h =
    let parts = and_parts (not (is_struck l t c)) (not (has_scope network c.scope)) h in
    go (covered.rest c is (not-true _ parts.1)) (not-true _ parts.0)
  where
    go : IsTrue (is_struck l t c) ⊎ IsImplied l network c → is_struck l t c ≡ false → IsImplied l network c
    go (inl struck) free = absurd (both_ways _ free struck)
    go (inr implied) free = implied

-- ---- one candidate more is looked at

pub kept_more : (p : Candidate → Bool) (xs list longer : List Candidate) (i : ℕ) (c : Candidate) (b : Bool) → i < length xs → c ≡ get_or xs i c → p c ≡ b → longer ≡ cond b (list ++ c ∷ []) list → list ≡ filter p (take i xs) → longer ≡ filter p (take (i + 1) xs)
kept_more p xs list longer i c b low is passes put before =
    put ∙ go b passes ∙ sym (filter_more p xs i c low)
  where
    go : (b : Bool) → p c ≡ b → cond b (list ++ c ∷ []) list ≡ filter p (take i xs) ++ cond (p (get_or xs i c)) (get_or xs i c ∷ []) []
    go true passes = (λ j. before j ++ is j ∷ []) ∙ ap (λ t. filter p (take i xs) ++ cond t (get_or xs i c ∷ []) []) (sym (ap p (sym is) ∙ passes))
    go false passes = before ∙ sym (append-nil (filter p (take i xs))) ∙ ap (λ t. filter p (take i xs) ++ cond t (get_or xs i c ∷ []) []) (sym (ap p (sym is) ∙ passes))

pub kept_all : (p : Candidate → Bool) (xs list : List Candidate) (i : ℕ) → length xs ≤ i → list ≡ filter p (take i xs) → list ≡ filter p xs
kept_all p xs list i all h = h ∙ ap (filter p) (take_all i xs all)

-- ---- the first that passes

find_first : {X : Type 0} (p : X → Bool) (x : X) (xs : List X) (b : Bool) → p x ≡ b → find p (x ∷ xs) ≡ cond b (Some x) (find p xs)
find_first p x xs b e = ap (λ t. cond t (Some x) (find p xs)) e

pub find_none : {X : Type 0} (p : X → Bool) (xs : List X) → All (λ x. p x ≡ false) xs → find p xs ≡ None
find_none p [] h = refl
find_none p (x ∷ xs) h = find_first p x xs false (All-head (λ y. p y ≡ false) x xs h) ∙ find_none p xs (All-tail (λ y. p y ≡ false) x xs h)

pub find_at : {X : Type 0} (p : X → Bool) (xs : List X) (i : ℕ) (x : X) → i < length xs → x ≡ get_or xs i x → p x ≡ true → All (λ x. p x ≡ false) (take i xs) → find p xs ≡ Some x
find_at p [] i x low is passes before = absurd (omega arith)
find_at p (y ∷ xs) zero x low is passes before = find_first p y xs true (ap p (sym is) ∙ passes) ∙ ap Some (sym is)
find_at p (y ∷ xs) (suc i) x low is passes before = find_first p y xs false (All-head (λ z. p z ≡ false) y (take i xs) before) ∙ find_at p xs i x (omega arith) is passes (All-tail (λ z. p z ≡ false) y (take i xs) before)

-- ---- the section

pub section_added : (l : Language) (network listed : List Candidate) (a b : Sheet) →
    AddsPiece a (count_line (codes "implied") (length listed) ++ flat_map (λ c. listed_line (refutation_of l network c)) listed) b → AddsPiece a (implied_section (map (refutation_of l network) listed)) b
section_added l network listed a b h = adds_as a b _ (implied_section (map (refutation_of l network) listed))
    (λ i. count_line (codes "implied") (sym (length-map listed (refutation_of l network)) i) ++ sym (flat_map-map listed_line (refutation_of l network) listed) i) h

-- ---- what is made

pub text_is_made : (l : Language) (network listed : List Candidate) (budget : ℕ) (text : List ℕ) → find (is_long l network budget) listed ≡ None → made_within (option_map (number_of l) (find (is_long l network budget) listed)) text ≡ fitting_text text
text_is_made l network listed budget text none = ap (λ o. made_within (option_map (number_of l) o) text) none
