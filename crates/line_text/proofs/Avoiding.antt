-- Texts that lack a byte: they are cut where it comes next.
use Rattle.line_text.proofs.Prelude.{◌≡◌, ℕ, ◌+◌, not, true, false, List, [], ◌∷◌, ◌++◌, length, take, drop, Some, None, Option, cond, ltb, refl, sym, ◌∙◌, ap, arith, append_assoc, append-nil, length-append, All, position, ◌==◌, option_map, flat_map, list_all, position_or_len, eq-eqb, lt-ltb, not-true, take_at, drop_at, get_or_at, get_or_append_left, All-nil, All-cons, All-append, All-head, All-tail, slice_split_none, slice_split_at, AllPass-from_list_all, position_or_len_is, cut_at, is_space, words_in}

-- the text doesn't have this byte
abbrev pub Lacks : ℕ → List ℕ → Type 0
Lacks byte text = All (λ b. (b == byte) ≡ false) text

-- by a test
pub lacks_by : (byte : ℕ) (text : List ℕ) → list_all (λ b. not (b == byte)) text ≡ true → Lacks byte text
lacks_by byte text h = λ k d low. not-true _ (AllPass-from_list_all (λ b. not (b == byte)) text h k d low)

pub lacks_both : (byte : ℕ) (front behind : List ℕ) → Lacks byte front → Lacks byte behind → Lacks byte (front ++ behind)
lacks_both byte front behind = All-append (λ b. (b == byte) ≡ false) front behind

pub lacks_first : (byte first : ℕ) (behind : List ℕ) → (first == byte) ≡ false → Lacks byte behind → Lacks byte (first ∷ behind)
lacks_first byte first behind = All-cons (λ b. (b == byte) ≡ false) first behind

-- what is behind the byte
pub behind_byte : (byte : ℕ) (front behind : List ℕ) → drop (length front + 1) (front ++ byte ∷ behind) ≡ behind
behind_byte byte front behind = ap (drop (length front + 1)) (sym (append_assoc front (byte ∷ []) behind)) ∙ drop_at (front ++ byte ∷ []) behind (length front + 1) (length-append front (byte ∷ []))

pub cut_found : (byte : ℕ) (front behind : List ℕ) → Lacks byte front → cut_at byte (front ++ byte ∷ behind) ≡ Some (front, behind)
cut_found byte front behind free =
    let whole : List ℕ = front ++ byte ∷ behind in
    let long = length-append front (byte ∷ behind) in
    let before : take (length front) whole ≡ front = take_at front (byte ∷ behind) (length front) refl in
    let first : position_or_len (λ b. b == byte) whole ≡ length front =
    position_or_len_is (λ b. b == byte) whole (length front) 0 (omega (arith, long))
    (λ k low. ap (λ b. b == byte) (get_or_append_left front (byte ∷ behind) 0 k low) ∙ free k 0 low)
    (λ _. ap (λ b. b == byte) (get_or_at front byte behind 0 (length front) refl) ∙ eq-eqb byte byte refl) in
    let found : position (λ b. b == byte) whole ≡ Some (length front) =
    (λ i. cond (ltb (first i) (length whole)) (Some (first i)) None) ∙ ap (λ b. cond b (Some (length front)) None) (lt-ltb (length front) (length whole) (omega (arith, long))) in
    ap (λ (o : Option ℕ). option_map {U = List ℕ × List ℕ} (λ i. (take i whole, drop (i + 1) whole)) o) found
    ∙ (λ i. Some (before i, behind_byte byte front behind i))

-- ---- Words

-- words, each behind a space
abbrev pub spaced : List (List ℕ) → List ℕ
spaced words = flat_map (λ word. 32 ∷ word) words

pub spaced_lacks : (byte : ℕ) (words : List (List ℕ)) → (32 == byte) ≡ false → All (Lacks byte) words → Lacks byte (spaced words)
spaced_lacks byte [] apart all = All-nil (λ b. (b == byte) ≡ false)
spaced_lacks byte (word ∷ words) apart all =
    lacks_first byte 32 (word ++ spaced words) apart
    (lacks_both byte word (spaced words) (All-head (Lacks byte) word words all) (spaced_lacks byte words apart (All-tail (Lacks byte) word words all)))

pub words_joined : (word : List ℕ) (words : List (List ℕ)) → Lacks 32 word → All (Lacks 32) words → words_in (word ++ spaced words) ≡ word ∷ words
words_joined word [] free all = ap words_in (append-nil word) ∙ slice_split_none is_space word free
words_joined word (next ∷ words) free all =
    slice_split_at is_space word 32 (next ++ spaced words) free refl
    ∙ ap (λ rest. word ∷ rest) (words_joined next words (All-head (Lacks 32) next words all) (All-tail (Lacks 32) next words all))
