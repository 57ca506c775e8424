-- So many lines, words or pairs, one after the other, as a loop reads them.
use Rattle.cert_check.proofs.Prelude.{◌≡◌, ℕ, suc, ◌+◌, ◌-◌, ◌<◌, ◌≤◌, true, List, [], ◌∷◌, ◌++◌, length, get_or, set, Option, Some, None, Result, Ok, Err, refl, sym, ap, ◌∙◌, append_assoc, arith, ◌⊎◌, inl, inr, ok_or, option_map, option_and_then, cases_eq, same_Some, append-nil, get_or-set_same, get_or-set_other, length-set, Assignment, value_of, ValueRange, is_in, Language, IsQuestion, variable_count, range_of, is_ranged, CertFault, BadLine, Token, ◌>>=◌, Unread, line_in, next_line, lines_in, pair_in, with_pairs, token_in, tokens_in}

-- ---- A value that is read, or the fault where there is none

pub or_missing : {A F : Type 0} (o : Option A) (fault said : F) → o ≡ None → said ≡ fault → ◌≡◌ {A = Result A F} (ok_or o fault) (Err said)
or_missing {A} {F} o fault said h same =
    let E : F → Result A F = λ f. Err f in
    ap (λ p. ok_or p fault) h ∙ ap E (sym same)

-- ---- Lines

pub next_read : {A : Type 0} (form : List ℕ → Option A) (unread : Unread) (line : List ℕ) (behind : Unread) (x : A) → line_in unread ≡ Ok (line, behind) → form line ≡ Some x → next_line form unread ≡ Ok (x, behind)
unfolding next_line
next_read form unread line behind x h is =
    ap (λ found. found >>= λ y. ok_or (form y.0) (BadLine unread.line) >>= λ said. Ok (said, y.1)) h
    ∙ ap (λ o. ok_or o (BadLine unread.line) >>= λ said. Ok (said, behind)) is

pub next_missing : {A : Type 0} (form : List ℕ → Option A) (unread : Unread) (fault : CertFault) → line_in unread ≡ Err fault → next_line form unread ≡ Err fault
unfolding next_line
next_missing form unread fault h = ap (λ found. found >>= λ y. ok_or (form y.0) (BadLine unread.line) >>= λ said. Ok (said, y.1)) h

pub next_wrong : {A : Type 0} (form : List ℕ → Option A) (unread : Unread) (line : List ℕ) (behind : Unread) (said : CertFault) → line_in unread ≡ Ok (line, behind) → form line ≡ None → said ≡ BadLine unread.line → next_line form unread ≡ Err said
unfolding next_line
next_wrong {A} form unread line behind said h is same =
    let E : CertFault → Result (A × Unread) CertFault = λ f. Err f in
    ap (λ found. found >>= λ y. ok_or (form y.0) (BadLine unread.line) >>= λ z. Ok (z, y.1)) h
    ∙ ap (λ o. ok_or o (BadLine unread.line) >>= λ z. Ok (z, behind)) is
    ∙ ap E (sym same)

-- what was read before, and what is still read
abbrev pub with_front : {A : Type 0} → List A → Result (List A × Unread) CertFault → Result (List A × Unread) CertFault
with_front front read = read >>= λ x. Ok (front ++ x.0, x.1)

regroup : {A : Type 0} (front : List A) (x : A) (read : Result (List A × Unread) CertFault) → with_front front (read >>= λ y. Ok (x ∷ y.0, y.1)) ≡ with_front (front ++ x ∷ []) read
regroup front x (Ok y) = ap (λ xs. Ok (xs, y.1)) (sym (append_assoc front (x ∷ []) y.0))
regroup front x (Err fault) = refl

pub lines_go_on : {A : Type 0} (form : ℕ → List ℕ → Option A) (next : A → ℕ) (front : List A) (least count i : ℕ) (unread : Unread) (x : A) (behind : Unread) (total : Result (List A × Unread) CertFault) → i < count → next_line (form least) unread ≡ Ok (x, behind)
    → with_front front (lines_in form next least (count - i) unread) ≡ total → with_front (front ++ x ∷ []) (lines_in form next (next x) (count - (i + 1)) behind) ≡ total
unfolding lines_in
lines_go_on form next front least count i unread x behind total low h so_far =
    let k : count - i ≡ suc (count - (i + 1)) = omega arith in
    let one : with_front front (lines_in form next least (count - i) unread) ≡ with_front (front ++ x ∷ []) (lines_in form next (next x) (count - (i + 1)) behind) =
    ap (λ m. with_front front (lines_in form next least m unread)) k
    ∙ ap (λ first. with_front front (first >>= λ y. lines_in form next (next y.0) (count - (i + 1)) y.1 >>= λ z. Ok (y.0 ∷ z.0, z.1))) h
    ∙ regroup front x (lines_in form next (next x) (count - (i + 1)) behind) in
    sym one ∙ so_far

pub lines_end : {A : Type 0} (form : ℕ → List ℕ → Option A) (next : A → ℕ) (front : List A) (least count i : ℕ) (unread : Unread) (fault : CertFault) (total : Result (List A × Unread) CertFault) → i < count → next_line (form least) unread ≡ Err fault
    → with_front front (lines_in form next least (count - i) unread) ≡ total → total ≡ Err fault
unfolding lines_in
lines_end form next front least count i unread fault total low h so_far =
    let k : count - i ≡ suc (count - (i + 1)) = omega arith in
    sym so_far
    ∙ ap (λ m. with_front front (lines_in form next least m unread)) k
    ∙ ap (λ first. with_front front (first >>= λ y. lines_in form next (next y.0) (count - (i + 1)) y.1 >>= λ z. Ok (y.0 ∷ z.0, z.1))) h

pub lines_done : {A : Type 0} (form : ℕ → List ℕ → Option A) (next : A → ℕ) (front : List A) (least count i : ℕ) (unread : Unread) (total : Result (List A × Unread) CertFault) → count ≤ i
    → with_front front (lines_in form next least (count - i) unread) ≡ total → total ≡ Ok (front, unread)
unfolding lines_in
lines_done form next front least count i unread total le so_far =
    let k : count - i ≡ 0 = omega arith in
    sym so_far ∙ ap (λ m. with_front front (lines_in form next least m unread)) k ∙ ap (λ xs. Ok (xs, unread)) (append-nil front)

-- ---- Tokens

abbrev pub with_tokens : List Token → Option (List Token) → Option (List Token)
with_tokens front read = option_map (λ more. front ++ more) read

tokens_regroup : (front : List Token) (token : Token) (read : Option (List Token)) → with_tokens front (option_map (λ more. token ∷ more) read) ≡ with_tokens (front ++ token ∷ []) read
tokens_regroup front token (Some more) = ap Some (sym (append_assoc front (token ∷ []) more))
tokens_regroup front token None = refl

pub tokens_go_on : (items : ℕ) (front : List Token) (word : List ℕ) (words : List (List ℕ)) (token : Token) → token_in items word ≡ Some token → with_tokens front (tokens_in items (word ∷ words)) ≡ with_tokens (front ++ token ∷ []) (tokens_in items words)
unfolding tokens_in
tokens_go_on items front word words token h =
    ap (λ o. with_tokens front (option_and_then (λ t. option_map (λ more. t ∷ more) (tokens_in items words)) o)) h ∙ tokens_regroup front token (tokens_in items words)

pub tokens_bad : (items : ℕ) (front : List Token) (word : List ℕ) (words : List (List ℕ)) → token_in items word ≡ None → with_tokens front (tokens_in items (word ∷ words)) ≡ None
unfolding tokens_in
tokens_bad items front word words h = ap (λ o. with_tokens front (option_and_then (λ t. option_map (λ more. t ∷ more) (tokens_in items words)) o)) h

pub tokens_done : (items : ℕ) (front : List Token) → with_tokens front (tokens_in items []) ≡ Some front
unfolding tokens_in
tokens_done items front = ap Some (append-nil front)

-- ---- Pairs

pub pairs_go_on : (ranges : List ValueRange) (least : ℕ) (e : Assignment) (word : List ℕ) (words : List (List ℕ)) (v x : ℕ) → pair_in ranges (length e) least word ≡ Some (v, x) → with_pairs ranges least e (word ∷ words) ≡ with_pairs ranges (v + 1) (set e v (Some x)) words
unfolding with_pairs
pairs_go_on ranges least e word words v x h = ap (option_and_then (λ (pair : ℕ × ℕ). with_pairs ranges (pair.0 + 1) (set e pair.0 (Some pair.1)) words)) h

pub pairs_bad : (ranges : List ValueRange) (least : ℕ) (e : Assignment) (word : List ℕ) (words : List (List ℕ)) → pair_in ranges (length e) least word ≡ None → with_pairs ranges least e (word ∷ words) ≡ None
unfolding with_pairs
pairs_bad ranges least e word words h = ap (option_and_then (λ (pair : ℕ × ℕ). with_pairs ranges (pair.0 + 1) (set e pair.0 (Some pair.1)) words)) h

pub pairs_done : (ranges : List ValueRange) (least : ℕ) (e : Assignment) → with_pairs ranges least e [] ≡ Some e
unfolding with_pairs
pairs_done ranges least e = refl

pub question_set : (l : Language) (e : Assignment) (v x : ℕ) → IsQuestion l e → v < variable_count l → x < l.value_count → is_in (range_of l v) x ≡ true → IsQuestion l (set e v (Some x))
question_set l e v x h known fits within = record {
  size = length-set e v (Some x) ∙ h.size;
  values_fit = λ k d inside y is. go k d (let long = length-set e v (Some x) in omega (arith, long, inside)) y is (cases_eq k v);
  within = λ k low. ranged k low (cases_eq k v);
}
  where
    go : (k : ℕ) (d : Option ℕ) → k < length e → (y : ℕ) → get_or (set e v (Some x)) k d ≡ Some y → (k ≡ v) ⊎ (k ≡ v → ⊥) → y < l.value_count
    go k d low y is (inl same) =
        let this : x ≡ y = same_Some x y (sym (ap (λ i. get_or (set e v (Some x)) i d) same ∙ get_or-set_same e v (Some x) d (omega (arith, low, same))) ∙ is) in
        omega (arith, this, fits)
    go k d low y is (inr apart) = h.values_fit k d low y (sym (get_or-set_other e v k (Some x) d apart) ∙ is)

    ranged : (k : ℕ) → k < variable_count l → (k ≡ v) ⊎ (k ≡ v → ⊥) → is_ranged l k (value_of (set e v (Some x)) k) ≡ true
    ranged k low (inl same) =
        ap (λ i. is_ranged l i (value_of (set e v (Some x)) i)) same
        ∙ ap (is_ranged l v) (get_or-set_same e v (Some x) None (let size = h.size in omega (arith, known, size)))
        ∙ within
    ranged k low (inr apart) = ap (is_ranged l k) (get_or-set_other e v k (Some x) None apart) ∙ h.within k low
