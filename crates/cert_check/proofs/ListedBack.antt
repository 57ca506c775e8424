-- The lines of items and of listed candidates are read as those.
use Rattle.cert_check.proofs.Prelude.{◌≡◌, ℕ, ◌<◌, ◌≤◌, ◌^◌, ◌&&◌, false, cond, List, [], ◌∷◌, ◌++◌, length, map, Some, refl, sym, ◌∙◌, ap, arith, append_assoc, inl, inr, All, ◌==◌, codes, decimal, flat_map, option_map, option_and_then, bytes_eq, All-nil, All-cons, All-head, All-tail, Candidate, Language, IsLanguage, IsCandidate, candidates, relations_on, count_few, Token, Branch, Holds, Item, Refutation, decimal_below, item_in, token_in, tokens_in, listed_of, item_listed_in, item_line, listed_line, token_text, IsNodeOver, Lacks, lacks_by, lacks_both, lacks_first, cut_found, spaced, spaced_lacks, words_joined, decimal_lacks, below_read, from_read}
use Rattle.cert_check.proofs.LinesBack.{Says}

-- ---- Items

abbrev candidate_of : ℕ → ℕ → Candidate
candidate_of scope rel = record { scope = scope; rel = rel }

pub item_said : (l : Language) (c : Candidate) → IsLanguage l → IsCandidate l c → Says (item_in l) (item_line c) c
item_said l c lawful is =
    let low = is.scope in
    let few = lawful.few_scopes in
    let under = is.rel in
    let fewer = lawful.few_relations c.scope low in
    record {
      text = decimal c.scope ++ 32 ∷ decimal c.rel;
      is = sym (append_assoc (decimal c.scope) (32 ∷ decimal c.rel) (10 ∷ []));
      free = lacks_both 10 (decimal c.scope) (32 ∷ decimal c.rel) (decimal_lacks 10 c.scope (inl (omega arith)) (omega (arith, low, few)))
          (lacks_first 10 32 (decimal c.rel) refl (decimal_lacks 10 c.rel (inl (omega arith)) (omega (arith, under, fewer))));
      read =
          ap (option_and_then (λ (parts : List ℕ × List ℕ). option_and_then (λ (scope : ℕ). option_map (candidate_of scope) (decimal_below (length (relations_on l scope)) parts.1)) (decimal_below (length l.scopes) parts.0)))
          (cut_found 32 (decimal c.scope) (decimal c.rel) (decimal_lacks 32 c.scope (inl (omega arith)) (omega (arith, low, few))))
          ∙ ap (option_and_then (λ (scope : ℕ). option_map (candidate_of scope) (decimal_below (length (relations_on l scope)) (decimal c.rel)))) (below_read (length l.scopes) c.scope low (omega (arith, low, few)))
          ∙ ap (option_map (candidate_of c.scope)) (below_read (length (relations_on l c.scope)) c.rel under (omega (arith, under, fewer)));
    }

-- ---- Tokens

abbrev pub token_word : Token → List ℕ
token_word Branch = codes "b"
token_word Holds = codes "c"
token_word (Item i) = decimal i

token_spaced : (token : Token) → token_text token ≡ 32 ∷ token_word token
token_spaced Branch = refl
token_spaced Holds = refl
token_spaced (Item i) = refl

tokens_spaced : (tokens : List Token) → flat_map token_text tokens ≡ spaced (map token_word tokens)
tokens_spaced [] = refl
tokens_spaced (token ∷ tokens) = λ i. token_spaced token i ++ tokens_spaced tokens i

other_word : (first : ℕ) (word behind : List ℕ) → Lacks first word → bytes_eq word (first ∷ behind) ≡ false
other_word first [] behind free = refl
other_word first (b ∷ word) behind free = ap (λ same. same && bytes_eq word behind) (All-head (λ x. (x == first) ≡ false) b word free)

module _ (items : ℕ) (few : items < 2 ^ 32) where
  token_lacks : (byte : ℕ) (token : Token) → byte < 48 → IsNodeOver items token → Lacks byte (codes "b") → Lacks byte (codes "c") → Lacks byte (token_word token)
  token_lacks byte Branch low is b c = b
  token_lacks byte Holds low is b c = c
  token_lacks byte (Item i) low is b c = decimal_lacks byte i (inl low) (omega (arith, is, few))

  words_lack : (byte : ℕ) (tokens : List Token) → byte < 48 → All (IsNodeOver items) tokens → Lacks byte (codes "b") → Lacks byte (codes "c") → All (Lacks byte) (map token_word tokens)
  words_lack byte [] low all b c = All-nil (Lacks byte)
  words_lack byte (token ∷ tokens) low all b c =
      All-cons (Lacks byte) (token_word token) (map token_word tokens) (token_lacks byte token low (All-head (IsNodeOver items) token tokens all) b c) (words_lack byte tokens low (All-tail (IsNodeOver items) token tokens all) b c)

  token_back : (token : Token) → IsNodeOver items token → token_in items (token_word token) ≡ Some token
  token_back Branch is = refl
  token_back Holds is = refl
  token_back (Item i) is =
      let small : i < 2 ^ 64 = omega (arith, is, few) in
      ap (λ b. cond b (Some Branch) (cond (bytes_eq (decimal i) (codes "c")) (Some Holds) (option_map Item (decimal_below items (decimal i))))) (other_word 98 (decimal i) [] (decimal_lacks 98 i (inr (omega arith)) small))
      ∙ ap (λ b. cond b (Some Holds) (option_map Item (decimal_below items (decimal i)))) (other_word 99 (decimal i) [] (decimal_lacks 99 i (inr (omega arith)) small))
      ∙ ap (option_map Item) (below_read items i is small)

  tokens_back : (tokens : List Token) → All (IsNodeOver items) tokens → tokens_in items (map token_word tokens) ≡ Some tokens
  unfolding tokens_in
  tokens_back [] all = refl
  tokens_back (token ∷ tokens) all =
      ap (option_and_then (λ (t : Token). option_map (λ more. t ∷ more) (tokens_in items (map token_word tokens)))) (token_back token (All-head (IsNodeOver items) token tokens all))
      ∙ ap (option_map (λ more. token ∷ more)) (tokens_back tokens (All-tail (IsNodeOver items) token tokens all))

  -- ---- Listed candidates

  abbrev refutation_of : ℕ → List Token → Refutation
  refutation_of c tokens = record { candidate = c; tokens = tokens }

  pub listed_said : (l : Language) (least : ℕ) (r : Refutation) → IsLanguage l → least ≤ r.candidate → r.candidate < length (candidates l) → All (IsNodeOver items) r.tokens → Says (item_listed_in l items least) (listed_line r) r
  listed_said l least r lawful from known nodes =
      let most = count_few l (length l.scopes) lawful.few_relations in
      let few_scopes = lawful.few_scopes in
      let small : r.candidate < 2 ^ 64 = omega (arith, known, most, few_scopes) in
      record {
        text = decimal r.candidate ++ spaced (map token_word r.tokens);
        is = ap (λ text. decimal r.candidate ++ (text ++ 10 ∷ [])) (tokens_spaced r.tokens) ∙ sym (append_assoc (decimal r.candidate) (spaced (map token_word r.tokens)) (10 ∷ []));
        free = lacks_both 10 (decimal r.candidate) (spaced (map token_word r.tokens)) (decimal_lacks 10 r.candidate (inl (omega arith)) small)
            (spaced_lacks 10 (map token_word r.tokens) refl (words_lack 10 r.tokens (omega arith) nodes (lacks_by 10 (codes "b") refl) (lacks_by 10 (codes "c") refl)));
        read =
            ap (listed_of l items least) (words_joined (decimal r.candidate) (map token_word r.tokens) (decimal_lacks 32 r.candidate (inl (omega arith)) small) (words_lack 32 r.tokens (omega arith) nodes (lacks_by 32 (codes "b") refl) (lacks_by 32 (codes "c") refl)))
            ∙ ap (option_and_then (λ (c : ℕ). option_map (refutation_of c) (tokens_in items (map token_word r.tokens)))) (from_read least (length (candidates l)) r.candidate from known small)
            ∙ ap (option_map (refutation_of r.candidate)) (tokens_back r.tokens nodes);
      }
