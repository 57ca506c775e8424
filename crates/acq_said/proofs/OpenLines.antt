-- The lines of open candidates, one more at a time.
use Rattle.acq_said.proofs.Prelude.{◌≡◌, ℕ, ◌+◌, Bool, true, false, cond, List, [], ◌∷◌, ◌++◌, map, refl, sym, ◌∙◌, ap, arith, if◌then◌else◌, flat_map, append-nil, append_assoc, filter-append, Candidate, Language, candidates_on, Remembered, is_open, open_line}
use Rattle.std.specs.List.{filter}
use Rattle.std.proofs.lemmas.List.Concat.{flat_map-append}
use Rattle.std.proofs.lemmas.List.FromFn.{map-range_with_len_more}
use Rattle.assign.specs.Sets.{numbers}

-- a line, and what comes behind it
pub line_then : (word number rest : List ℕ) → word ++ (number ++ (10 ∷ rest)) ≡ (word ++ (number ++ 10 ∷ [])) ++ rest
line_then word number rest = sym (append_assoc word (number ++ 10 ∷ []) rest ∙ ap (λ (x : List ℕ). word ++ x) (append_assoc number (10 ∷ []) rest))

abbrev pub at : ℕ → ℕ → Candidate
at s r = record { scope = s; rel = r }

-- the lines of some candidates
abbrev pub lines_of : Language → Remembered → List Candidate → List ℕ
lines_of l screen cs = flat_map (open_line l) (filter (is_open l screen) cs)

-- those of the first relations on a scope, and of the first scopes
abbrev pub lines_before : Language → Remembered → (scope rel : ℕ) → List ℕ
lines_before l screen s r = lines_of l screen (map (at s) (numbers r))

abbrev pub lines_to : Language → Remembered → ℕ → List ℕ
lines_to l screen s = lines_of l screen (flat_map (candidates_on l) (numbers s))

module _ (l : Language) (screen : Remembered) where
  lines_both : (cs ds : List Candidate) → lines_of l screen (cs ++ ds) ≡ lines_of l screen cs ++ lines_of l screen ds
  lines_both cs ds = ap (flat_map (open_line l)) (filter-append (is_open l screen) cs ds) ∙ flat_map-append (open_line l) (filter (is_open l screen) cs) (filter (is_open l screen) ds)

  line_alone : (c : Candidate) → lines_of l screen (c ∷ []) ≡ (if is_open l screen c then open_line l c else [])
  line_alone c = go (is_open l screen c)
    where
      go : (b : Bool) → flat_map (open_line l) (cond b (c ∷ []) []) ≡ (if b then open_line l c else [])
      go true = append-nil (open_line l c)
      go false = refl

  pub one_line : (s r : ℕ) → lines_before l screen s (r + 1) ≡ lines_before l screen s r ++ (if is_open l screen (at s r) then open_line l (at s r) else [])
  one_line s r = ap (lines_of l screen) (map-range_with_len_more (at s) 0 r r (omega arith)) ∙ lines_both (map (at s) (numbers r)) (at s r ∷ []) ∙ ap (λ x. lines_before l screen s r ++ x) (line_alone (at s r))

  map_same : (xs : List ℕ) → map (λ x. x) xs ≡ xs
  map_same [] = refl
  map_same (x ∷ xs) = ap (λ ys. x ∷ ys) (map_same xs)

  number_more : (n : ℕ) → numbers (n + 1) ≡ numbers n ++ n ∷ []
  number_more n = sym (map_same (numbers (n + 1))) ∙ map-range_with_len_more (λ x. x) 0 n n (omega arith) ∙ ap (λ xs. xs ++ n ∷ []) (map_same (numbers n))

  pub one_scope : (s : ℕ) → lines_to l screen (s + 1) ≡ lines_to l screen s ++ lines_of l screen (candidates_on l s)
  one_scope s =
      ap (λ ns. lines_of l screen (flat_map (candidates_on l) ns)) (number_more s)
      ∙ ap (lines_of l screen) (flat_map-append (candidates_on l) (numbers s) (s ∷ []) ∙ ap (λ cs. flat_map (candidates_on l) (numbers s) ++ cs) (append-nil (candidates_on l s)))
      ∙ lines_both (flat_map (candidates_on l) (numbers s)) (candidates_on l s)
