-- How the writing of a tree goes on.
use Rattle.cert_check.proofs.Prelude.{◌≡◌, ℕ, ◌+◌, ◌<◌, ◌≤◌, Bool, true, false, List, [], ◌∷◌, ◌++◌, length, refl, sym, ◌∙◌, ap, subst, arith, append_assoc, position, flat_map, append-nil, flat_map-append, lt-ltb, ltb-true, false_from_ne_true, Assignment, Candidate, Language, IsLanguage, IsCandidate, IsImplied, variable_count, violates, satisfies, plain_size, Token, Branch, Sheet, is_long, children, AddsPiece, branches, node_of, node_at, tree_of, later, ahead, IsPrefixAt, token_text}
use Rattle.cert_check.proofs.Sheets.{adds_none, adds_more, adds_as}
use Rattle.cert_check.proofs.Trees.{branches_both, forest, forest_step, forest_begins, branches_are_plain, branch_has_room}
use Rattle.cert_check.proofs.Walking.{later_none}

-- The nodes before those of the open prefixes are written, and so many of them are branches.
pub record IsWritten (l : Language) (network : List Candidate) (c : Candidate) (old new : Sheet) (count : ℕ) (left : List (List ℕ)) : Type 0 where
  pub front : List Token
  pub whole : front ++ forest l network c left ≡ tree_of l network c
  pub counted : branches front ≡ count
  pub added : AddsPiece old (flat_map token_text front) new

module _ (l : Language) (network : List Candidate) (c : Candidate) where
  pub has_room : IsLanguage l → IsCandidate l c → IsImplied l network c → (values : List ℕ) (e : Assignment) (token : Token) → IsPrefixAt l c values e → token ≡ node_at l network c values → token ≡ Branch → length values < variable_count l
  has_room lawful is implied values e token at node branch = branch_has_room l network c lawful is implied values at.small at.ranged at.short (sym node ∙ branch)

  pub writing_begins : (sheet : Sheet) (values : List ℕ) → values ≡ [] → IsWritten l network c sheet sheet 0 (ahead true l c values)
  writing_begins sheet values none = subst (λ (vs : List ℕ). IsWritten l network c sheet sheet 0 (ahead true l c vs)) (sym none) (record {
    front = [];
    whole = ap (λ (ps : List (List ℕ)). forest l network c ([] ∷ ps)) (later_none l c) ∙ forest_begins l network c;
    counted = refl;
    added = adds_none sheet;
  })

  -- the open prefixes, once the first is looked at
  opened : (is_open : Bool) (values : List ℕ) (next : List (List ℕ)) (token : Token) → is_open ≡ true → token ≡ node_at l network c values → (token ≡ Branch → length values < variable_count l) →
      children l c values token ++ later l c values ≡ next → forest l network c (ahead is_open l c values) ≡ token ∷ forest l network c next
  opened true values next token h node room follows = forest_step l network c values (later l c values) next token node room follows
  opened false values next token h node room follows = absurd (let no : ⊥ = cc in no)

  -- there are more branches than are written, if the next node is one
  pub next_counts : IsLanguage l → IsCandidate l c → (old new : Sheet) (count : ℕ) (is_open : Bool) (values : List ℕ) (token : Token) → is_open ≡ true → token ≡ node_at l network c values → (token ≡ Branch → length values < variable_count l) →
      IsWritten l network c old new count (ahead is_open l c values) → count + branches (token ∷ []) ≤ plain_size l network c
  next_counts lawful is old new count is_open values token h node room written =
      let rest : List Token = forest l network c (children l c values token ++ later l c values) in
      let tree : written.front ++ (token ∷ rest) ≡ tree_of l network c =
      ap (λ (ts : List Token). written.front ++ ts) (sym (opened is_open values (children l c values token ++ later l c values) token h node room refl)) ∙ written.whole in
      let all : branches written.front + (branches (token ∷ []) + branches rest) ≡ plain_size l network c =
      ap (λ n. branches written.front + n) (sym (branches_both (token ∷ []) rest)) ∙ sym (branches_both written.front (token ∷ rest)) ∙ ap branches tree ∙ branches_are_plain l network c lawful is in
      let so_far = written.counted in
      omega (arith, all, so_far)

  pub goes_on : (old mid new : Sheet) (count : ℕ) (is_open : Bool) (values : List ℕ) (token : Token) (next : List (List ℕ)) → is_open ≡ true → token ≡ node_at l network c values → (token ≡ Branch → length values < variable_count l) →
      children l c values token ++ later l c values ≡ next → AddsPiece mid (token_text token) new → IsWritten l network c old mid count (ahead is_open l c values) →
      IsWritten l network c old new (count + branches (token ∷ [])) next
  goes_on old mid new count is_open values token next h node room follows here written = record {
    front = written.front ++ token ∷ [];
    whole =
        append_assoc written.front (token ∷ []) (forest l network c next)
        ∙ ap (λ (ts : List Token). written.front ++ ts) (sym (opened is_open values next token h node room follows))
        ∙ written.whole;
    counted = branches_both written.front (token ∷ []) ∙ ap (λ n. n + branches (token ∷ [])) written.counted;
    added = adds_as old new (flat_map token_text written.front ++ token_text token) (flat_map token_text (written.front ++ token ∷ []))
        (ap (λ r. flat_map token_text written.front ++ r) (sym (append-nil (token_text token))) ∙ sym (flat_map-append token_text written.front (token ∷ [])))
        (adds_more old mid new (flat_map token_text written.front) (token_text token) written.added here);
  }

  pub fewer_left : (is_open : Bool) (values : List ℕ) (token : Token) (next : List (List ℕ)) → is_open ≡ true → token ≡ node_at l network c values → (token ≡ Branch → length values < variable_count l) →
      children l c values token ++ later l c values ≡ next → length (forest l network c next) < length (forest l network c (ahead is_open l c values))
  fewer_left is_open values token next h node room follows = let same = ap length (opened is_open values next token h node room follows) in omega (arith, same)

  pub too_long : (budget count : ℕ) → budget < count → count ≤ plain_size l network c → true ≡ is_long l network budget c
  too_long budget count past most = sym (lt-ltb budget (plain_size l network c) (omega (arith, past, most)))

  -- all is written
  front_is : (old new : Sheet) (count : ℕ) (is_open : Bool) (values : List ℕ) → is_open ≡ false → (w : IsWritten l network c old new count (ahead is_open l c values)) → w.front ≡ tree_of l network c
  front_is old new count true values h w = absurd (let no : ⊥ = cc in no)
  front_is old new count false values h w = sym (append-nil w.front) ∙ w.whole

  pub not_long : IsLanguage l → IsCandidate l c → (budget : ℕ) (old new : Sheet) (count : ℕ) (is_open : Bool) (values : List ℕ) → is_open ≡ false → count ≤ budget → IsWritten l network c old new count (ahead is_open l c values) → false ≡ is_long l network budget c
  not_long lawful is budget old new count is_open values h few w =
      let all : count ≡ plain_size l network c = sym w.counted ∙ ap branches (front_is old new count is_open values h w) ∙ branches_are_plain l network c lawful is in
      sym (false_from_ne_true _ (λ over. (let past = ltb-true budget (plain_size l network c) over in omega (arith, past, all, few))))

  pub whole_added : (old new : Sheet) (count : ℕ) (is_open : Bool) (values : List ℕ) → is_open ≡ false → IsWritten l network c old new count (ahead is_open l c values) → AddsPiece old (flat_map token_text (tree_of l network c)) new
  whole_added old new count is_open values h w = adds_as old new (flat_map token_text w.front) (flat_map token_text (tree_of l network c)) (ap (flat_map token_text) (front_is old new count is_open values h w)) w.added
