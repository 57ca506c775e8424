-- Tokens that are read one by one.
use Rattle.net_cnf.proofs.Prelude.{◌≡◌, ℕ, suc, ◌+◌, ◌<◌, ◌≤◌, Bool, true, false, cond, List, [], ◌∷◌, ◌++◌, length, take, Option, Some, None, refl, sym, ◌∙◌, ap, arith, append_assoc, ltb, ◌⊎◌, inl, inr, position, is_none, option_map, cons_option, before_first, position_or_len, cases_lt, lt-ltb, le-ltb, not_from_false, not_from_true, append-nil, marks, IsMarked, AreNamed, is_end, bad_token, literal_in, literals_in, Literal, Signs}

-- those before the end
abbrev pub read_of : List (List ℕ) → List (List ℕ)
read_of all = before_first is_end all

-- So many tokens were taken, and these are left. The taken ones are literals, whose signs are marked.
pub record IsTaken (count taken : ℕ) (all rest : List (List ℕ)) (signs : List Signs) : Type 0 where
  pub seen : List Literal
  pub marked : IsMarked seen signs
  pub long : length signs ≡ count
  pub literals : literals_in count (read_of all) ≡ seen ++ literals_in count (read_of rest)
  pub bad : bad_token count (read_of all) ≡ option_map (λ i. taken + i) (bad_token count (read_of rest))
  pub few : taken + length rest ≤ length all

-- ---- the first token

read_end : (token : List ℕ) (rest : List (List ℕ)) → is_end token ≡ true → read_of (token ∷ rest) ≡ []
read_end token rest h = ap (λ b. take (cond b (1 + position_or_len is_end rest) 0) (token ∷ rest)) (not_from_true (is_end token) h)

read_more : (token : List ℕ) (rest : List (List ℕ)) → is_end token ≡ false → read_of (token ∷ rest) ≡ token ∷ read_of rest
read_more token rest h =
    ap (λ b. take (cond b (1 + position_or_len is_end rest) 0) (token ∷ rest)) (not_from_false (is_end token) h)
    ∙ ap (λ k. take k (token ∷ rest)) (let e : 1 + position_or_len is_end rest ≡ suc (position_or_len is_end rest) = omega arith in e)

position_here : {X : Type 0} (p : X → Bool) (x : X) (xs : List X) → p x ≡ true → position p (x ∷ xs) ≡ Some 0
position_here p x xs h =
    ap (λ (b : Bool). let k : ℕ = cond b (1 + position_or_len p xs) 0 in cond (ltb k (length (x ∷ xs))) (Some k) None) (not_from_true (p x) h)
    ∙ ap (λ b. cond b (Some 0) None) (lt-ltb 0 (length (x ∷ xs)) (omega arith))

next_ltb : (a b : ℕ) → ltb (1 + a) (suc b) ≡ ltb a b
next_ltb a b = go (cases_lt a b)
  where
    go : (a < b) ⊎ (b ≤ a) → ltb (1 + a) (suc b) ≡ ltb a b
    go (inl low) = lt-ltb (1 + a) (suc b) (omega arith) ∙ sym (lt-ltb a b low)
    go (inr high) = le-ltb (1 + a) (suc b) (omega arith) ∙ sym (le-ltb a b high)

position_later : {X : Type 0} (p : X → Bool) (x : X) (xs : List X) → p x ≡ false → position p (x ∷ xs) ≡ option_map (λ i. 1 + i) (position p xs)
position_later p x xs h =
    ap (λ (b : Bool). let k : ℕ = cond b (1 + position_or_len p xs) 0 in cond (ltb k (length (x ∷ xs))) (Some k) None) (not_from_false (p x) h)
    ∙ ap (λ b. cond b (Some (1 + position_or_len p xs)) None) (next_ltb (position_or_len p xs) (length xs))
    ∙ go (ltb (position_or_len p xs) (length xs))
  where
    go : (b : Bool) → cond b (Some (1 + position_or_len p xs)) None ≡ option_map (λ i. 1 + i) (cond b (Some (position_or_len p xs)) None)
    go true = refl
    go false = refl

shift : (taken : ℕ) (o : Option ℕ) → option_map (λ i. taken + i) (option_map (λ i. 1 + i) o) ≡ option_map (λ i. (taken + 1) + i) o
shift taken None = refl
shift taken (Some i) = ap Some (let e : taken + (1 + i) ≡ (taken + 1) + i = omega arith in e)

-- ---- the steps

pub taken_none : (count : ℕ) (all : List (List ℕ)) (signs : List Signs) → IsMarked [] signs → length signs ≡ count → IsTaken count 0 all all signs
taken_none count all signs marked long = record {
  seen = [];
  marked = marked;
  long = long;
  literals = refl;
  bad = same (bad_token count (read_of all));
  few = omega arith;
}
  where
    same : (o : Option ℕ) → o ≡ option_map (λ i. 0 + i) o
    same None = refl
    same (Some i) = ap Some (let e : i ≡ 0 + i = omega arith in e)

-- a literal more
pub taken_more : (count taken : ℕ) (all rest : List (List ℕ)) (token : List ℕ) (x : Literal) (signs signs' : List Signs) → is_end token ≡ false → literal_in count token ≡ Some x → length signs' ≡ length signs →
    ((literals : List Literal) → IsMarked literals signs → IsMarked (literals ++ x ∷ []) signs') → IsTaken count taken all (token ∷ rest) signs → IsTaken count (taken + 1) all rest signs'
taken_more count taken all rest token x signs signs' going read same mark t = record {
  seen = t.seen ++ x ∷ [];
  marked = mark t.seen t.marked;
  long = same ∙ t.long;
  literals =
      t.literals
      ∙ ap (λ tokens. t.seen ++ literals_in count tokens) (read_more token rest going)
      ∙ ap (λ o. t.seen ++ cons_option o (literals_in count (read_of rest))) read
      ∙ sym (append_assoc t.seen (x ∷ []) (literals_in count (read_of rest)));
  bad =
      t.bad
      ∙ ap (λ tokens. option_map (λ i. taken + i) (bad_token count tokens)) (read_more token rest going)
      ∙ ap (option_map (λ i. taken + i)) (position_later (λ word. is_none (literal_in count word)) token (read_of rest) (ap is_none read))
      ∙ shift taken (bad_token count (read_of rest));
  few = let few = t.few in omega (arith, few);
}

-- a token that is no literal
pub taken_bad : (count taken : ℕ) (all rest : List (List ℕ)) (token : List ℕ) (signs : List Signs) → is_end token ≡ false → literal_in count token ≡ None → IsTaken count taken all (token ∷ rest) signs → bad_token count (read_of all) ≡ Some taken
taken_bad count taken all rest token signs going none t =
    t.bad
    ∙ ap (λ tokens. option_map (λ i. taken + i) (bad_token count tokens)) (read_more token rest going)
    ∙ ap (option_map (λ i. taken + i)) (position_here (λ word. is_none (literal_in count word)) token (read_of rest) (ap is_none none))
    ∙ ap Some (let e : taken + 0 ≡ taken = omega arith in e)

-- nothing more is read
taken_whole : (count taken : ℕ) (all rest : List (List ℕ)) (signs : List Signs) → read_of rest ≡ [] → IsTaken count taken all rest signs → AreNamed count (read_of all) signs
taken_whole count taken all rest signs none t = record {
  read = t.bad ∙ ap (λ tokens. option_map (λ i. taken + i) (bad_token count tokens)) none;
  marked =
      t.marked
      ∙ (λ i. marks (sym (append-nil t.seen) i) (t.long i))
      ∙ ap (λ literals. marks literals count) (sym (t.literals ∙ ap (λ tokens. t.seen ++ literals_in count tokens) none));
}

pub taken_to_end : (count taken : ℕ) (all rest : List (List ℕ)) (token : List ℕ) (signs : List Signs) → is_end token ≡ true → IsTaken count taken all (token ∷ rest) signs → AreNamed count (read_of all) signs
taken_to_end count taken all rest token signs ends t = taken_whole count taken all (token ∷ rest) signs (read_end token rest ends) t

pub taken_all : (count taken : ℕ) (all : List (List ℕ)) (signs : List Signs) → IsTaken count taken all [] signs → AreNamed count (read_of all) signs
taken_all count taken all signs t = taken_whole count taken all [] signs refl t

-- ---- a value, or a fault in its place
