-- The choices of a mask: those that agree with a reply, none of them, the one that remains.
use Rattle.find_c.proofs.Prelude.{◌≡◌, ℕ, ◌<◌, ◌≤◌, ◌^◌, Bool, true, false, cond, ◌&&◌, ◌||◌, List, [], ◌∷◌, ◌++◌, map, length, Some, None, refl, sym, ◌∙◌, ap, subst, arith, ◌≢◌, bit_and, is_none, beq, filter, list_any, bit_not, w64, filter-append, is_one, ones_of, Choice, remaining, choices_of, beside_none, is_accepting, is_one-and}
use Rattle.std.proofs.Math.Bool.{and-false, and-true}
use Rattle.shared_lemmas.proofs.Booleans.{beq-false, beq-true}
use Rattle.assign.proofs.Ones.{is_one-and_not, no_ones, ones_of-passing, ones_of-zero}

-- ---- truth values

-- ---- the choices that agree

filter-some : (p : Choice → Bool) (xs : List ℕ) → filter p (map (λ r. Some r) xs) ≡ map (λ r. Some r) (filter (λ r. p (Some r)) xs)
filter-some p [] = refl
filter-some p (x ∷ xs) = go (p (Some x)) (filter-some p xs)
  where
    go : (b : Bool) → filter p (map (λ r. Some r) xs) ≡ map (λ r. Some r) (filter (λ r. p (Some r)) xs) →
        cond b (Some x ∷ filter p (map (λ r. Some r) xs)) (filter p (map (λ r. Some r) xs)) ≡ map (λ r. Some r) (cond b (x ∷ filter (λ r. p (Some r)) xs) (filter (λ r. p (Some r)) xs))
    go true rest = ap (λ ys. Some x ∷ ys) rest
    go false rest = rest

free_agreeing : (m : ℕ) (free reply : Bool) → filter (λ c. beq (is_accepting m c) reply) (cond free (None ∷ []) []) ≡ cond (free && reply) (None ∷ []) []
free_agreeing m true true = refl
free_agreeing m true false = refl
free_agreeing m false reply = refl

agreeing_with : (a b m : ℕ) (free reply : Bool) → ((r : ℕ) → r < 64 → is_one b r ≡ (is_one a r && beq (is_one m r) reply)) →
    choices_of b (free && reply) ≡ filter (λ c. beq (is_accepting m c) reply) (choices_of a free)
agreeing_with a b m free reply each =
    (λ i. map (λ r. Some r) (ones_of-passing b a (λ r. beq (is_one m r) reply) each i) ++ sym (free_agreeing m free reply) i)
    ∙ ap (λ cs. cs ++ filter (λ c. beq (is_accepting m c) reply) (cond free (None ∷ []) [])) (sym (filter-some (λ c. beq (is_accepting m c) reply) (ones_of a)))
    ∙ sym (filter-append (λ c. beq (is_accepting m c) reply) (map (λ r. Some r) (ones_of a)) (cond free (None ∷ []) []))

pub agreeing_yes : (a m : ℕ) (free : Bool) → choices_of (bit_and a m) free ≡ filter (λ c. beq (is_accepting m c) true) (choices_of a free)
agreeing_yes a m free = ap (choices_of (bit_and a m)) (sym (and-true free)) ∙ agreeing_with a (bit_and a m) m free true (λ r low. is_one-and a m r ∙ ap (λ b. is_one a r && b) (sym (beq-true (is_one m r))))

pub agreeing_no : (a m : ℕ) (free : Bool) → m < 2 ^ 64 → choices_of (bit_and a (bit_not w64 m)) false ≡ filter (λ c. beq (is_accepting m c) false) (choices_of a free)
agreeing_no a m free h = ap (choices_of (bit_and a (bit_not w64 m))) (sym (and-false free)) ∙ agreeing_with a (bit_and a (bit_not w64 m)) m free false (λ r low. is_one-and_not a m r h low ∙ ap (λ b. is_one a r && b) (sym (beq-false (is_one m r))))

-- ---- none of them

pub none_of_nothing : (a : ℕ) → a ≡ 0 → choices_of a false ≡ []
none_of_nothing a e = ap (λ m. choices_of m false) e ∙ ap (λ rs. map (λ r. let c : Choice = Some r in c) rs ++ []) ones_of-zero

no_relations : (rs : List ℕ) → map (λ r. let c : Choice = Some r in c) rs ++ [] ≡ [] → rs ≡ []
no_relations [] h = refl
no_relations (r ∷ rs) h = cc

pub nothing_of_none : (a : ℕ) → a < 2 ^ 64 → choices_of a false ≡ [] → a ≡ 0
nothing_of_none a h none = no_ones a h (no_relations (ones_of a) none)

pub free_is_some : (a : ℕ) → choices_of a true ≡ [] → ⊥
free_is_some a h = go (ones_of a) h
  where
    go : (rs : List ℕ) → map (λ r. let c : Choice = Some r in c) rs ++ None ∷ [] ≡ [] → ⊥
    go [] e = cc
    go (r ∷ rs) e = cc

-- no choice passes where none is left of the filter
pub none_pass : {X : Type 0} (p : X → Bool) (xs : List X) → filter p xs ≡ [] → list_any p xs ≡ false
none_pass p [] h = refl
none_pass p (x ∷ xs) h = go (p x) (none_pass p xs) h
  where
    go : (b : Bool) → (filter p xs ≡ [] → list_any p xs ≡ false) → cond b (x ∷ filter p xs) (filter p xs) ≡ [] → (b || list_any p xs) ≡ false
    go true rest e = cc
    go false rest e = rest e

-- ---- the one that remains

any_none_end : (rs : List ℕ) → list_any is_none (map (λ r. let c : Choice = Some r in c) rs ++ None ∷ []) ≡ true
any_none_end [] = refl
any_none_end (r ∷ rs) = any_none_end rs

no_none : (rs : List ℕ) → list_any is_none (map (λ r. let c : Choice = Some r in c) rs ++ []) ≡ false
no_none [] = refl
no_none (r ∷ rs) = no_none rs

pub remaining_free : (a : ℕ) → remaining (choices_of a true) ≡ None
remaining_free a = go (ones_of a)
  where
    go : (rs : List ℕ) → remaining (map (λ r. let c : Choice = Some r in c) rs ++ None ∷ []) ≡ None
    go [] = refl
    go (r ∷ rs) = ap (λ b. cond b None (Some r)) (any_none_end rs)

first_remains : (r : ℕ) (rs : List ℕ) → remaining (map (λ r. let c : Choice = Some r in c) (r ∷ rs) ++ []) ≡ Some r
first_remains r rs = ap (λ b. cond b None (Some r)) (no_none rs)

-- the first relation remains where none is no choice
pub remaining_first : (mask v : ℕ) (others : List ℕ) → ones_of mask ≡ v ∷ others → remaining (choices_of mask false) ≡ Some v
remaining_first mask v others is = ap (λ rs. remaining (map (λ r. let c : Choice = Some r in c) rs ++ [])) is ∙ first_remains v others

-- ---- few of them

none_in_zero : (m : ℕ) (free : Bool) → m ≡ 0 → choices_of m free ≡ cond free (None ∷ []) []
none_in_zero m free none = ap (λ rs. map (λ r. let c : Choice = Some r in c) rs ++ cond free (None ∷ []) []) (ap ones_of none ∙ ones_of-zero)

first_in : (m r : ℕ) (others : List ℕ) (free : Bool) → ones_of m ≡ r ∷ others → choices_of m free ≡ Some r ∷ map (λ k. let c : Choice = Some k in c) others ++ cond free (None ∷ []) []
first_in m r others free is = ap (λ rs. map (λ k. let c : Choice = Some k in c) rs ++ cond free (None ∷ []) []) is

pub few_of_none : (m : ℕ) (free : Bool) → m ≡ 0 → length (choices_of m free) ≤ 1
few_of_none m free none = subst (λ cs. length cs ≤ 1) (sym (none_in_zero m free none)) (few free)
  where
    few : (b : Bool) → length (cond b (let one : List Choice = None ∷ [] in one) []) ≤ 1
    few true = omega arith
    few false = omega arith

pub few_of_first : (m r others : ℕ) → ones_of m ≡ r ∷ ones_of others → others ≡ 0 → length (choices_of m false) ≤ 1
few_of_first m r others is none = let one = ap length (first_in m r [] false (is ∙ ap (λ n. r ∷ ones_of n) none ∙ ap (λ rs. r ∷ rs) ones_of-zero)) in omega arith

-- one relation alone is the first without others
pub no_others : (m r others : ℕ) → others < 2 ^ 64 → ones_of m ≡ r ∷ ones_of others → length (choices_of m false) ≤ 1 → others ≡ 0
no_others m r others small is few = no_ones others small (go (ones_of others) (subst (λ cs. length cs ≤ 1) (first_in m r (ones_of others) false is) few))
  where
    go : (rs : List ℕ) → length (Some r ∷ map (λ k. let c : Choice = Some k in c) rs ++ []) ≤ 1 → rs ≡ []
    go [] h = refl
    go (k ∷ rs) h = absurd (omega arith)

-- a relation and none are two
pub more_beside_none : (m r others : ℕ) → ones_of m ≡ r ∷ ones_of others → length (choices_of m true) ≤ 1 → ⊥
more_beside_none m r others is few = go (ones_of others) (subst (λ cs. length cs ≤ 1) (first_in m r (ones_of others) true is) few)
  where
    go : (rs : List ℕ) → length (Some r ∷ map (λ k. let c : Choice = Some k in c) rs ++ None ∷ []) ≤ 1 → ⊥
    go [] h = omega arith
    go (k ∷ rs) h = omega arith

-- ---- one relation beside none

-- not where none is no choice
pub beside_nothing : (m : ℕ) → beside_none (choices_of m false) ≡ None
beside_nothing m = go (ones_of m)
  where
    go : (rs : List ℕ) → beside_none (map (λ r. let c : Choice = Some r in c) rs ++ []) ≡ None
    go [] = refl
    go (r ∷ []) = refl
    go (r ∷ k ∷ rs) = refl

pub none_alone : (m : ℕ) (free : Bool) → m ≡ 0 → beside_none (choices_of m free) ≡ None
none_alone m free none = ap beside_none (none_in_zero m free none) ∙ go free
  where
    go : (b : Bool) → beside_none (cond b (None ∷ []) []) ≡ None
    go true = refl
    go false = refl

pub one_beside_none : (m r others : ℕ) → ones_of m ≡ r ∷ ones_of others → others ≡ 0 → beside_none (choices_of m true) ≡ Some r
one_beside_none m r others is none = ap beside_none (first_in m r [] true (is ∙ ap (λ n. r ∷ ones_of n) none ∙ ap (λ rs. r ∷ rs) ones_of-zero))

pub more_than_one : (m r others : ℕ) → others < 2 ^ 64 → ones_of m ≡ r ∷ ones_of others → others ≢ 0 → beside_none (choices_of m true) ≡ None
more_than_one m r others small is more = ap beside_none (first_in m r (ones_of others) true is) ∙ go (ones_of others) (λ e. more (no_ones others small e))
  where
    go : (rs : List ℕ) → rs ≢ [] → beside_none (Some r ∷ map (λ k. let c : Choice = Some k in c) rs ++ None ∷ []) ≡ None
    go [] some = absurd (some refl)
    go (k ∷ rs) some = refl

-- what is told apart from none is so
pub beside_none_is : (cs : List Choice) (r : ℕ) → beside_none cs ≡ Some r → cs ≡ Some r ∷ None ∷ []
beside_none_is [] r e = cc
beside_none_is (None ∷ cs) r e = cc
beside_none_is (Some k ∷ []) r e = cc
beside_none_is (Some k ∷ Some j ∷ cs) r e = cc
beside_none_is (Some k ∷ None ∷ []) r e = ap (λ x. x ∷ None ∷ []) e
beside_none_is (Some k ∷ None ∷ d ∷ cs) r e = cc
