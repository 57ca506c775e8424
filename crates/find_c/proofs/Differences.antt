-- Where choices differ, from rows of their tables, one relation after another.
use Rattle.find_c.proofs.Prelude.{◌≡◌, ℕ, ◌+◌, ◌<◌, Bool, true, false, ◌&&◌, ◌||◌, not, List, [], ◌∷◌, ◌++◌, map, length, Some, None, refl, sym, ◌∙◌, ap, ◌==◌, bit_or, bit_and, All, list_any, bit_at-zero, All-nil, All-cons, All-head, All-tail, is_one, is_one-or, Language, relations_on, Choice, Scene, ones_of, choices_of, allows_at, differ_at, IsChoiceOn, is_one-and}
use Rattle.std.proofs.lemmas.List.Folds.{list_any-append}
use Rattle.find_c.proofs.Marks.{none_of_nothing}
use Rattle.std.proofs.Math.Bool.{and-true, or_assoc, or-false, or-true}

-- what the bits of a mask say of the relations that were looked at, and the other ones of themselves, is what all say
abbrev pub IsSeen : Scene → ℕ → (ℕ → Choice → Bool) → ℕ → ℕ → ℕ → Type 0
IsSeen scene place test relations mask left =
    (y : ℕ) → y < scene.value_count → (is_one mask y || list_any (test (place + y)) (choices_of left false)) ≡ list_any (test (place + y)) (choices_of relations false)

abbrev pub rejects_at : Scene → ℕ → Choice → Bool
rejects_at scene place c = not (allows_at scene place c)

pub seen_none : (scene : Scene) (place : ℕ) (test : ℕ → Choice → Bool) (relations : ℕ) → IsSeen scene place test relations 0 relations
seen_none scene place test relations y low = ap (λ x. (x == 1) || list_any (test (place + y)) (choices_of relations false)) (bit_at-zero y)

-- one relation more was looked at
pub seen_more : (scene : Scene) (place : ℕ) (test : ℕ → Choice → Bool) (relations mask left r others row : ℕ) → ones_of left ≡ r ∷ ones_of others →
    ((y : ℕ) → y < scene.value_count → is_one row y ≡ test (place + y) (Some r)) → IsSeen scene place test relations mask left → IsSeen scene place test relations (bit_or mask row) others
seen_more scene place test relations mask left r others row is tells before y low =
    ap (λ b. b || list_any (test (place + y)) (choices_of others false)) (is_one-or mask row y ∙ ap (λ b. is_one mask y || b) (tells y low))
    ∙ or_assoc (is_one mask y) (test (place + y) (Some r)) (list_any (test (place + y)) (choices_of others false))
    ∙ ap (λ rs. is_one mask y || list_any (test (place + y)) (map (λ k. let c : Choice = Some k in c) rs ++ [])) (sym is)
    ∙ before y low

-- all were
seen_all : (scene : Scene) (place : ℕ) (test : ℕ → Choice → Bool) (relations mask left : ℕ) → left ≡ 0 → IsSeen scene place test relations mask left →
    (y : ℕ) → y < scene.value_count → is_one mask y ≡ list_any (test (place + y)) (choices_of relations false)
seen_all scene place test relations mask left none before y low =
    sym (or-false (is_one mask y)) ∙ ap (λ cs. is_one mask y || list_any (test (place + y)) cs) (sym (none_of_nothing left none)) ∙ before y low

module _ (scene : Scene) (place relations accepted rejected left : ℕ) (none : left ≡ 0)
    (accepts : IsSeen scene place (allows_at scene) relations accepted left) (rejects : IsSeen scene place (rejects_at scene) relations rejected left) (y : ℕ) (low : y < scene.value_count) where
  pub differ_bound : is_one (bit_and accepted rejected) y ≡ differ_at scene (choices_of relations false) (place + y)
  differ_bound =
      is_one-and accepted rejected y
      ∙ (λ i. seen_all scene place (allows_at scene) relations accepted left none accepts y low i && seen_all scene place (rejects_at scene) relations rejected left none rejects y low i)

  -- none of the relations accepts every tuple
  pub differ_free : is_one rejected y ≡ differ_at scene (choices_of relations true) (place + y)
  differ_free =
      seen_all scene place (rejects_at scene) relations rejected left none rejects y low
      ∙ list_any-append (rejects_at scene (place + y)) rs [] ∙ sym (list_any-append (rejects_at scene (place + y)) rs (None ∷ []))
      ∙ ap (λ b. b && list_any (rejects_at scene (place + y)) (choices_of relations true))
      (sym (list_any-append (allows_at scene (place + y)) rs (None ∷ []) ∙ or-true (list_any (allows_at scene (place + y)) rs)))
    where
      rs : List Choice
      rs = map (λ r. Some r) (ones_of relations)

-- ---- where none is a choice, one relation that rejects a tuple is enough

-- where one of these relations rejects it, one of those does
abbrev pub IsAmong : Scene → ℕ → ℕ → ℕ → Type 0
IsAmong scene place relations left = list_any (rejects_at scene place) (choices_of left false) ≡ true → list_any (rejects_at scene place) (choices_of relations false) ≡ true

module _ (scene : Scene) (place relations left r others : ℕ) (is : ones_of left ≡ r ∷ ones_of others) (among : IsAmong scene place relations left) where
  first_there : list_any (rejects_at scene place) (choices_of left false) ≡ (rejects_at scene place (Some r) || list_any (rejects_at scene place) (choices_of others false))
  first_there = ap (λ rs. list_any (rejects_at scene place) (map (λ k. let c : Choice = Some k in c) rs ++ [])) is

  pub among_rest : IsAmong scene place relations others
  among_rest some = among (first_there ∙ ap (λ b. rejects_at scene place (Some r) || b) some ∙ or-true (rejects_at scene place (Some r)))

  -- this one does
  pub one_rejects : (row : ℕ) → bit_and row 1 ≡ 0 → is_one row 0 ≡ allows_at scene place (Some r) → list_any (rejects_at scene place) (choices_of relations false) ≡ true
  one_rejects row even tells = among (first_there ∙ ap (λ b. not b || list_any (rejects_at scene place) (choices_of others false)) off)
    where
      off : allows_at scene place (Some r) ≡ false
      off = sym tells ∙ sym (and-true (is_one row 0)) ∙ sym (is_one-and row 1 0) ∙ ap (λ m. is_one m 0) even ∙ ap (λ x. x == 1) (bit_at-zero 0)

-- none of the relations accepts it
pub differ_beside : (scene : Scene) (place relations : ℕ) → list_any (rejects_at scene place) (choices_of relations false) ≡ true → differ_at scene (choices_of relations true) place ≡ true
differ_beside scene place relations some = λ i. allowed i && refused i
  where
    rs : List Choice
    rs = map (λ k. Some k) (ones_of relations)

    refused : list_any (λ c. not (allows_at scene place c)) (choices_of relations true) ≡ true
    refused = list_any-append (rejects_at scene place) rs (None ∷ []) ∙ sym (list_any-append (rejects_at scene place) rs []) ∙ some

    allowed : list_any (allows_at scene place) (choices_of relations true) ≡ true
    allowed = list_any-append (allows_at scene place) rs (None ∷ []) ∙ or-true (list_any (allows_at scene place) rs)

-- ---- they are of the scope

known_relations : (l : Language) (s : ℕ) (rs : List ℕ) (rest : List Choice) → All (IsChoiceOn l s) (map (λ r. let c : Choice = Some r in c) rs ++ rest) → All (λ r. r < length (relations_on l s)) rs
known_relations l s [] rest known = All-nil (λ r. r < length (relations_on l s))
known_relations l s (r ∷ rs) rest known =
    All-cons (λ r. r < length (relations_on l s)) r rs (All-head (IsChoiceOn l s) (Some r) (map (λ r. Some r) rs ++ rest) known r refl)
    (known_relations l s rs rest (All-tail (IsChoiceOn l s) (Some r) (map (λ r. Some r) rs ++ rest) known))

pub known_of : (l : Language) (s relations : ℕ) (free : Bool) → All (IsChoiceOn l s) (choices_of relations free) → All (λ r. r < length (relations_on l s)) (ones_of relations)
known_of l s relations true known = known_relations l s (ones_of relations) (None ∷ []) known
known_of l s relations false known = known_relations l s (ones_of relations) [] known
