-- A scope that is decided stays so while candidates go and the network grows.
use Rattle.session_core.proofs.Prelude.{◌≡◌, ℕ, Bool, true, false, ◌||◌, ◌&&◌, not, List, [], ◌∷◌, map, refl, sym, ◌∙◌, ap, Some, None, cond, find, is_some, filter, ◌==◌, list_any, list_any-append, and_parts, and_from, or_left, or_right, both_ways, Candidate, Language, has_scope, any-filter, any-map, tuples, Choice, Scene, allows, tells_apart, splitting_tuple, scene_of, free_choices, is_undecided, any_weaker}

found_any : {X : Type 0} (p : X → Bool) (xs : List X) → is_some (find p xs) ≡ list_any p xs
found_any p [] = refl
found_any p (x ∷ xs) = elim (p x) as (λ b. is_some (cond b (Some x) (find p xs)) ≡ (b || list_any p xs)) [ true ↦ refl | false ↦ found_any p xs ]

-- a choice that is left after a strike was one before
choice_before : (test : Choice → Bool) (p : Candidate → Bool) (live : List Candidate) (s : ℕ) → list_any test (free_choices (filter p live) s) ≡ true → list_any test (free_choices live s) ≡ true
choice_before test p live s at =
    let on_s : Candidate → Bool = λ (c : Candidate). c.scope == s in
    let number : Candidate → Choice = λ (c : Candidate). Some c.rel in
    let left : List Candidate → Bool = λ cs. list_any test (map number (filter on_s cs)) in
    let few : left (filter p live) ≡ list_any (λ c. p c && (on_s c && test (number c))) live =
    any-map test number (filter on_s (filter p live)) ∙ any-filter (λ c. test (number c)) on_s (filter p live) ∙ any-filter (λ c. on_s c && test (number c)) p live in
    let all : left live ≡ list_any (λ c. on_s c && test (number c)) live =
    any-map test number (filter on_s live) ∙ any-filter (λ c. test (number c)) on_s live in
    let none : Bool = list_any test (None ∷ []) in
    let before : (list_any (λ c. p c && (on_s c && test (number c))) live || none) ≡ true =
    sym (ap (λ b. b || none) few) ∙ sym (list_any-append test (map number (filter on_s (filter p live))) (None ∷ [])) ∙ at in
    list_any-append test (map number (filter on_s live)) (None ∷ []) ∙ ap (λ b. b || none) all
    ∙ go (list_any (λ c. p c && (on_s c && test (number c))) live) refl none before
  where
    go : (b : Bool) → list_any (λ (c : Candidate). p c && ((c.scope == s) && test (Some c.rel))) live ≡ b → (none : Bool) → (b || none) ≡ true →
        (list_any (λ (c : Candidate). (c.scope == s) && test (Some c.rel)) live || none) ≡ true
    go true some none h = or_left _ none (any_weaker (λ (c : Candidate). p c && ((c.scope == s) && test (Some c.rel))) (λ (c : Candidate). (c.scope == s) && test (Some c.rel)) live
        (λ c both. (and_parts (p c) ((c.scope == s) && test (Some c.rel)) both).1) some)
    go false some none h = or_right _ none h

undecided_before : (l : Language) (p : Candidate → Bool) (live network more : List Candidate) (s : ℕ) → (has_scope more s ≡ false → has_scope network s ≡ false) →
    is_undecided l (filter p live) more s ≡ true → is_undecided l live network s ≡ true
undecided_before l p live network more s free at =
    let scene : Scene = scene_of l s in
    let us : List (List ℕ) = tuples scene.value_count scene.arity in
    let parts = and_parts (not (has_scope more s)) (is_some (splitting_tuple scene (free_choices (filter p live) s))) at in
    let was : list_any (tells_apart scene (free_choices live s)) us ≡ true =
    any_weaker (tells_apart scene (free_choices (filter p live) s)) (tells_apart scene (free_choices live s)) us
    (λ u told.
    let both = and_parts (list_any (allows scene u) (free_choices (filter p live) s)) (list_any (λ c. not (allows scene u c)) (free_choices (filter p live) s)) told in
    and_from _ _ (choice_before (allows scene u) p live s both.0) (choice_before (λ c. not (allows scene u c)) p live s both.1))
    (sym (found_any (tells_apart scene (free_choices (filter p live) s)) us) ∙ parts.1) in
    and_from _ _ (ap not (free (unlearned (has_scope more s) parts.0))) (found_any (tells_apart scene (free_choices live s)) us ∙ was)
  where
    unlearned : (b : Bool) → not b ≡ true → b ≡ false
    unlearned true h = cc
    unlearned false h = refl

-- a decided scope stays decided
pub stays_decided : (l : Language) (p : Candidate → Bool) (live network more : List Candidate) (s : ℕ) → (has_scope more s ≡ false → has_scope network s ≡ false) →
    is_undecided l live network s ≡ false → is_undecided l (filter p live) more s ≡ false
stays_decided l p live network more s free off = go (is_undecided l (filter p live) more s) refl
  where
    go : (b : Bool) → is_undecided l (filter p live) more s ≡ b → is_undecided l (filter p live) more s ≡ false
    go true on = absurd (both_ways _ off (undecided_before l p live network more s free on))
    go false on = on
