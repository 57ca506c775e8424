-- The choices that a telling apart begins with.
use Rattle.find_c.proofs.Prelude.{◌≡◌, ℕ, zero, suc, ◌<◌, Bool, true, false, cond, ◌&&◌, not, List, [], ◌∷◌, ◌++◌, length, map, get_or, Some, None, refl, sym, ◌∙◌, ap, subst, arith, ◌==◌, ◌≢◌, All, Contains, find, is_none, beq, filter, list_any, eqb-true, and_parts, append-nil, All-head, All-tail, All-nil, All-cons, All-append, Assignment, covers, tuple_on, place, holds, tuples, Candidate, Language, IsCandidate, scope_at, relations_on, scope_of, relation_of, place_on, violates, ones_of, nothing_passes, Choice, Got, remaining, tells_apart, choose, scene_of, free_choices, violated_choices, choices_of, is_accepting, allows_at, IsChoiceOn, LeavesChoices, IsFree, RelNext, Free}
use Rattle.language.specs.Answers.{IsNetwork}
use Rattle.bias_store.specs.KeptSet.{kept_relations}
use Rattle.find_c.proofs.Replies.{choose_ended}
use Rattle.shared_lemmas.proofs.Booleans.{beq-false}
use Rattle.shared_lemmas.proofs.Read.{cond_none}
use Rattle.std.proofs.lemmas.Simd.{map-map}
use Rattle.std.proofs.lemmas.Option.{cond_some}

-- the choices of the mask of the kept relations on a scope are its kept candidates
pub kept_marked : (live : List Candidate) (s mask : ℕ) → ones_of mask ≡ kept_relations live s →
    map (λ r. let c : Choice = Some r in c) (ones_of mask) ≡ map (λ (c : Candidate). Some c.rel) (filter (λ c. c.scope == s) live)
kept_marked live s mask is = ap (map (λ r. Some r)) is ∙ map-map (λ r. Some r) (λ (c : Candidate). c.rel) (filter (λ c. c.scope == s) live)

pub free_marked : (live : List Candidate) (s mask : ℕ) → ones_of mask ≡ kept_relations live s → choices_of mask true ≡ free_choices live s
free_marked live s mask is = ap (λ cs. cs ++ None ∷ []) (kept_marked live s mask is)

-- ---- they are of the scope

known_where : (l : Language) (s : ℕ) (t : Candidate → Bool) → ((c : Candidate) → t c ≡ true → c.scope ≡ s) → (live : List Candidate) → IsNetwork l live →
    All (IsChoiceOn l s) (map (λ (c : Candidate). Some c.rel) (filter t live))
known_where l s t there [] known = All-nil (IsChoiceOn l s)
known_where l s t there (c ∷ live) known = go (t c) refl (known_where l s t there live (All-tail (IsCandidate l) c live known))
  where
    go : (b : Bool) → t c ≡ b → All (IsChoiceOn l s) (map (λ (d : Candidate). Some d.rel) (filter t live)) →
        All (IsChoiceOn l s) (map (λ (d : Candidate). Some d.rel) (cond b (c ∷ filter t live) (filter t live)))
    go false off rest = rest
    go true on rest = All-cons (IsChoiceOn l s) (Some c.rel) _ (λ x e.
        let same : c.rel ≡ x = cc in
        subst (λ y. y < length (relations_on l s)) same (subst (λ k. c.rel < length (relations_on l k)) (there c on) (All-head (IsCandidate l) c live known).rel)) rest

pub free_known : (l : Language) (s : ℕ) (live : List Candidate) → IsNetwork l live → All (IsChoiceOn l s) (free_choices live s)
free_known l s live known =
    All-append (IsChoiceOn l s) (map (λ (c : Candidate). Some c.rel) (filter (λ c. c.scope == s) live)) (None ∷ [])
    (known_where l s (λ c. c.scope == s) (λ c on. eqb-true c.scope s on) live known)
    (All-cons (IsChoiceOn l s) None [] (λ x e. absurd (let is : ⊥ = cc in is)) (All-nil (IsChoiceOn l s)))

pub violated_known : (l : Language) (e : Assignment) (s : ℕ) (live : List Candidate) → IsNetwork l live → All (IsChoiceOn l s) (violated_choices l live e s)
violated_known l e s live known = known_where l s (λ c. (c.scope == s) && violates l c e) (λ c on. eqb-true c.scope s (and_parts (c.scope == s) (violates l c e) on).0) live known

-- ---- those that are violated

picked : (on t : Candidate → Bool) (q : Choice → Bool) (live : List Candidate) → ((c : Candidate) → on c ≡ true → q (Some c.rel) ≡ t c) →
    filter q (map (λ (c : Candidate). Some c.rel) (filter on live)) ≡ map (λ (c : Candidate). Some c.rel) (filter (λ c. on c && t c) live)
picked on t q [] each = refl
picked on t q (c ∷ live) each = go (on c) refl (picked on t q live each)
  where
    go : (b : Bool) → on c ≡ b → filter q (map (λ (d : Candidate). Some d.rel) (filter on live)) ≡ map (λ (d : Candidate). Some d.rel) (filter (λ d. on d && t d) live) →
        filter q (map (λ (d : Candidate). Some d.rel) (cond b (c ∷ filter on live) (filter on live))) ≡
        map (λ (d : Candidate). Some d.rel) (cond (b && t c) (c ∷ filter (λ d. on d && t d) live) (filter (λ d. on d && t d) live))
    go false off rest = rest
    go true here rest = rw (each c here) (both (t c))
      where
        both : (b : Bool) → cond b (Some c.rel ∷ filter q (map (λ (d : Candidate). Some d.rel) (filter on live))) (filter q (map (λ (d : Candidate). Some d.rel) (filter on live))) ≡
            map (λ (d : Candidate). Some d.rel) (cond b (c ∷ filter (λ d. on d && t d) live) (filter (λ d. on d && t d) live))
        both true = ap (λ cs. Some c.rel ∷ cs) rest
        both false = rest

module _ (l : Language) (live : List Candidate) (e : Assignment) (s : ℕ) where
  -- on a scope without all its values nothing is violated
  pub nothing_violated : place_on l s e ≡ None → violated_choices l live e s ≡ []
  nothing_violated none = ap (map (λ (c : Candidate). Some c.rel)) (nothing_passes (λ c. (c.scope == s) && violates l c e) live (λ c. here c (c.scope == s) refl))
    where
      off : covers e (scope_at l s) ≡ false
      off = cond_none (covers e (scope_at l s)) (place l.value_count (tuple_on e (scope_at l s))) none

      here : (c : Candidate) (b : Bool) → (c.scope == s) ≡ b → (b && violates l c e) ≡ false
      here c false on = refl
      here c true on = ap (λ k. covers e (scope_at l k) && not (holds l.value_count (relation_of l c) (tuple_on e (scope_of l c)))) (eqb-true c.scope s on)
          ∙ ap (λ b. b && not (holds l.value_count (relation_of l c) (tuple_on e (scope_of l c)))) off

  -- those that reject the tuple are those that are violated
  pub violated_marked : (mask at accepting : ℕ) → ones_of mask ≡ kept_relations live s → place_on l s e ≡ Some at → ((c : Choice) → is_accepting accepting c ≡ allows_at (scene_of l s) at c) →
      filter (λ c. beq (is_accepting accepting c) false) (choices_of mask false) ≡ violated_choices l live e s
  violated_marked mask at accepting is here each =
      ap (filter (λ c. beq (is_accepting accepting c) false)) (append-nil (map (λ r. Some r) (ones_of mask)) ∙ kept_marked live s mask is)
      ∙ picked (λ c. c.scope == s) (λ c. violates l c e) (λ c. beq (is_accepting accepting c) false) live there
    where
      covered : (covers e (scope_at l s) ≡ true) × (place l.value_count (tuple_on e (scope_at l s)) ≡ at)
      covered = cond_some (covers e (scope_at l s)) (place l.value_count (tuple_on e (scope_at l s))) at here

      there : (c : Candidate) → (c.scope == s) ≡ true → beq (is_accepting accepting (Some c.rel)) false ≡ violates l c e
      there c on =
          ap (λ b. beq b false) (each (Some c.rel)) ∙ beq-false (allows_at (scene_of l s) at (Some c.rel))
          ∙ (λ i. sym covered.0 i && not (get_or (get_or (relations_on l s) c.rel []) (sym covered.1 i) false))
          ∙ ap (λ k. covers e (scope_at l k) && not (holds l.value_count (get_or (relations_on l k) c.rel []) (tuple_on e (scope_at l k)))) (sym (eqb-true c.scope s on))

-- ---- none of the relations

some_none : (cs : List Choice) → list_any is_none cs ≡ true → Contains cs None
some_none [] h = cc
some_none (None ∷ cs) h = (0, omega arith, refl)
some_none (Some r ∷ cs) h = let there = some_none cs h in (suc there.0, (let low = there.1 in omega arith), there.2)

-- where it remains of some choices, it is among them
pub none_among : (cs : List Choice) → cs ≢ [] → remaining cs ≡ None → Contains cs None
none_among [] some none = absurd (some refl)
none_among (None ∷ cs) some none = (0, omega arith, refl)
none_among (Some r ∷ cs) some none = go (list_any is_none cs) refl none
  where
    go : (b : Bool) → list_any is_none cs ≡ b → cond b None (Some r) ≡ None → Contains (Some r ∷ cs) None
    go true on h = some_none (Some r ∷ cs) on
    go false off h = cc

not_among : (cs : List Candidate) → Contains (map (λ (c : Candidate). let x : Choice = Some c.rel in x) cs) None → ⊥
not_among [] (k, low, e) = omega arith
not_among (c ∷ cs) (zero, low, e) = cc
not_among (c ∷ cs) (suc k, low, e) = not_among cs (k, omega arith, e)

-- it isn't free where each choice is a relation
pub not_free : (l : Language) (s : ℕ) (cs : List Candidate) (next : RelNext) → LeavesChoices l s (map (λ (c : Candidate). Some c.rel) cs) next → next ≢ Free
not_free l s cs next settled is =
    let free : IsFree l s (map (λ (c : Candidate). Some c.rel) cs) = subst (LeavesChoices l s (map (λ (c : Candidate). Some c.rel) cs)) is settled in
    not_among cs free.among

-- where there are none, it stands at none
pub nothing_stands : (l : Language) (s : ℕ) (more : List Bool) → Got None ≡ choose (scene_of l s) [] more
nothing_stands l s more = sym (choose_ended (scene_of l s) [] (found_none (tuples l.value_count (length (scope_at l s)))) more)
  where
    found_none : (us : List (List ℕ)) → find (tells_apart (scene_of l s) []) us ≡ None
    found_none [] = refl
    found_none (u ∷ us) = found_none us
