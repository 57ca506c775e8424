-- What becomes of a set that is taken.
use Rattle.multi_tree.proofs.Prelude.{◌≡◌, ℕ, zero, suc, ◌+◌, ◌-◌, ◌<◌, ◌≤◌, Bool, true, false, cond, ◌&&◌, ◌||◌, List, [], ◌∷◌, ◌++◌, length, take, drop, set, get_or, Option, Some, None, refl, sym, ◌∙◌, ap, subst, arith, All, IfSome, IsTrue, map, option_map, list_any, filter, find, append-nil, length-drop, take-append-drop, map-append, take_all, take_more_set, and_parts, both_ways, or_parts, has, is_within, Assignment, restrict, Candidate, Language, IsLanguage, IsCandidate, scope_of, violates, AreStruck, beside_scope, item_within, Violated, Ended, Capped, Asks, Ends, violates_some, learned_within, parts_without, take_set, next_turn, violates_restrict}
use Rattle.std.proofs.lemmas.List.Elements.{All-head, All-tail, filter_more}
use Rattle.std.proofs.lemmas.List.Folds.{Any-from_list_any}
use Rattle.language.specs.Answers.{IsNetwork}
use Rattle.bias_store.specs.KeptSet.{is_struck_within}
use Rattle.session_laws.proofs.NetworkHalves.{none_within}

-- ---- the first that passes

pub find_first : {X : Type 0} (p : X → Bool) (xs : List X) (i : ℕ) (x : X) → i < length xs → list_any p (take i xs) ≡ false → get_or xs i x ≡ x → p x ≡ true → find p xs ≡ Some x
find_first p [] i x low none at on = absurd (omega arith)
find_first p (y ∷ xs) zero x low none at on = ap (λ z. cond (p z) (Some z) (find p xs)) at ∙ ap (λ b. cond b (Some x) (find p xs)) on
find_first p (y ∷ xs) (suc i) x low none at on =
    let parts = or_parts (p y) (list_any p (take i xs)) none in
    ap (λ b. cond b (Some y) (find p xs)) parts.0 ∙ find_first p xs i x (omega arith) parts.1 at on

-- of two lists, one behind the other
pub find_behind : {X : Type 0} (p : X → Bool) (xs ys : List X) → find p xs ≡ None → find p (xs ++ ys) ≡ find p ys
find_behind p [] ys none = refl
find_behind p (x ∷ xs) ys none = go (p x) none (find_behind p xs ys)
  where
    go : (b : Bool) → cond b (Some x) (find p xs) ≡ None → (find p xs ≡ None → find p (xs ++ ys) ≡ find p ys) → cond b (Some x) (find p (xs ++ ys)) ≡ find p ys
    go true none rest = absurd (let no : ⊥ = cc in no)
    go false none rest = rest none

pub find_before : {X : Type 0} (p : X → Bool) (xs ys : List X) (x : X) → find p xs ≡ Some x → find p (xs ++ ys) ≡ Some x
find_before p [] ys x some = absurd (let no : ⊥ = cc in no)
find_before p (y ∷ xs) ys x some = go (p y) some (find_before p xs ys x)
  where
    go : (b : Bool) → cond b (Some y) (find p xs) ≡ Some x → (find p xs ≡ Some x → find p (xs ++ ys) ≡ Some x) → cond b (Some y) (find p (xs ++ ys)) ≡ Some x
    go true some rest = some
    go false some rest = rest some

-- those that pass one test are listed, and then the other test is made
pub find_listed : {X : Type 0} (p q : X → Bool) (xs : List X) → find q (filter p xs) ≡ find (λ x. p x && q x) xs
find_listed p q [] = refl
find_listed p q (x ∷ xs) = go (p x) (find_listed p q xs)
  where
    go : (b : Bool) → find q (filter p xs) ≡ find (λ x. p x && q x) xs → find q (cond b (x ∷ filter p xs) (filter p xs)) ≡ cond (b && q x) (Some x) (find (λ x. p x && q x) xs)
    go true rest = ap (λ o. cond (q x) (Some x) o) rest
    go false rest = rest

-- the found one passes, and is in the list
pub find_passes : {X : Type 0} (P : X → Type 0) (p : X → Bool) (xs : List X) (x : X) → All P xs → find p xs ≡ Some x → P x × (p x ≡ true)
find_passes P p [] x all some = absurd (let no : ⊥ = cc in no)
find_passes P p (y ∷ xs) x all some = go (p y) refl some (find_passes P p xs x (All-tail P y xs all))
  where
    go : (b : Bool) → p y ≡ b → cond b (Some y) (find p xs) ≡ Some x → (find p xs ≡ Some x → P x × (p x ≡ true)) → P x × (p x ≡ true)
    go true on some rest = let same : y ≡ x = cc in subst (λ z. P z × (p z ≡ true)) same (All-head P y xs all, on)
    go false off some rest = rest some

-- one item more is looked at
module _ (l : Language) (p : Candidate → Bool) (xs : List Candidate) (places : List Violated) (i count : ℕ) (c : Candidate) where
  pub listed_more : (v : Violated) → i < length xs → count < length places → c ≡ get_or xs i c → v ≡ beside_scope l c → p c ≡ true →
      take count places ≡ map (beside_scope l) (filter p (take i xs)) → take (count + 1) (set places count v) ≡ map (beside_scope l) (filter p (take (i + 1) xs))
  listed_more v low room is beside on before =
      take_more_set places count v room
      ∙ (λ j. before j ++ beside j ∷ [])
      ∙ sym (map-append (beside_scope l) (filter p (take i xs)) (c ∷ []))
      ∙ ap (λ ys. map (beside_scope l) (filter p (take i xs) ++ ys)) ((λ j. is j ∷ []) ∙ sym (ap (λ b. cond b (get_or xs i c ∷ []) []) (ap p (sym is) ∙ on)))
      ∙ ap (map (beside_scope l)) (sym (filter_more p xs i c low))

  pub listed_still : i < length xs → c ≡ get_or xs i c → p c ≡ false →
      take count places ≡ map (beside_scope l) (filter p (take i xs)) → take count places ≡ map (beside_scope l) (filter p (take (i + 1) xs))
  listed_still low is off before =
      before ∙ ap (map (beside_scope l)) (
      sym (append-nil (filter p (take i xs))) ∙ ap (λ ys. filter p (take i xs) ++ ys) (sym (ap (λ b. cond b (get_or xs i c ∷ []) []) (ap p (sym is) ∙ off)))
      ∙ sym (filter_more p xs i c low))

-- the first one within a set, found by the variables that stand beside it
pub find_beside : (l : Language) (set : List ℕ) (xs : List Candidate) → item_within (map (beside_scope l) xs) set ≡ find (λ c. is_within (scope_of l c) set) xs
find_beside l set [] = refl
find_beside l set (x ∷ xs) = go (is_within (scope_of l x) set) (find_beside l set xs)
  where
    go : (b : Bool) → item_within (map (beside_scope l) xs) set ≡ find (λ c. is_within (scope_of l c) set) xs →
        option_map (λ v. v.item) (cond b (Some (beside_scope l x)) (find (λ v. is_within v.variables set) (map (beside_scope l) xs))) ≡ cond b (Some x) (find (λ c. is_within (scope_of l c) set) xs)
    go true rest = refl
    go false rest = rest

-- ---- a listed candidate within a set, or one behind those that were looked at

module _ (l : Language) (network : List Candidate) (e : Assignment) (set : List ℕ) where
  abbrev pub lies : Candidate → Bool
  lies c = is_within (scope_of l c) set

  abbrev pub bites : Candidate → Bool
  bites c = violates l c e

  found_at : (listed : List Violated) (n : ℕ) (o : Option Candidate) → listed ≡ map (beside_scope l) (filter bites (take n network)) → item_within listed set ≡ o → find (λ x. bites x && lies x) (take n network) ≡ o
  found_at listed n o is at = sym (find_listed bites lies (take n network)) ∙ sym (find_beside l set (filter bites (take n network))) ∙ ap (λ vs. item_within vs set) (sym is) ∙ at

  pub listed_found : (listed : List Violated) (n : ℕ) (c : Candidate) → listed ≡ map (beside_scope l) (filter bites (take n network)) → item_within listed set ≡ Some c → learned_within l network e set ≡ Some c
  listed_found listed n c is some =
      ap (find (λ x. bites x && lies x)) (sym (take-append-drop n network))
      ∙ find_before (λ x. bites x && lies x) (take n network) (drop n network) c (found_at listed n (Some c) is some)

  pub listed_none : (listed : List Violated) (n : ℕ) → listed ≡ map (beside_scope l) (filter bites (take n network)) → item_within listed set ≡ None → learned_within l (take (length network - n) (drop n network)) e set ≡ learned_within l network e set
  listed_none listed n is none = ap (find (λ x. bites x && lies x)) (take_all (length network - n) (drop n network) (let left = length-drop n network in omega arith)) ∙ sym (
      ap (find (λ x. bites x && lies x)) (sym (take-append-drop n network))
      ∙ find_behind (λ x. bites x && lies x) (take n network) (drop n network) (found_at listed n None is none))

  pub found_known : IsNetwork l network → (o : Option Candidate) → learned_within l network e set ≡ o → IfSome o (IsCandidate l)
  found_known known None h = tt
  found_known known (Some c) h = (find_passes (IsCandidate l) (λ x. bites x && lies x) network c known h).0

  pub found_within : IsNetwork l network → (o : Option Candidate) → learned_within l network e set ≡ o → IfSome o (λ c. IsTrue (is_within (scope_of l c) set))
  found_within known None h = tt
  found_within known (Some c) h = (and_parts (bites c) (lies c) (find_passes (IsCandidate l) (λ x. bites x && lies x) network c known h).1).1

-- ---- a kept candidate within a set

pub struck_is : (l : Language) (kept : List Candidate) (e : Assignment) (set : List ℕ) → is_struck_within l kept e set ≡ violates_some l kept (restrict e set)
struck_is l [] e set = refl
struck_is l (c ∷ kept) e set = λ i. sym (violates_restrict l c e set) i || struck_is l kept e set i

-- no set is listed, which says nothing
pub nothing_struck : (l : Language) (kept : List Candidate) (e : Assignment) → AreStruck l kept e [] false
nothing_struck l kept e = record { some = λ w any. absurd (both_ways _ refl any); all = λ never. absurd (both_ways _ refl never) }

-- where all are listed, and none within a set, none is struck there
pub none_struck : (l : Language) (kept : List Candidate) (e : Assignment) (sets : List (List ℕ)) (are_all : Bool) (set : List ℕ) → AreStruck l kept e sets are_all → are_all ≡ true → list_any (λ u. is_within u set) sets ≡ false → violates_some l kept (restrict e set) ≡ false
none_struck l kept e sets are_all set is whole never = sym (struck_is l kept e set) ∙ go (is_struck_within l kept e set) refl
  where
    go : (b : Bool) → is_struck_within l kept e set ≡ b → b ≡ false
    go false off = refl
    go true on = absurd (both_ways _ never (is.all whole set on))

-- ---- a turn

module _ (l : Language) (network kept : List Candidate) (e : Assignment) where
  pub none_waits : (left : ℕ) (waiting : List (List ℕ)) → waiting ≡ [] → Ends (Ended e) ≡ next_turn l network kept e left waiting
  unfolding next_turn
  none_waits zero [] h = refl
  none_waits (suc left) [] h = refl
  none_waits zero (set ∷ waiting) h = cc
  none_waits (suc left) (set ∷ waiting) h = cc

  pub cut_off : (left : ℕ) (waiting : List (List ℕ)) → left ≡ 0 → (waiting ≡ [] → ⊥) → Ends (Capped e) ≡ next_turn l network kept e left waiting
  unfolding next_turn
  cut_off zero [] h some = absurd (some refl)
  cut_off zero (set ∷ waiting) h some = refl
  cut_off (suc left) waiting h some = absurd (omega arith)

  pub splits : (left : ℕ) (set : List ℕ) (waiting : List (List ℕ)) (c : Candidate) → learned_within l network e set ≡ Some c →
      next_turn l network kept e (suc left) (set ∷ waiting) ≡ next_turn l network kept e left (parts_without set (scope_of l c) ++ waiting)
  unfolding next_turn
  splits left set waiting c found =
      ap (λ o. take_set l network kept e set o (λ parts. next_turn l network kept e left (parts ++ waiting)) (Asks set (record { example = e; waiting = waiting; left = left }))) found

  pub asks : (left : ℕ) (set : List ℕ) (waiting : List (List ℕ)) → learned_within l network e set ≡ None → violates_some l kept (restrict e set) ≡ true →
      next_turn l network kept e (suc left) (set ∷ waiting) ≡ Asks set (record { example = e; waiting = waiting; left = left })
  unfolding next_turn
  asks left set waiting none bites =
      ap (λ o. take_set l network kept e set o (λ parts. next_turn l network kept e left (parts ++ waiting)) (Asks set (record { example = e; waiting = waiting; left = left }))) none
      ∙ ap (λ b. elim b [
        | true ↦ Asks set (record { example = e; waiting = waiting; left = left })
        | false ↦ next_turn l network kept e left ([] ++ waiting)
      ]) bites

  pub drops : (left : ℕ) (set : List ℕ) (waiting : List (List ℕ)) → learned_within l network e set ≡ None → violates_some l kept (restrict e set) ≡ false →
      next_turn l network kept e (suc left) (set ∷ waiting) ≡ next_turn l network kept e left waiting
  unfolding next_turn
  drops left set waiting none quiet =
      ap (λ o. take_set l network kept e set o (λ parts. next_turn l network kept e left (parts ++ waiting)) (Asks set (record { example = e; waiting = waiting; left = left }))) none
      ∙ ap (λ b. elim b [
        | true ↦ Asks set (record { example = e; waiting = waiting; left = left })
        | false ↦ next_turn l network kept e left ([] ++ waiting)
      ]) quiet

  -- the set that was taken, and the number before
  pub taken : (left : ℕ) (set : List ℕ) (below waiting : List (List ℕ)) → 0 < left → waiting ≡ set ∷ below → next_turn l network kept e (suc (left - 1)) (set ∷ below) ≡ next_turn l network kept e left waiting
  taken left set below waiting some top =
      let one : suc (left - 1) ≡ left = omega arith in
      λ i. next_turn l network kept e (one i) (sym top i)

-- ---- what is asked about isn't empty

pub some_asked : (l : Language) → IsLanguage l → (kept : List Candidate) → IsNetwork l kept → (e : Assignment) (set : List ℕ) → violates_some l kept (restrict e set) ≡ true → 0 < length set
some_asked l lawful kept known e (v ∷ set) bites = omega arith
some_asked l lawful kept known e [] bites =
    let found = Any-from_list_any (λ c. violates l c (restrict e [])) kept bites in
    let is : IsCandidate l found.1 = subst (IsCandidate l) found.3 (known found.0 found.1 found.2) in
    absurd (none_within (scope_of l found.1) (lawful.scopes found.1.scope [] is.scope).not_empty
    (and_parts (is_within (scope_of l found.1) []) (violates l found.1 e) (sym (violates_restrict l found.1 e []) ∙ found.4)).0)
