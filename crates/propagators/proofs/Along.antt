-- A condition each of whose variables has one value, but for that at a place.
use Rattle.propagators.proofs.Prelude.{◌≡◌, ◌≢◌, ℕ, zero, suc, ◌+◌, ◌*◌, ◌<◌, ◌≤◌, Bool, true, false, not, ◌&&◌, ◌||◌, List, [], ◌∷◌, length, map, refl, sym, ◌∙◌, ap, subst, arith, inl, inr, ◌⊎◌, ◌==◌, cases_lt, cases_eq, ne_eqb, eq-eqb, and_from, and_parts, both_ways, slice_index_or, slice_set, set-get_or, get_or-set_same, get_or-set_other, length-map, length-set, All, fold, list_all, has, are_in, holds, TruthTable, Candidate, Language, relation_of, scope_of, ones_of, Family, Arc, arc_of, is_wanted, is_not_empty, sets_on, family_size, union, or_left, Option, IsLanguage, AreConstraints, arcs_of, RunsEmpty, IsLooked, IsWithin, IsThrough, AreSupported, AreAlong, IsFamilyOf, AreDifferent, IsRevised, IsDead, replaced, continues, HasOne, IsAlmostFixed, AreFixedBut, is_noted_in, AreEntailed, Entailed, Plan, ones_of-zero}
use Rattle.propagators.proofs.Cutting.{different_at}
use Rattle.propagators.proofs.Conditions.{tuple_in, arcs_small, arcs_within, arcs_different}
use Rattle.propagators.proofs.Fixed.{fixed_taken_in}
use Rattle.propagators.proofs.Rounds.{dead_here}
use Rattle.propagators.proofs.Beside.{beside_same}
use Rattle.propagators.proofs.Visiting.{looked_changed}
use Rattle.propagators.proofs.Replacing.{is_revised, is_dead, set_at, value_within, member_of_some}

-- ---- a tuple within sets

-- with another value of the set at a place it is within the sets still
with_at : (sets : List (List ℕ)) (tuple : List ℕ) (j x : ℕ) → IsWithin sets tuple → has (slice_index_or sets j []) x ≡ true → IsWithin sets (slice_set tuple j x)
with_at [] [] j x within there = within
with_at [] (y ∷ tuple) j x within there = absurd within
with_at (xs ∷ sets) [] j x within there = absurd within
with_at (xs ∷ sets) (y ∷ tuple) zero x within there = (there, within.1)
with_at (xs ∷ sets) (y ∷ tuple) (suc j) x within there = (within.0, with_at sets tuple j x within.1 there)

-- the sets have one member each, but for that at a place
abbrev AreOnes : List (List ℕ) → ℕ → Type 0
AreOnes sets place = (k : ℕ) → k < length sets → k ≢ place → HasOne (slice_index_or sets k [])

-- where each set has one member there is one tuple
same_all : (sets : List (List ℕ)) (t u : List ℕ) → ((k : ℕ) → k < length sets → HasOne (slice_index_or sets k [])) → IsWithin sets t → IsWithin sets u → u ≡ t
same_all [] [] [] ones in_t in_u = refl
same_all [] [] (y ∷ u) ones in_t in_u = absurd in_u
same_all [] (x ∷ t) u ones in_t in_u = absurd in_t
same_all (xs ∷ sets) [] u ones in_t in_u = absurd in_t
same_all (xs ∷ sets) (x ∷ t) [] ones in_t in_u = absurd in_u
same_all (xs ∷ sets) (x ∷ t) (y ∷ u) ones in_t in_u =
    let one = ones 0 (omega arith) in
    let here : y ≡ x = one.only.alone y in_u.0 ∙ sym (one.only.alone x in_t.0) in
    let rest = same_all sets t u (λ k low. ones (suc k) (omega arith)) in_t.1 in_u.1 in
    λ i. here i ∷ rest i

-- two tuples differ at the place alone
same_but : (sets : List (List ℕ)) (t u : List ℕ) (place : ℕ) → AreOnes sets place → place < length sets → IsWithin sets t → IsWithin sets u → u ≡ slice_set t place (slice_index_or u place 0)
same_but [] t u place ones low in_t in_u = absurd (omega arith)
same_but (xs ∷ sets) [] u place ones low in_t in_u = absurd in_t
same_but (xs ∷ sets) (x ∷ t) [] place ones low in_t in_u = absurd in_u
same_but (xs ∷ sets) (x ∷ t) (y ∷ u) zero ones low in_t in_u = ap (λ (w : List ℕ). y ∷ w) (same_all sets t u (λ k under. ones (suc k) (omega arith) (λ e. omega arith)) in_t.1 in_u.1)
same_but (xs ∷ sets) (x ∷ t) (y ∷ u) (suc place) ones low in_t in_u =
    let one = ones 0 (omega arith) (λ e. omega arith) in
    let here : y ≡ x = one.only.alone y in_u.0 ∙ sym (one.only.alone x in_t.0) in
    let rest = same_but sets t u place (λ k under other. ones (suc k) (omega arith) (λ e. other (omega arith))) (omega arith) in_t.1 in_u.1 in
    λ i. here i ∷ rest i

long_within : (sets : List (List ℕ)) (t : List ℕ) → IsWithin sets t → length t ≡ length sets
long_within [] [] within = refl
long_within [] (x ∷ t) within = absurd within
long_within (xs ∷ sets) [] within = absurd within
long_within (xs ∷ sets) (x ∷ t) within = ap suc (long_within sets t within.1)

past_end : (sets : List (List ℕ)) (k x : ℕ) → has (slice_index_or sets k []) x ≡ true → k < length sets
past_end [] k x h = cc
past_end (xs ∷ sets) zero x h = omega arith
past_end (xs ∷ sets) (suc k) x h = (let less = past_end sets k x h in omega arith)

-- ---- what goes along

module _ (sets : List (List ℕ)) (accepted : List ℕ → Bool) (place : ℕ) (found : List ℕ) (low : place < length sets) (ones : AreOnes sets place) (is : AreAlong sets accepted place found) where
  -- of an accepted tuple the value at the place is found
  along_all : (tuple : List ℕ) → IsWithin sets tuple → accepted tuple ≡ true → has found (slice_index_or tuple place 0) ≡ true
  along_all tuple within at =
      is.goes (slice_index_or tuple place 0) ∙ and_from _ _ (value_within sets tuple place within low) (ap accepted (sym (same_but sets is.others tuple place ones low is.within within)) ∙ at)

  along_within : (tuple : List ℕ) → IsWithin sets tuple → has found (slice_index_or tuple place 0) ≡ true → IsWithin (slice_set sets place found) tuple
  along_within tuple within there = go sets tuple place low within there
    where
      go : (sets : List (List ℕ)) (tuple : List ℕ) (place : ℕ) → place < length sets → IsWithin sets tuple → has found (slice_index_or tuple place 0) ≡ true → IsWithin (slice_set sets place found) tuple
      go [] tuple place low within there = absurd (omega arith)
      go (xs ∷ sets) [] place low within there = absurd within
      go (xs ∷ sets) (x ∷ tuple) zero low within there = (there, within.1)
      go (xs ∷ sets) (x ∷ tuple) (suc place) low within there = (within.0, go sets tuple place (omega arith) within.1 there)

  -- through a value that is found goes an accepted tuple
  pub along_tuple : (x : ℕ) → has found x ≡ true → IsThrough sets accepted place x
  along_tuple x there =
      let parts = and_parts (has (slice_index_or sets place []) x) (accepted (slice_set is.others place x)) (sym (is.goes x) ∙ there) in
      record {
        tuple = slice_set is.others place x;
        within = with_at sets is.others place x is.within parts.0;
        at = get_or-set_same is.others place x 0 (let long = long_within sets is.others is.within in omega arith);
        is = parts.1;
      }

  pub along_supported : (z : ℕ) → has found z ≡ true → AreSupported sets accepted (slice_set sets place found)
  along_supported z some = record { all = λ tuple within at. along_within tuple within (along_all tuple within at); only = λ k x h. only k x h (cases_eq k place) }
    where
      only : (k x : ℕ) → has (slice_index_or (slice_set sets place found) k []) x ≡ true → (k ≡ place) ⊎ (k ≢ place) → IsThrough sets accepted k x
      only k x h (inl same) =
          subst (λ (j : ℕ). IsThrough sets accepted j x) (sym same)
          (along_tuple x (ap (λ xs. has xs x) (sym (ap (λ j. slice_index_or (slice_set sets place found) j []) same ∙ get_or-set_same sets place found [] low)) ∙ h))
      only k x h (inr other) =
          let here : has (slice_index_or sets k []) x ≡ true = ap (λ xs. has xs x) (sym (get_or-set_other sets place k found [] other)) ∙ h in
          let under = past_end sets k x here in
          let one = ones k under other in
          let t = along_tuple z some in
          record { tuple = t.tuple; within = t.within; at = one.only.alone _ (value_within sets t.tuple k t.within under) ∙ sym (one.only.alone x here); is = t.is }

  pub along_never : is_not_empty found ≡ false → (tuple : List ℕ) → IsWithin sets tuple → accepted tuple ≡ true → ⊥
  along_never none tuple within at = lacks found (slice_index_or tuple place 0) none (along_all tuple within at)
    where
      lacks : (xs : List ℕ) (x : ℕ) → is_not_empty xs ≡ false → has xs x ≡ true → ⊥
      lacks [] x none h = both_ways _ refl h
      lacks (y ∷ xs) x none h = cc

abbrev no_sets : List (List ℕ) → List (List ℕ)
no_sets sets = map (λ (xs : List ℕ). []) sets

first_none : (sets : List (List ℕ)) → slice_index_or (no_sets sets) 0 [] ≡ []
first_none [] = refl
first_none (xs ∷ sets) = refl

-- where no tuple is accepted nothing is supported
none_supported : (sets : List (List ℕ)) (accepted : List ℕ → Bool) → ((tuple : List ℕ) → IsWithin sets tuple → accepted tuple ≡ true → ⊥) → AreSupported sets accepted (no_sets sets)
none_supported sets accepted never = record { all = λ tuple within at. absurd (never tuple within at); only = λ k x h. absurd (both_ways _ (nothing sets k x) h) }
  where
    nothing : (sets : List (List ℕ)) (k x : ℕ) → has (slice_index_or (no_sets sets) k []) x ≡ false
    nothing [] k x = refl
    nothing (xs ∷ sets) zero x = refl
    nothing (xs ∷ sets) (suc k) x = nothing sets k x

-- ---- a family

sets_beside : (scope : List ℕ) (f : Family) (v : ℕ) (xs : List ℕ) → has scope v ≡ false → sets_on (slice_set f v xs) scope ≡ sets_on f scope
sets_beside [] f v xs lacking = refl
sets_beside (u ∷ scope) f v xs lacking =
    let parts = no_or (u == v) (has scope v) lacking in
    let here : slice_index_or (slice_set f v xs) u [] ≡ slice_index_or f u [] = get_or-set_other f v u xs [] (λ e. both_ways _ parts.0 (eq-eqb u v e)) in
    let rest = sets_beside scope f v xs parts.1 in
    λ i. here i ∷ rest i
  where
    no_or : (a b : Bool) → (a || b) ≡ false → (a ≡ false) × (b ≡ false)
    no_or true b h = cc
    no_or false b h = (refl, h)

replaced_same : (scope : List ℕ) (f : Family) → replaced scope (sets_on f scope) f ≡ f
replaced_same [] f = refl
replaced_same (v ∷ scope) f = ap (replaced scope (sets_on f scope)) (set-get_or f v []) ∙ replaced_same scope f

-- one set is replaced
replaced_one : (scope : List ℕ) (f : Family) (place : ℕ) (xs : List ℕ) → AreDifferent scope → place < length scope → replaced scope (slice_set (sets_on f scope) place xs) f ≡ slice_set f (slice_index_or scope place 0) xs
replaced_one [] f place xs different low = absurd (omega arith)
replaced_one (v ∷ scope) f zero xs different low =
    ap (λ (s : List (List ℕ)). replaced scope s (slice_set f v xs)) (sym (sets_beside scope f v xs different.0)) ∙ replaced_same scope (slice_set f v xs)
replaced_one (v ∷ scope) f (suc place) xs different low =
    ap (replaced scope (slice_set (sets_on f scope) place xs)) (set-get_or f v []) ∙ replaced_one scope f place xs different.1 (omega arith)

module _ (a : Arc) (f : Family) (place : ℕ) (found : List ℕ) (different : AreDifferent a.scope) (known : All (λ v. v < length f) a.scope) (low : place < length a.scope) (fixed : AreFixedBut f a.scope place) (is : AreAlong (sets_on f a.scope) a.accepted place found) where
  sets_long : length (sets_on f a.scope) ≡ length a.scope
  sets_long = length-map a.scope (λ v. slice_index_or f v [])

  ones : AreOnes (sets_on f a.scope) place
  ones k under other = subst HasOne (sym (set_at f a.scope k (omega (arith, sets_long)))) (fixed k (omega (arith, sets_long)) other)

  under : place < length (sets_on f a.scope)
  under = omega (arith, sets_long)

  pub along_revised : is_not_empty found ≡ true → (g : Family) → g ≡ slice_set f (slice_index_or a.scope place 0) found → IsRevised a f g
  along_revised some g to =
      let one = member_of_some found some in
      let supported = along_supported (sets_on f a.scope) a.accepted place found under ones is one.0 one.1 in
      let t = along_tuple (sets_on f a.scope) a.accepted place found under ones is one.0 one.1 in
      let long : length (slice_set (sets_on f a.scope) place found) ≡ length a.scope = length-set (sets_on f a.scope) place found ∙ sets_long in
      subst (IsRevised a f) (replaced_one a.scope f place found different low ∙ sym to)
      (is_revised a f (slice_set (sets_on f a.scope) place found) different long known supported (slice_index_or t.tuple 0 0)
      (value_within (slice_set (sets_on f a.scope) place found) t.tuple 0 (supported.all t.tuple t.within t.is) (omega arith)))

  pub along_dead : is_not_empty found ≡ false → IsDead a f
  along_dead none =
      let long : length (no_sets (sets_on f a.scope)) ≡ length a.scope = length-map (sets_on f a.scope) (λ (xs : List ℕ). []) ∙ sets_long in
      is_dead a f (no_sets (sets_on f a.scope)) different long known
      (none_supported (sets_on f a.scope) a.accepted (along_never (sets_on f a.scope) a.accepted place found under ones is none)) (omega arith) (first_none (sets_on f a.scope))

  -- what is found was there
  pub along_part : (x : ℕ) → has found x ≡ true → has (slice_index_or f (slice_index_or a.scope place 0) []) x ≡ true
  along_part x there = ap (λ xs. has xs x) (sym (set_at f a.scope place low)) ∙ (and_parts _ _ (sym (is.goes x) ∙ there)).0

  -- the others have the same values
  pub still_fixed : (g : Family) → g ≡ slice_set f (slice_index_or a.scope place 0) found → IsAlmostFixed g a.scope
  still_fixed g to = record {
    place = place;
    low = low;
    others = λ j below other.
        subst HasOne (sym (ap (λ (h : Family). slice_index_or h (slice_index_or a.scope j 0) []) to ∙ get_or-set_other f (slice_index_or a.scope place 0) (slice_index_or a.scope j 0) found [] (apart j below other (cases_lt j place)))) (fixed j below other);
  }
    where
      apart : (j : ℕ) → j < length a.scope → j ≢ place → (j < place) ⊎ (place ≤ j) → slice_index_or a.scope j 0 ≢ slice_index_or a.scope place 0
      apart j below other (inl less) = λ e. different_at a.scope j place different less low (sym e)
      apart j below other (inr more) = different_at a.scope place j different (strict j place other more) below
        where
          strict : (j place : ℕ) → j ≢ place → place ≤ j → place < j
          strict j place other more = go (cases_lt place j)
            where
              go : (place < j) ⊎ (j ≤ place) → place < j
              go (inl less) = less
              go (inr equal) = absurd (other (omega arith))

-- it is taken in
pub along_taken_in : (arcs : List Arc) (p : Plan) (e more : Entailed) (i : ℕ) (a : Arc) (f g : Family) (place : ℕ) (found : List ℕ) → ((b : Arc) → slice_index_or arcs i b ≡ a) → AreDifferent a.scope → All (λ v. v < length f) a.scope → place < length a.scope → AreFixedBut f a.scope place →
    AreAlong (sets_on f a.scope) a.accepted place found → is_not_empty found ≡ true → g ≡ slice_set f (slice_index_or a.scope place 0) found → ((k : ℕ) → is_noted_in more k ≡ true → (is_noted_in e k ≡ true) ⊎ (k ≡ i)) → more.struck ≡ e.struck → AreEntailed arcs p e f → AreEntailed arcs p more g
along_taken_in arcs p e more i a f g place found at different known low fixed is some to noted same are =
    fixed_taken_in arcs p e more i a f g at known (along_revised a f place found different known low fixed is some g to) (λ k there. go k (noted k there)) same are
  where
    go : (k : ℕ) → (is_noted_in e k ≡ true) ⊎ (k ≡ i) → (is_noted_in e k ≡ true) ⊎ ((k ≡ i) × IsAlmostFixed g a.scope)
    go k (inl old) = inl old
    go k (inr new) = inr (new, still_fixed a f place found different known low fixed is g to)

-- ---- a candidate's table

module _ (l : Language) (c : Candidate) (holding : Bool) (table : TruthTable) (f : Family) (scope found : List ℕ) (at : scope ≡ scope_of l c) where
  -- what goes along by the table goes along by the condition
  pub along_here : (place : ℕ) → table.value_count ≡ l.value_count →
      ((tuple : List ℕ) → length tuple ≡ length (scope_of l c) → are_in l.ranges (scope_of l c) tuple ≡ true → holds l.value_count table.truth tuple ≡ holds l.value_count (relation_of l c) tuple) → IsFamilyOf l f →
      AreAlong (sets_on f scope) (continues table holding 0) place found → AreAlong (sets_on f (scope_of l c)) (arc_of l c holding).accepted place found
  along_here place values agrees family is =
      change (subst (λ (s : List ℕ). AreAlong (sets_on f s) (continues table holding 0) place found) at is)
    where
      accepts_as : (tuple : List ℕ) → IsWithin (sets_on f (scope_of l c)) tuple → continues table holding 0 tuple ≡ (arc_of l c holding).accepted tuple
      accepts_as tuple within =
          let there = tuple_in l f family.within (scope_of l c) tuple within in
          ap (λ d. is_wanted holding (slice_index_or table.truth (fold (λ at x. at * d + x) 0 tuple) false)) values ∙ ap (is_wanted holding) (agrees tuple there.0 there.1)

      change : AreAlong (sets_on f (scope_of l c)) (continues table holding 0) place found → AreAlong (sets_on f (scope_of l c)) (arc_of l c holding).accepted place found
      change is = record { others = is.others; within = is.within; goes = λ x. go x (has (slice_index_or (sets_on f (scope_of l c)) place []) x) refl }
        where
          go : (x : ℕ) (b : Bool) → has (slice_index_or (sets_on f (scope_of l c)) place []) x ≡ b → has found x ≡ (has (slice_index_or (sets_on f (scope_of l c)) place []) x && (arc_of l c holding).accepted (slice_set is.others place x))
          go x true e = is.goes x ∙ ap (λ q. has (slice_index_or (sets_on f (scope_of l c)) place []) x && q) (accepts_as (slice_set is.others place x) (with_at (sets_on f (scope_of l c)) is.others place x is.within e))
          go x false e = is.goes x ∙ ap (λ q. q && continues table holding 0 (slice_set is.others place x)) e ∙ ap (λ q. q && (arc_of l c holding).accepted (slice_set is.others place x)) (sym e)

-- ---- a look

none : Arc
none = record { scope = []; accepted = λ tuple. true }

module _ (l : Language) (list : List Candidate) (against : Option Candidate) (lawful : IsLanguage l) (constraints : AreConstraints l list against) (i : ℕ) (low : i < length (arcs_of l list against)) (c : Candidate) (holding : Bool) (at : (a : Arc) → slice_index_or (arcs_of l list against) i a ≡ arc_of l c holding) (f : Family) (family : IsFamilyOf l f) (full : list_all is_not_empty f ≡ true) (place : ℕ) (under : place < length (scope_of l c)) (fixed : AreFixedBut f (scope_of l c) place) (found : List ℕ) (is : AreAlong (sets_on f (scope_of l c)) (arc_of l c holding).accepted place found) where
  different : AreDifferent (scope_of l c)
  different = subst (λ (a : Arc). AreDifferent a.scope) (at none) (arcs_different l list against lawful constraints i none low)

  known : All (λ v. v < length f) (scope_of l c)
  known = subst (λ (a : Arc). All (λ v. v < length f) a.scope) (at none) (arcs_within l list against lawful constraints f family i none low)

  pub look_dead : is_not_empty found ≡ false → RunsEmpty (arcs_of l list against) f
  look_dead empty = dead_here (arcs_of l list against) f i none low (subst (λ (a : Arc). IsDead a f) (sym (at none)) (along_dead (arc_of l c holding) f place found different known under fixed is empty))

  module _ (some : is_not_empty found ≡ true) (g : Family) (to : g ≡ slice_set f (slice_index_or (scope_of l c) place 0) found) where
    revised : (a : Arc) → IsRevised (slice_index_or (arcs_of l list against) i a) f g
    revised a = subst (λ (b : Arc). IsRevised b f g) (sym (at a)) (along_revised (arc_of l c holding) f place found different known under fixed is some g to)

    pub look_same : (waiting : List ℕ) → g ≡ f → IsLooked (arcs_of l list against) i waiting waiting f g
    look_same waiting same = beside_same (arcs_of l list against) i waiting f g (arcs_small l list against lawful constraints) low full revised same

    pub look_fewer : (waiting : List ℕ) → family_size g < family_size f → IsLooked (arcs_of l list against) i waiting (union waiting (slice_index_or (scope_of l c) place 0 ∷ [])) f g
    look_fewer waiting less = looked_changed (arcs_of l list against) i waiting (slice_index_or (scope_of l c) place 0 ∷ []) f g (arcs_small l list against lawful constraints) low full revised (record {
      differ = λ u few no. ap (λ (h : Family). slice_index_or h u []) to ∙ get_or-set_other f (slice_index_or (scope_of l c) place 0) u found [] (λ e. both_ways _ no (or_left _ _ (eq-eqb (slice_index_or (scope_of l c) place 0) u (sym e))));
      fewer = inr less;
    }) (λ e. omega arith)

    pub look_entailed : (p : Plan) (e more : Entailed) → ((k : ℕ) → is_noted_in more k ≡ true → (is_noted_in e k ≡ true) ⊎ (k ≡ i)) → more.struck ≡ e.struck → AreEntailed (arcs_of l list against) p e f → AreEntailed (arcs_of l list against) p more g
    look_entailed p e more noted same are = along_taken_in (arcs_of l list against) p e more i (arc_of l c holding) f g place found at different known under fixed is some to noted same are

-- ---- the values of a set, one after another

-- one value more: it is found where it is right
pub along_next : (set rest later found next : List ℕ) (right : ℕ → Bool) (x : ℕ) → has rest x ≡ true → ((y : ℕ) → has rest y ≡ true → has set y ≡ true) → ((y : ℕ) → has later y ≡ (has rest y && not (x == y))) →
    ((y : ℕ) → has next y ≡ (has found y || (right x && (x == y)))) → ((y : ℕ) → has found y ≡ (has set y && (not (has rest y) && right y))) → (y : ℕ) → has next y ≡ (has set y && (not (has later y) && right y))
along_next set rest later found next right x there part less grows old y = go (cases_eq x y)
  where
    go : (x ≡ y) ⊎ (x ≢ y) → has next y ≡ (has set y && (not (has later y) && right y))
    go (inl same) = subst (λ (z : ℕ). has next z ≡ (has set z && (not (has later z) && right z))) same (here (right x) refl)
      where
        x_x : (x == x) ≡ true
        x_x = eq-eqb x x refl

        gone : has later x ≡ false
        gone = less x ∙ (λ i. there i && not (x_x i))

        new : has found x ≡ false
        new = old x ∙ (λ i. part x there i && (not (there i) && right x))

        here : (b : Bool) → right x ≡ b → has next x ≡ (has set x && (not (has later x) && right x))
        here b e = grows x ∙ (λ i. new i || (right x && x_x i)) ∙ turn (right x) ∙ sym (λ i. part x there i && (not (gone i) && right x))
          where
            turn : (b : Bool) → (false || (b && true)) ≡ (true && (not false && b))
            turn true = refl
            turn false = refl
    go (inr other) =
        let x_y = ne_eqb x y other in
        let kept : has later y ≡ has rest y = less y ∙ (λ i. has rest y && not (x_y i)) ∙ keep (has rest y) in
        grows y ∙ (λ i. has found y || (right x && x_y i)) ∙ drop_it (has found y) (right x) ∙ old y ∙ ap (λ b. has set y && (not b && right y)) (sym kept)
      where
        keep : (b : Bool) → (b && not false) ≡ b
        keep true = refl
        keep false = refl

        drop_it : (a b : Bool) → (a || (b && false)) ≡ a
        drop_it true b = refl
        drop_it false true = refl
        drop_it false false = refl

-- none was gone through
pub none_gone : (s q : Bool) (y : ℕ) → has (ones_of 0) y ≡ (s && (not s && q))
none_gone s q y = ap (λ xs. has xs y) ones_of-zero ∙ go s
  where
    go : (s : Bool) → false ≡ (s && (not s && q))
    go true = refl
    go false = refl
