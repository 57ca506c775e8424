-- Looking at what says that a variable differs from others, neighbour by neighbour.
use Rattle.propagators.proofs.Prelude.{◌≡◌, ℕ, eqb-true, ◌||◌, ◌+◌, ◌-◌, ◌*◌, ◌/◌, ◌%◌, ◌<◌, ◌≤◌, Bool, true, false, ◌&&◌, not, List, [], ◌∷◌, Option, Some, None, IfSome, IsSome, length, refl, sym, ◌∙◌, ap, subst, arith, inl, inr, ◌⊎◌, ◌==◌, ◌≢◌, slice_index_or, list_any, list_all, both_ways, cases_eq, cases_lt, ne_eqb, div-mul-add, mod-mul-add, or_left, or_right, eq-eqb, has, ones_of, bit_at, Family, Arc, is_consistent, is_not_empty, is_wanted, IsBriefOf, IsEntailed, AreEntailed, Entailed, is_noted_in, is_among_struck, IsUnderway, AreLeft, IsLooked, AreLooked, IsApart, IsApartAt, AreBothOf, IsParted, is_with, Brief, Pair, Plan, Language, ones_of-zero, has-ones_of, blank}
use Rattle.propagators.specs.Propagated.{IsWholePlanOf}
use Rattle.propagators.specs.declared.briefs.Brief.TheVariants.{Two, Apart, Other}
use Rattle.propagators.proofs.Entailing.{entailed_less, entailed_now}
use Rattle.propagators.proofs.Rounds.{underway_begin, underway_more}
use Rattle.propagators.proofs.Striking.{apart_at}
use Rattle.propagators.proofs.Visiting.{IsGone, left_more, same_item}

pub if_some : {A : Type 0} (x : Option A) (P : A → Type 0) → ((y : A) → P y) → IfSome x P
if_some None P all = tt
if_some (Some y) P all = all y

pub if_some_more : {A : Type 0} (x : Option A) (P Q : A → Type 0) → ((y : A) → P y → Q y) → IfSome x P → IfSome x Q
if_some_more None P Q more is = tt
if_some_more (Some y) P Q more is = more y is

-- f is from after looks at what says that v differs from some others, those that are done
pub record IsParting (arcs : List Arc) (p : Plan) (v : ℕ) (begun : List ℕ) (from : Family) (value : Option ℕ) (done : ℕ → Type 0) (waiting : List ℕ) (f : Family) : Type 0 where
  pub underway : IsUnderway arcs from f
  pub left : AreLeft begun waiting from f
  pub before : (k : ℕ) (a : Arc) → k < length arcs → list_any (has waiting) (slice_index_or arcs k a).scope ≡ false → list_any (has begun) (slice_index_or arcs k a).scope ≡ false
  pub stays : (k : ℕ) (a : Arc) → k < length arcs → list_any (has waiting) (slice_index_or arcs k a).scope ≡ false →
      is_consistent from (slice_index_or arcs k a).scope (slice_index_or arcs k a).accepted ≡ true → is_consistent f (slice_index_or arcs k a).scope (slice_index_or arcs k a).accepted ≡ true
  pub here : (k : ℕ) (a : Arc) (u : ℕ) → k < length arcs → ((b : Brief) → IsApartAt (slice_index_or p.briefs.items k b) v u) → done u → list_any (has waiting) (slice_index_or arcs k a).scope ≡ false →
      is_consistent f (slice_index_or arcs k a).scope (slice_index_or arcs k a).accepted ≡ true
  pub known : IfSome value (λ x. (k : ℕ) (a : Arc) (u : ℕ) → k < length arcs → ((b : Brief) → IsApartAt (slice_index_or p.briefs.items k b) v u) → done u → IsEntailed (slice_index_or arcs k a) f)

-- the words before h are done
abbrev pub IsPast : ℕ → ℕ → Type 0
IsPast h u = u < h * 64

-- and word h, but for what is left of it
abbrev pub IsPastBut : ℕ → ℕ → ℕ → Type 0
IsPastBut h rest u = IsPast h u ⊎ IsGone h rest u

pub part_begin : (arcs : List Arc) (p : Plan) (v : ℕ) (waiting : List ℕ) (f : Family) (value : Option ℕ) → list_all is_not_empty f ≡ true → IsParting arcs p v waiting f value (IsPast 0) waiting f
part_begin arcs p v waiting f value full = record {
  underway = underway_begin arcs f full;
  left = inl (refl, refl);
  before = λ k a low h. h;
  stays = λ k a low h ok. ok;
  here = λ k a u low at done. absurd (omega arith);
  known = if_some value _ (λ x k a u low at done. absurd (omega arith));
}

-- the variables of a condition that two differ are those of its scope
module _ (l : Language) (arcs : List Arc) (p : Plan) (whole : IsWholePlanOf l arcs p) (k : ℕ) (low : k < length arcs) where
  room : k < length p.briefs.items
  room = (let long = whole.room in omega arith)

  scope_of_apart : (a : Arc) (q : Pair) → slice_index_or p.briefs.items k blank ≡ Apart q → (slice_index_or arcs k a).scope ≡ q.first ∷ q.second ∷ []
  scope_of_apart a q e = (subst (IsBriefOf l (slice_index_or arcs k a)) e (whole.plan.briefs k a blank room low)).pair.scope

  pub second_there : (a : Arc) (v u : ℕ) → ((b : Brief) → IsApartAt (slice_index_or p.briefs.items k b) v u) → has (slice_index_or arcs k a).scope u ≡ true
  second_there a v u at = ap (λ (xs : List ℕ). has xs u) (scope_of_apart a found.0 found.1) ∙ go found.2
    where
      found : (q : Pair) × (slice_index_or p.briefs.items k blank ≡ Apart q) × AreBothOf q v u
      found = apart_at (slice_index_or p.briefs.items k blank) v u (at blank)

      go : AreBothOf found.0 v u → has (found.0.first ∷ found.0.second ∷ []) u ≡ true
      go (inl e) = or_right _ _ (or_left _ _ (eq-eqb found.0.second u (sym e.1)))
      go (inr e) = or_left _ _ (eq-eqb found.0.first u (sym e.1))

  -- which one it is beside v
  pub second_of : (a : Arc) (v : ℕ) → has (slice_index_or arcs k a).scope v ≡ true → ((b : Brief) → IsApart (slice_index_or p.briefs.items k b)) → (u : ℕ) × (has (slice_index_or arcs k a).scope u ≡ true) × ((b : Brief) → IsApartAt (slice_index_or p.briefs.items k b) v u)
  second_of a v there apart = go (slice_index_or p.briefs.items k blank) refl (apart blank)
    where
      go : (b : Brief) → slice_index_or p.briefs.items k blank ≡ b → IsApart b → (u : ℕ) × (has (slice_index_or arcs k a).scope u ≡ true) × ((b : Brief) → IsApartAt (slice_index_or p.briefs.items k b) v u)
      go (Two q) e h = absurd h
      go (Other o) e h = absurd h
      go (Apart q) e h = pick (cases_eq v q.first)
        where
          scope : (slice_index_or arcs k a).scope ≡ q.first ∷ q.second ∷ []
          scope = scope_of_apart a q e

          with_ends : (u : ℕ) → AreBothOf q v u → (b : Brief) → IsApartAt (slice_index_or p.briefs.items k b) v u
          with_ends u ends b = subst (λ (c : Brief). IsApartAt c v u) (sym (same_item p.briefs.items k b blank room ∙ e)) ends

          second : v ≢ q.first → (b : Bool) → (q.second == v) ≡ b → v ≡ q.second
          second other true e = sym (eqb-true q.second v e)
          second other false e = absurd (both_ways _ (ap (λ (xs : List ℕ). has xs v) scope ∙ ap (λ (c : Bool). c || ((q.second == v) || false)) (ne_eqb q.first v (λ same. other (sym same))) ∙ ap (λ (c : Bool). c || false) e) there)

          pick : (v ≡ q.first) ⊎ (v ≢ q.first) → (u : ℕ) × (has (slice_index_or arcs k a).scope u ≡ true) × ((b : Brief) → IsApartAt (slice_index_or p.briefs.items k b) v u)
          pick (inl first) = (q.second, ap (λ (xs : List ℕ). has xs q.second) scope ∙ or_right _ _ (or_left _ _ (eq-eqb q.second q.second refl)), with_ends q.second (inl (first, refl)))
          pick (inr other) = (q.first, ap (λ (xs : List ℕ). has xs q.first) scope ∙ or_left _ _ (eq-eqb q.first q.first refl), with_ends q.first (inr (second other (q.second == v) refl, refl)))

-- a neighbour by its place in its word
pub with_word : (aparts : List ℕ) (v h b beside rest : ℕ) → b < 64 → beside ≡ slice_index_or aparts (h * 128 + v) 0 → has (ones_of rest) b ≡ true → ((y : ℕ) → has (ones_of rest) y ≡ true → has (ones_of beside) y ≡ true) → is_with aparts v (h * 64 + b) ≡ true
with_word aparts v h b beside rest small is there among =
    ap (λ j. has (ones_of (slice_index_or aparts (j * 128 + v) 0)) ((h * 64 + b) % 64)) (div-mul-add h 64 b small) ∙ ap (λ j. has (ones_of (slice_index_or aparts (h * 128 + v) 0)) j) (mod-mul-add h 64 b small) ∙ ap (λ (m : ℕ). has (ones_of m) b) (sym is) ∙ among b there

-- those of word h that aren't to be looked at aren't beside v, or are struck
pub part_word : (l : Language) (arcs : List Arc) (p : Plan) (whole : IsWholePlanOf l arcs p) (v h : ℕ) (begun : List ℕ) (from : Family) (value : Option ℕ) (waiting : List ℕ) (f : Family) (beside struck rest : ℕ) (e : Entailed) →
    beside ≡ slice_index_or p.aparts.items (h * 128 + v) 0 → struck ≡ slice_index_or e.struck h 0 → ((y : ℕ) → has (ones_of rest) y ≡ (has (ones_of beside) y && is_wanted false (bit_at struck y == 1))) → AreEntailed arcs p e from →
    IsParting arcs p v begun from value (IsPast h) waiting f → IsParting arcs p v begun from value (IsPastBut h rest) waiting f
part_word l arcs p whole v h begun from value waiting f beside struck rest e beside_is struck_is goes are is = record {
  underway = is.underway;
  left = is.left;
  before = is.before;
  stays = is.stays;
  here = λ k a u low at done untouched. here k a u low at done untouched;
  known = if_some_more value _ _ (λ x old k a u low at done. known k a u low at done (λ past. old k a u low at past)) is.known;
}
  where
    taken_out : (q r : Bool) → q ≡ true → (q && not r) ≡ false → r ≡ true
    taken_out true true e n = refl
    taken_out true false e n = cc
    taken_out false r e n = cc

    entailed : (k : ℕ) (a : Arc) (u : ℕ) → k < length arcs → ((b : Brief) → IsApartAt (slice_index_or p.briefs.items k b) v u) → IsGone h rest u → IsEntailed (slice_index_or arcs k a) f
    entailed k a u low at gone = entailed_less (slice_index_or arcs k a) from f is.underway.within is.underway.size (are.struck k u a blank low (room l arcs p whole k low) struck_there (second_there l arcs p whole k low a v u at) apart)
      where
        row : u / 64 ≡ h
        row = ap (λ j. j / 64) gone.2 ∙ div-mul-add h 64 gone.0 gone.1

        bit : u % 64 ≡ gone.0
        bit = ap (λ j. j % 64) gone.2 ∙ mod-mul-add h 64 gone.0 gone.1

        with_v : is_with p.aparts.items v u ≡ true
        with_v = parted_at (slice_index_or p.briefs.items k blank) (at blank) (whole.plan.parted k blank (room l arcs p whole k low) low)
          where
            parted_at : (b : Brief) → IsApartAt b v u → IsParted p.aparts.items b → is_with p.aparts.items v u ≡ true
            parted_at (Two q) h parted = absurd h
            parted_at (Apart q) (inl e) parted = ap (λ w. is_with p.aparts.items w u) e.0 ∙ ap (λ w. is_with p.aparts.items q.first w) e.1 ∙ parted.0
            parted_at (Apart q) (inr e) parted = ap (λ w. is_with p.aparts.items w u) e.0 ∙ ap (λ w. is_with p.aparts.items q.second w) e.1 ∙ parted.1
            parted_at (Other o) h parted = absurd h

        there : has (ones_of beside) gone.0 ≡ true
        there = ap (λ (m : ℕ). has (ones_of m) gone.0) (beside_is ∙ ap (λ j. slice_index_or p.aparts.items (j * 128 + v) 0) (sym row)) ∙ ap (λ j. has (ones_of (slice_index_or p.aparts.items (u / 64 * 128 + v) 0)) j) (sym bit) ∙ with_v

        struck_there : is_among_struck e u ≡ true
        struck_there =
            ap (λ j. has (ones_of (slice_index_or e.struck j 0)) (u % 64)) row ∙ ap (λ j. has (ones_of (slice_index_or e.struck h 0)) j) bit ∙ ap (λ (m : ℕ). has (ones_of m) gone.0) (sym struck_is)
            ∙ has-ones_of struck gone.0 gone.1 ∙ taken_out (has (ones_of beside) gone.0) (bit_at struck gone.0 == 1) there (sym (goes gone.0) ∙ gone.3)

        apart : IsApart (slice_index_or p.briefs.items k blank)
        apart = is_apart (slice_index_or p.briefs.items k blank) (at blank)
          where
            is_apart : (b : Brief) → IsApartAt b v u → IsApart b
            is_apart (Two q) h = absurd h
            is_apart (Apart q) h = tt
            is_apart (Other o) h = absurd h

    here : (k : ℕ) (a : Arc) (u : ℕ) → k < length arcs → ((b : Brief) → IsApartAt (slice_index_or p.briefs.items k b) v u) → IsPastBut h rest u → list_any (has waiting) (slice_index_or arcs k a).scope ≡ false → is_consistent f (slice_index_or arcs k a).scope (slice_index_or arcs k a).accepted ≡ true
    here k a u low at (inl past) untouched = is.here k a u low at past untouched
    here k a u low at (inr gone) untouched = entailed_now (slice_index_or arcs k a) f is.underway.full (entailed k a u low at gone)

    known : (k : ℕ) (a : Arc) (u : ℕ) → k < length arcs → ((b : Brief) → IsApartAt (slice_index_or p.briefs.items k b) v u) → IsPastBut h rest u → (IsPast h u → IsEntailed (slice_index_or arcs k a) f) → IsEntailed (slice_index_or arcs k a) f
    known k a u low at (inl past) old = old past
    known k a u low at (inr gone) old = entailed k a u low at gone

-- one neighbour more
pub part_look : (l : Language) (arcs : List Arc) (p : Plan) (whole : IsWholePlanOf l arcs p) (v h : ℕ) (begun : List ℕ) (from : Family) (value : Option ℕ) (rest later b : ℕ) (waiting next : List ℕ) (f g : Family) (i : ℕ) → b < 64 → ((y : ℕ) → has (ones_of later) y ≡ (has (ones_of rest) y && not (b == y))) →
    i < length arcs → ((c : Brief) → IsApartAt (slice_index_or p.briefs.items i c) v (h * 64 + b)) →
    ((k : ℕ) → k < length p.briefs.items → k < length arcs → ((c : Brief) → IsApartAt (slice_index_or p.briefs.items k c) v (h * 64 + b)) → IsLooked arcs k waiting next f g) →
    IfSome value (λ x. (k : ℕ) (a : Arc) → k < length p.briefs.items → k < length arcs → ((c : Brief) → IsApartAt (slice_index_or p.briefs.items k c) v (h * 64 + b)) → IsEntailed (slice_index_or arcs k a) g) →
    IsParting arcs p v begun from value (IsPastBut h rest) waiting f → IsParting arcs p v begun from value (IsPastBut h later) next g
part_look l arcs p whole v h begun from value rest later b waiting next f g i small goes low_i at_i looked entailed is = record {
  underway = underway_more arcs from f g is.underway to.underway;
  left = left_more begun waiting next from f g is.left to.left;
  before = λ k a low untouched. is.before k a low (to.before k a low untouched);
  stays = λ k a low untouched ok. to.stays k a low untouched (is.stays k a low (to.before k a low untouched) ok);
  here = λ k a u low at done untouched. here k a u low at (split u done) untouched;
  known = both value is.known entailed;
}
  where
    to : IsLooked arcs i waiting next f g
    to = looked i (room l arcs p whole i low_i) low_i at_i

    still : (p q : Bool) → q ≡ false → (p && not q) ≡ false → p ≡ false
    still true true e n = cc
    still true false e n = n
    still false q e n = refl

    split : (u : ℕ) → IsPastBut h later u → IsPastBut h rest u ⊎ (u ≡ h * 64 + b)
    split u (inl past) = inl (inl past)
    split u (inr gone) = pick (cases_eq b gone.0)
      where
        pick : (b ≡ gone.0) ⊎ (b ≢ gone.0) → IsPastBut h rest u ⊎ (u ≡ h * 64 + b)
        pick (inl same) = inr (gone.2 ∙ ap (λ j. h * 64 + j) (sym same))
        pick (inr other) = inl (inr (gone.0, gone.1, gone.2, still (has (ones_of rest) gone.0) (b == gone.0) (ne_eqb b gone.0 other) (sym (goes gone.0) ∙ gone.3)))

    moved : (k u : ℕ) → u ≡ h * 64 + b → ((c : Brief) → IsApartAt (slice_index_or p.briefs.items k c) v u) → (c : Brief) → IsApartAt (slice_index_or p.briefs.items k c) v (h * 64 + b)
    moved k u same at c = subst (λ (w : ℕ). IsApartAt (slice_index_or p.briefs.items k c) v w) same (at c)

    here : (k : ℕ) (a : Arc) (u : ℕ) → k < length arcs → ((c : Brief) → IsApartAt (slice_index_or p.briefs.items k c) v u) → IsPastBut h rest u ⊎ (u ≡ h * 64 + b) → list_any (has next) (slice_index_or arcs k a).scope ≡ false → is_consistent g (slice_index_or arcs k a).scope (slice_index_or arcs k a).accepted ≡ true
    here k a u low at (inl old) untouched = to.stays k a low untouched (is.here k a u low at old (to.before k a low untouched))
    here k a u low at (inr same) untouched = (looked k (room l arcs p whole k low) low (moved k u same at)).here a low

    both : (value : Option ℕ) → IfSome value (λ x. (k : ℕ) (a : Arc) (u : ℕ) → k < length arcs → ((c : Brief) → IsApartAt (slice_index_or p.briefs.items k c) v u) → IsPastBut h rest u → IsEntailed (slice_index_or arcs k a) f) →
        IfSome value (λ x. (k : ℕ) (a : Arc) → k < length p.briefs.items → k < length arcs → ((c : Brief) → IsApartAt (slice_index_or p.briefs.items k c) v (h * 64 + b)) → IsEntailed (slice_index_or arcs k a) g) →
        IfSome value (λ x. (k : ℕ) (a : Arc) (u : ℕ) → k < length arcs → ((c : Brief) → IsApartAt (slice_index_or p.briefs.items k c) v u) → IsPastBut h later u → IsEntailed (slice_index_or arcs k a) g)
    both None old new = tt
    both (Some x) old new = λ k a u low at done. go k a u low at (split u done)
      where
        go : (k : ℕ) (a : Arc) (u : ℕ) → k < length arcs → ((c : Brief) → IsApartAt (slice_index_or p.briefs.items k c) v u) → IsPastBut h rest u ⊎ (u ≡ h * 64 + b) → IsEntailed (slice_index_or arcs k a) g
        go k a u low at (inl before) = entailed_less (slice_index_or arcs k a) f g to.underway.within to.underway.size (old k a u low at before)
        go k a u low at (inr same) = new k a (room l arcs p whole k low) low (moved k u same at)

-- nothing is left of the word
pub part_next : (arcs : List Arc) (p : Plan) (v h : ℕ) (begun : List ℕ) (from : Family) (value : Option ℕ) (rest : ℕ) (waiting : List ℕ) (f : Family) → rest ≡ 0 → IsParting arcs p v begun from value (IsPastBut h rest) waiting f → IsParting arcs p v begun from value (IsPast (h + 1)) waiting f
part_next arcs p v h begun from value rest waiting f over is = record {
  underway = is.underway;
  left = is.left;
  before = is.before;
  stays = is.stays;
  here = λ k a u low at done. is.here k a u low at (past u done);
  known = if_some_more value _ _ (λ x old k a u low at done. old k a u low at (past u done)) is.known;
}
  where
    past : (u : ℕ) → IsPast (h + 1) u → IsPastBut h rest u
    past u done = pick (cases_lt u (h * 64))
      where
        pick : (u < h * 64) ⊎ (h * 64 ≤ u) → IsPastBut h rest u
        pick (inl before) = inl before
        pick (inr after) = inr (u - h * 64, omega arith, omega arith, ap (λ (m : ℕ). has (ones_of m) (u - h * 64)) over ∙ ap (λ xs. has xs (u - h * 64)) ones_of-zero)

-- all of them
module _ (l : Language) (arcs : List Arc) (p : Plan) (whole : IsWholePlanOf l arcs p) (narrow : (k u : ℕ) (a : Arc) → k < length arcs → has (slice_index_or arcs k a).scope u ≡ true → u < 128) (v : ℕ) (begun : List ℕ) (from : Family) (value : Option ℕ) (h : ℕ) (waiting : List ℕ) (f : Family) (end : 2 ≤ h) (is : IsParting arcs p v begun from value (IsPast h) waiting f) where
  pub part_end : AreLooked arcs p v begun waiting from f
  part_end = record {
    underway = is.underway;
    left = is.left;
    here = λ k a b low there apart untouched. (let second = second_of l arcs p whole k low a v there (all k low b apart) in is.here k a second.0 low second.2 (let small = narrow k second.0 a low second.1 in omega arith) untouched);
    before = is.before;
    stays = is.stays;
  }
    where
      all : (k : ℕ) → k < length arcs → (b : Brief) → IsApart (slice_index_or p.briefs.items k b) → (c : Brief) → IsApart (slice_index_or p.briefs.items k c)
      all k low b apart c = subst IsApart (same_item p.briefs.items k b c (room l arcs p whole k low)) apart

  pub part_known : IfSome value (λ x. (k : ℕ) (a : Arc) → k < length arcs → has (slice_index_or arcs k a).scope v ≡ true → ((c : Brief) → IsApart (slice_index_or p.briefs.items k c)) → IsEntailed (slice_index_or arcs k a) f)
  part_known = if_some_more value _ _ (λ x old k a low there apart. (let second = second_of l arcs p whole k low a v there apart in old k a second.0 low second.2 (let small = narrow k second.0 a low second.1 in omega arith))) is.known

-- a variable with one value was taken in among those that are struck
pub struck_more : (arcs : List Arc) (p : Plan) (e more : Entailed) (v : ℕ) (value : Option ℕ) (f g : Family) → IsUnderway arcs f g → AreEntailed arcs p e f → ((k : ℕ) → is_noted_in more k ≡ is_noted_in e k) → ((u : ℕ) → is_among_struck more u ≡ true → (is_among_struck e u ≡ true) ⊎ ((u ≡ v) × IsSome value)) →
    IfSome value (λ x. (k : ℕ) (a : Arc) → k < length arcs → has (slice_index_or arcs k a).scope v ≡ true → ((c : Brief) → IsApart (slice_index_or p.briefs.items k c)) → IsEntailed (slice_index_or arcs k a) g) → AreEntailed arcs p more g
struck_more arcs p e more v value f g to are noted struck known = record {
  noted = λ k a low there. entailed_less (slice_index_or arcs k a) f g to.within to.size (are.noted k a low (sym (noted k) ∙ there));
  struck = λ k u a b low long there on apart. go k u a b low long on apart value known (struck u there);
}
  where
    go : (k u : ℕ) (a : Arc) (b : Brief) → k < length arcs → k < length p.briefs.items → has (slice_index_or arcs k a).scope u ≡ true → IsApart (slice_index_or p.briefs.items k b) → (value : Option ℕ) →
        IfSome value (λ x. (k : ℕ) (a : Arc) → k < length arcs → has (slice_index_or arcs k a).scope v ≡ true → ((c : Brief) → IsApart (slice_index_or p.briefs.items k c)) → IsEntailed (slice_index_or arcs k a) g) →
        (is_among_struck e u ≡ true) ⊎ ((u ≡ v) × IsSome value) → IsEntailed (slice_index_or arcs k a) g
    go k u a b low long on apart value known (inl old) = entailed_less (slice_index_or arcs k a) f g to.within to.size (are.struck k u a b low long old on apart)
    go k u a b low long on apart None known (inr new) = absurd (both_ways false refl new.1)
    go k u a b low long on apart (Some x) known (inr new) =
        known k a low (ap (λ w. has (slice_index_or arcs k a).scope w) (sym new.0) ∙ on) (λ c. subst IsApart (same_item p.briefs.items k b c long) apart)
