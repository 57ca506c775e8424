-- Looking at the conditions of changed variables.
use Rattle.propagators.proofs.Prelude.{◌≡◌, ℕ, zero, suc, ◌+◌, ◌-◌, ◌*◌, ◌/◌, ◌%◌, ◌<◌, ◌≤◌, Bool, true, false, ◌&&◌, ◌||◌, not, List, [], ◌∷◌, length, refl, sym, ◌∙◌, ap, subst, arith, inl, inr, ◌⊎◌, ◌==◌, ◌≢◌, slice_index_or, All, min, list_any, list_all, All-head, All-tail, both_ways, cases_eq, cases_lt, eq-eqb, ne_eqb, div-mul-add, mod-mul-add, has, union, without, IsSet, has-set_where, ones_of, bit_at, Family, Arc, is_consistent, is_not_empty, is_wanted, family_size, AreEntailed, Entailed, IsRevised, AreSettled, AreFewer, IsCutAt, IsUnderway, AreNoted, AreLeft, IsLooked, IsLeftOrLooked, AreLooked, IsApart, is_with, Brief, Plan, blank}
use Rattle.assign.proofs.Masks.{rises_few}
use Rattle.propagators.proofs.Words.{one_less}
use Rattle.assign.proofs.Ones.{ones_of-zero, has-ones_of}
use Rattle.propagators.proofs.Entailing.{entailed_now}
use Rattle.propagators.proofs.Rounds.{stays_consistent, touch_union, underway_begin, underway_step, underway_more, AreSmall, no_members}
use Rattle.std.proofs.lemmas.Bool.{or_parts}

none : Arc
none = record { scope = []; accepted = λ t. true }

-- ---- one look

-- nothing was to be done
pub looked_over : (arcs : List Arc) (i : ℕ) (waiting : List ℕ) (f : Family) → list_all is_not_empty f ≡ true →
    ((a : Arc) → i < length arcs → is_consistent f (slice_index_or arcs i a).scope (slice_index_or arcs i a).accepted ≡ true) → IsLooked arcs i waiting waiting f f
looked_over arcs i waiting f full here = record {
  underway = underway_begin arcs f full;
  left = inl (refl, refl);
  here = here;
  before = λ k a low h. h;
  stays = λ k a low h ok. ok;
}

underway_one : (arcs : List Arc) (i : ℕ) (f g : Family) → i < length arcs → list_all is_not_empty f ≡ true → ((a : Arc) → IsRevised (slice_index_or arcs i a) f g) → IsUnderway arcs f g
underway_one arcs i f g low full to = underway_step arcs f f g i none low (underway_begin arcs f full) (to none)

-- the condition was revised, and no variable lost a value
pub looked_same : (arcs : List Arc) (i : ℕ) (waiting lost : List ℕ) (f g : Family) → AreSmall arcs → i < length arcs → list_all is_not_empty f ≡ true →
    ((a : Arc) → IsRevised (slice_index_or arcs i a) f g) → IsCutAt lost f g → length lost ≡ 0 → IsLooked arcs i waiting waiting f g
looked_same arcs i waiting lost f g small low full to cut nothing = record {
  underway = underway_one arcs i f g low full to;
  left = left cut.fewer;
  here = λ a below. (to a).consistent;
  before = λ k a below h. h;
  stays = λ k a below h ok. stays_consistent (slice_index_or arcs k a) f g lost (small k a below) cut.differ (untouched (slice_index_or arcs k a).scope lost nothing) ok;
}
  where
    untouched : (scope lost : List ℕ) → length lost ≡ 0 → list_any (has lost) scope ≡ false
    untouched scope (x ∷ lost) none = absurd (omega arith)
    untouched [] [] none = refl
    untouched (v ∷ scope) [] none = untouched scope [] none

    left : AreFewer lost f g → AreLeft waiting waiting f g
    left (inl same) = inl (refl, same.1)
    left (inr less) = inr less

-- the condition was revised, and some variable lost a value
pub looked_changed : (arcs : List Arc) (i : ℕ) (waiting lost : List ℕ) (f g : Family) → AreSmall arcs → i < length arcs → list_all is_not_empty f ≡ true →
    ((a : Arc) → IsRevised (slice_index_or arcs i a) f g) → IsCutAt lost f g → length lost ≢ 0 → IsLooked arcs i waiting (union waiting lost) f g
looked_changed arcs i waiting lost f g small low full to cut some = record {
  underway = underway_one arcs i f g low full to;
  left = left cut.fewer;
  here = λ a below. (to a).consistent;
  before = λ k a below h. (parts k a below h).0;
  stays = λ k a below h ok. stays_consistent (slice_index_or arcs k a) f g lost (small k a below) cut.differ (parts k a below h).1 ok;
}
  where
    parts : (k : ℕ) (a : Arc) → k < length arcs → list_any (has (union waiting lost)) (slice_index_or arcs k a).scope ≡ false →
        (list_any (has waiting) (slice_index_or arcs k a).scope ≡ false) × (list_any (has lost) (slice_index_or arcs k a).scope ≡ false)
    parts k a below h = or_parts _ _ (sym (touch_union waiting lost (slice_index_or arcs k a).scope (small k a below)) ∙ h)

    left : AreFewer lost f g → AreLeft waiting (union waiting lost) f g
    left (inl same) = absurd (some (no_members lost same.0))
    left (inr less) = inr less

-- the condition was looked at
pub looked_now : (arcs : List Arc) (i : ℕ) (waiting next : List ℕ) (f g : Family) → IsLooked arcs i waiting next f g → IsLeftOrLooked arcs i waiting next f g
looked_now arcs i waiting next f g to = record { underway = to.underway; left = to.left; here = λ a low h. to.here a low; before = to.before; stays = to.stays }

-- it is left to a waiting variable
pub looked_later : (arcs : List Arc) (i : ℕ) (waiting : List ℕ) (f : Family) → list_all is_not_empty f ≡ true → ((a : Arc) → i < length arcs → list_any (has waiting) (slice_index_or arcs i a).scope ≡ true) → IsLeftOrLooked arcs i waiting waiting f f
looked_later arcs i waiting f full touched = record {
  underway = underway_begin arcs f full;
  left = inl (refl, refl);
  here = λ a low none. absurd (both_ways _ none (touched a low));
  before = λ k a low h. h;
  stays = λ k a low h ok. ok;
}

-- ---- the conditions of one variable

-- what is looked at is consistent where it has no waiting variable
pub record IsVisiting (arcs : List Arc) (begun : List ℕ) (from : Family) (done : ℕ → Type 0) (waiting : List ℕ) (f : Family) : Type 0 where
  pub underway : IsUnderway arcs from f
  pub left : AreLeft begun waiting from f
  pub settled : (k : ℕ) (a : Arc) → k < length arcs → list_any (has waiting) (slice_index_or arcs k a).scope ≡ false → done k → is_consistent f (slice_index_or arcs k a).scope (slice_index_or arcs k a).accepted ≡ true

-- the condition hasn't the variable
abbrev pub Lacks : List Arc → ℕ → ℕ → Type 0
Lacks arcs v k = (a : Arc) → has (slice_index_or arcs k a).scope v ≡ false

-- or it says that two variables differ
abbrev pub IsAside : List Arc → List Brief → ℕ → ℕ → Type 0
IsAside arcs briefs v k = Lacks arcs v k ⊎ ((b : Brief) → IsApart (slice_index_or briefs k b))

-- the words before w are looked at
abbrev pub IsBefore : List Arc → List Brief → ℕ → ℕ → ℕ → Type 0
IsBefore arcs briefs v w k = (k < w * 64) ⊎ IsAside arcs briefs v k

-- and word w, but for what is left of it
abbrev pub IsGone : ℕ → ℕ → ℕ → Type 0
IsGone w rest k = (b : ℕ) × (b < 64) × (k ≡ w * 64 + b) × (has (ones_of rest) b ≡ false)

abbrev pub IsWithout : List Arc → List Brief → ℕ → ℕ → ℕ → ℕ → Type 0
IsWithout arcs briefs v w rest k = IsBefore arcs briefs v w k ⊎ IsGone w rest k

-- an item of a list is the same, whatever stands for others
pub same_item : {A : Type 0} (xs : List A) (k : ℕ) (a b : A) → k < length xs → slice_index_or xs k a ≡ slice_index_or xs k b
same_item [] k a b low = absurd (omega arith)
same_item (x ∷ xs) zero a b low = refl
same_item (x ∷ xs) (suc k) a b low = same_item xs k a b (omega arith)

pub left_more : (begun waiting next : List ℕ) (from f g : Family) → AreLeft begun waiting from f → AreLeft waiting next f g → AreLeft begun next from g
left_more begun waiting next from f g (inl one) (inl two) = inl (two.0 ∙ one.0, two.1 ∙ one.1)
left_more begun waiting next from f g (inl one) (inr two) = inr (let same = ap family_size one.1 in omega arith)
left_more begun waiting next from f g (inr one) (inl two) = inr (let same = ap family_size two.1 in omega arith)
left_more begun waiting next from f g (inr one) (inr two) = inr (omega arith)

touch_without : (changed : List ℕ) (v : ℕ) (scope : List ℕ) → All (λ u. u < 128) scope → has scope v ≡ false → list_any (has (without changed v)) scope ≡ false → list_any (has changed) scope ≡ false
touch_without changed v [] small lacking h = refl
touch_without changed v (u ∷ scope) small lacking h =
    let here = or_parts (u == v) (has scope v) lacking in
    let parts = or_parts (has (without changed v) u) (list_any (has (without changed v)) scope) h in
    let low = All-head (λ u. u < 128) u scope small in
    let not_u : has changed u ≡ false = keep (has changed u) (v == u) (other here.0) (sym (has-set_where (λ w. has changed w && not (has (v ∷ []) w)) u low) ∙ parts.0) in
    (λ i. not_u i || touch_without changed v scope (All-tail (λ u. u < 128) u scope small) here.1 parts.1 i)
  where
    other : (u == v) ≡ false → (v == u) ≡ false
    other e = go (cases_eq v u)
      where
        go : (v ≡ u) ⊎ (v ≢ u) → (v == u) ≡ false
        go (inl same) = absurd (both_ways _ e (eq-eqb u v (sym same)))
        go (inr apart) = ne_eqb v u apart

    keep : (a b : Bool) → b ≡ false → (a && not (b || false)) ≡ false → a ≡ false
    keep true true e h = cc
    keep true false e h = h
    keep false b e h = refl

pub visit_begin : (arcs : List Arc) (changed : List ℕ) (v : ℕ) (f : Family) → AreSmall arcs → list_all is_not_empty f ≡ true → AreSettled arcs changed f → IsVisiting arcs (without changed v) f (Lacks arcs v) (without changed v) f
visit_begin arcs changed v f small full settled = record {
  underway = underway_begin arcs f full;
  left = inl (refl, refl);
  settled = λ k a low h lacking. settled k a low (touch_without changed v (slice_index_or arcs k a).scope (small k a low) (lacking a) h);
}

-- what says that the variable differs from others was looked at
pub visit_apart : (arcs : List Arc) (p : Plan) (v : ℕ) (begun waiting next : List ℕ) (from f g : Family) → IsVisiting arcs begun from (Lacks arcs v) waiting f → AreLooked arcs p v waiting next f g → IsVisiting arcs begun from (IsBefore arcs p.briefs.items v 0) next g
visit_apart arcs p v begun waiting next from f g is to = record {
  underway = underway_more arcs from f g is.underway to.underway;
  left = left_more begun waiting next from f g is.left to.left;
  settled = λ k a low h done. go k a low h done;
}
  where
    lacks : (k : ℕ) (a : Arc) → k < length arcs → list_any (has next) (slice_index_or arcs k a).scope ≡ false → Lacks arcs v k → is_consistent g (slice_index_or arcs k a).scope (slice_index_or arcs k a).accepted ≡ true
    lacks k a low h lacking = to.stays k a low h (is.settled k a low (to.before k a low h) lacking)

    go : (k : ℕ) (a : Arc) → k < length arcs → list_any (has next) (slice_index_or arcs k a).scope ≡ false → IsBefore arcs p.briefs.items v 0 k → is_consistent g (slice_index_or arcs k a).scope (slice_index_or arcs k a).accepted ≡ true
    go k a low h (inl never) = absurd (omega arith)
    go k a low h (inr (inl lacking)) = lacks k a low h lacking
    go k a low h (inr (inr apart)) = pick (has (slice_index_or arcs k a).scope v) refl
      where
        pick : (q : Bool) → has (slice_index_or arcs k a).scope v ≡ q → is_consistent g (slice_index_or arcs k a).scope (slice_index_or arcs k a).accepted ≡ true
        pick true e = to.here k a blank low e (apart blank) h
        pick false e = lacks k a low h (λ b. ap (λ (c : Arc). has c.scope v) (same_item arcs k b a low) ∙ e)

-- what isn't in the word of the variable lacks it, or says that two differ, but for what is entailed
pub visit_word : (arcs : List Arc) (briefs : List Brief) (words v w : ℕ) (sets begun : List ℕ) (from : Family) (waiting : List ℕ) (f : Family) (noted known word : ℕ) (p : Plan) (e : Entailed) → AreNoted arcs briefs words sets → w < words → noted ≡ slice_index_or sets (w * 128 + v) 0 →
    known ≡ slice_index_or e.words w 0 → ((y : ℕ) → has (ones_of word) y ≡ (has (ones_of noted) y && is_wanted false (bit_at known y == 1))) → AreEntailed arcs p e f →
    IsVisiting arcs begun from (IsBefore arcs briefs v w) waiting f → IsVisiting arcs begun from (IsWithout arcs briefs v w word) waiting f
visit_word arcs briefs words v w sets begun from waiting f noted known word p e are_noted room at known_at goes are is = record {
  underway = is.underway;
  left = is.left;
  settled = λ k a low h done. go k a low h done;
}
  where
    open_there : (p q r : Bool) → q ≡ false → r ≡ q → (p && not r) ≡ false → p ≡ false
    open_there true true r none same h = cc
    open_there true false true none same h = cc
    open_there true false false none same h = h
    open_there false q r none same h = refl

    go : (k : ℕ) (a : Arc) → k < length arcs → list_any (has waiting) (slice_index_or arcs k a).scope ≡ false → IsWithout arcs briefs v w word k → is_consistent f (slice_index_or arcs k a).scope (slice_index_or arcs k a).accepted ≡ true
    go k a low h (inl before) = is.settled k a low h before
    go k a low h (inr gone) = pick (has (ones_of known) gone.0) refl
      where
        row : k / 64 ≡ w
        row = ap (λ j. j / 64) gone.2 ∙ div-mul-add w 64 gone.0 gone.1

        where_ : slice_index_or sets (k / 64 * 128 + v) 0 ≡ noted
        where_ = ap (λ j. slice_index_or sets (j * 128 + v) 0) row ∙ sym at

        bit : k % 64 ≡ gone.0
        bit = ap (λ j. j % 64) gone.2 ∙ mod-mul-add w 64 gone.0 gone.1

        within : k < words * 64
        within = (let is = gone.2 in let b = gone.1 in omega arith)

        apart : has (ones_of noted) gone.0 ≡ false → (b : Brief) → (is_with sets v k ≡ true) ⊎ ((k < length briefs) × IsApart (slice_index_or briefs k b)) → IsApart (slice_index_or briefs k b)
        apart none b (inl there) = absurd (both_ways _ none (ap (λ j. has (ones_of noted) j) (sym bit) ∙ ap (λ m. has (ones_of m) (k % 64)) (sym where_) ∙ there))
        apart none b (inr is) = is.1

        aside : has (ones_of noted) gone.0 ≡ false → (q : Bool) → has (slice_index_or arcs k a).scope v ≡ q → IsAside arcs briefs v k
        aside none false e = inl (λ b. ap (λ (c : Arc). has c.scope v) (same_item arcs k b a low) ∙ e)
        aside none true e = inr (λ b. apart none b (are_noted k v a b low within e))

        pick : (q : Bool) → has (ones_of known) gone.0 ≡ q → is_consistent f (slice_index_or arcs k a).scope (slice_index_or arcs k a).accepted ≡ true
        pick true there = entailed_now (slice_index_or arcs k a) f is.underway.full (are.noted k a low
            (ap (λ j. has (ones_of (slice_index_or e.words j 0)) (k % 64)) row ∙ ap (λ j. has (ones_of (slice_index_or e.words w 0)) j) bit ∙ ap (λ m. has (ones_of m) gone.0) (sym known_at) ∙ there))
        pick false other = is.settled k a low h (inr (aside
            (open_there (has (ones_of noted) gone.0) (has (ones_of known) gone.0) (bit_at known gone.0 == 1) other (sym (has-ones_of known gone.0 gone.1)) (sym (goes gone.0) ∙ gone.3))
            (has (slice_index_or arcs k a).scope v) refl))

-- one look more
pub visit_look : (arcs : List Arc) (briefs : List Brief) (v w : ℕ) (begun : List ℕ) (from : Family) (rest later b i : ℕ) (waiting next : List ℕ) (f g : Family) →
    b < 64 → ((y : ℕ) → has (ones_of later) y ≡ (has (ones_of rest) y && not (b == y))) → i ≡ w * 64 + b →
    IsVisiting arcs begun from (IsWithout arcs briefs v w rest) waiting f → IsLeftOrLooked arcs i waiting next f g → IsVisiting arcs begun from (IsWithout arcs briefs v w later) next g
visit_look arcs briefs v w begun from rest later b i waiting next f g small goes at is to = record {
  underway = underway_more arcs from f g is.underway to.underway;
  left = left_more begun waiting next from f g is.left to.left;
  settled = λ k a low h done. go k a low h done;
}
  where
    old : (k : ℕ) (a : Arc) → k < length arcs → list_any (has next) (slice_index_or arcs k a).scope ≡ false → IsWithout arcs briefs v w rest k → is_consistent g (slice_index_or arcs k a).scope (slice_index_or arcs k a).accepted ≡ true
    old k a low h done = to.stays k a low h (is.settled k a low (to.before k a low h) done)

    go : (k : ℕ) (a : Arc) → k < length arcs → list_any (has next) (slice_index_or arcs k a).scope ≡ false → IsWithout arcs briefs v w later k → is_consistent g (slice_index_or arcs k a).scope (slice_index_or arcs k a).accepted ≡ true
    go k a low h (inl before) = old k a low h (inl before)
    go k a low h (inr gone) = pick (cases_eq k i)
      where
        still : (p q : Bool) → q ≡ false → (p && not q) ≡ false → p ≡ false
        still true true e n = cc
        still true false e n = n
        still false q e n = refl

        pick : (k ≡ i) ⊎ (k ≢ i) → is_consistent g (slice_index_or arcs k a).scope (slice_index_or arcs k a).accepted ≡ true
        pick (inl same) = subst (λ (j : ℕ). is_consistent g (slice_index_or arcs j a).scope (slice_index_or arcs j a).accepted ≡ true) (sym same)
            (to.here a (subst (λ (j : ℕ). j < length arcs) same low) (subst (λ (j : ℕ). list_any (has next) (slice_index_or arcs j a).scope ≡ false) same h))
        pick (inr other) = old k a low h (inr (
          gone.0,
          gone.1,
          gone.2,
          still (has (ones_of rest) gone.0) (b == gone.0) (ne_eqb b gone.0 (λ e. other (gone.2 ∙ ap (λ j. w * 64 + j) (sym e) ∙ sym at))) (sym (goes gone.0) ∙ gone.3),
        ))

-- nothing is left of the word
pub visit_next : (arcs : List Arc) (briefs : List Brief) (v w : ℕ) (begun : List ℕ) (from : Family) (rest : ℕ) (waiting : List ℕ) (f : Family) → rest ≡ 0 →
    IsVisiting arcs begun from (IsWithout arcs briefs v w rest) waiting f → IsVisiting arcs begun from (IsBefore arcs briefs v (w + 1)) waiting f
visit_next arcs briefs v w begun from rest waiting f over is = record {
  underway = is.underway;
  left = is.left;
  settled = λ k a low h done. go k a low h done;
}
  where
    go : (k : ℕ) (a : Arc) → k < length arcs → list_any (has waiting) (slice_index_or arcs k a).scope ≡ false → IsBefore arcs briefs v (w + 1) k → is_consistent f (slice_index_or arcs k a).scope (slice_index_or arcs k a).accepted ≡ true
    go k a low h (inr lacking) = is.settled k a low h (inl (inr lacking))
    go k a low h (inl before) = pick (cases_lt k (w * 64))
      where
        pick : (k < w * 64) ⊎ (w * 64 ≤ k) → is_consistent f (slice_index_or arcs k a).scope (slice_index_or arcs k a).accepted ≡ true
        pick (inl earlier) = is.settled k a low h (inl (inl earlier))
        pick (inr late) = is.settled k a low h (inr (k - w * 64, omega arith, omega arith, ap (λ m. has (ones_of m) (k - w * 64)) over ∙ ap (λ xs. has xs (k - w * 64)) ones_of-zero))

pub visit_end : (arcs : List Arc) (briefs : List Brief) (v w : ℕ) (begun : List ℕ) (from : Family) (waiting : List ℕ) (f : Family) → length arcs ≤ w * 64 → IsVisiting arcs begun from (IsBefore arcs briefs v w) waiting f → AreSettled arcs waiting f
visit_end arcs briefs v w begun from waiting f all is = λ k a low h. is.settled k a low h (inl (omega arith))

-- ---- all changed variables

-- the values and the variables that are left
abbrev pub visits_left : Family → List ℕ → ℕ
visits_left f changed = family_size f * 129 + min 128 (length changed)

pub visits_fall : (f g : Family) (changed next : List ℕ) (v : ℕ) → IsSet changed → v < 128 → has changed v ≡ true → AreLeft (without changed v) next f g → visits_left g next < visits_left f changed
visits_fall f g changed next v set low there to = go to
  where
    few : length changed ≤ 128
    few = (let all = rises_few 0 changed (omega arith) set in omega arith)

    fewer : length (without changed v) < length changed
    fewer = one_less changed v set low there

    go : AreLeft (without changed v) next f g → visits_left g next < visits_left f changed
    go (inl is) = (let size = ap family_size is.1 in let long : length next ≡ length (without changed v) = ap length is.0 in omega (arith, few, fewer))
    go (inr less) = omega (arith, few)
