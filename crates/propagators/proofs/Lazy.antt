-- Bounded conditions stay consistent while a variable keeps more values than its limit.
use Rattle.propagators.proofs.Prelude.{◌≡◌, ℕ, zero, suc, ◌+◌, ◌<◌, ◌≤◌, Bool, true, false, ◌||◌, List, [], ◌∷◌, length, refl, sym, ◌∙◌, ap, subst, arith, inl, inr, ◌⊎◌, ◌==◌, ◌≢◌, slice_index_or, slice_set, All, list_any, list_all, get_or-set_same, get_or-set_other, both_ways, cases_eq, eq-eqb, eqb-true, or_left, or_cases, has, Family, Arc, sets_on, is_consistent, is_not_empty, family_size, AreBelow, IsFamilyOf, AreDifferent, AreSettled, IsWithin, IsThrough, IsRevised, HasMore, IsBounded, IsNarrowed, IsLooked, AreLimits, AgreeInside, by_pair, IsPairOf, IsApartOf, IsBriefOf, AreBriefs, at_place, bound_at, Language, PairBounds, Pair, Brief, blank}
use Rattle.propagators.specs.declared.briefs.Brief.TheVariants.{Two, Apart, Other}
use Rattle.propagators.proofs.Pruned.{consistent, supporting}
use Rattle.propagators.proofs.Replacing.{supported_through, through_supported, member_place}
use Rattle.propagators.proofs.Rounds.{AreSmall, stays_consistent, underway_begin, underway_step}
use Rattle.propagators.proofs.Loose.{in_row, in_column, more_less, bounded_consistent}
use Rattle.propagators.proofs.Conditions.{IsOver}
use Rattle.propagators.proofs.Standing.{consistent_as, agree_back}
use Rattle.propagators.proofs.Beside.{narrowed_others, apart_of}
use Rattle.std.proofs.lemmas.Bool.{or_parts}

none : Arc
none = record { scope = []; accepted = λ tuple. true }

-- an accepted pair of two sets, with the value at its place
record IsPair (xs ys : List ℕ) (accepted : List ℕ → Bool) (i x : ℕ) : Type 0 where
  pub first : ℕ
  pub second : ℕ
  pub in_first : has xs first ≡ true
  pub in_second : has ys second ≡ true
  pub is : accepted (first ∷ second ∷ []) ≡ true
  pub at : slice_index_or (first ∷ second ∷ []) i 0 ≡ x

pair_of : (xs ys : List ℕ) (accepted : List ℕ → Bool) (i x : ℕ) → IsThrough (xs ∷ ys ∷ []) accepted i x → IsPair xs ys accepted i x
pair_of xs ys accepted i x t = go t.tuple t.within t.at t.is
  where
    go : (tuple : List ℕ) → IsWithin (xs ∷ ys ∷ []) tuple → slice_index_or tuple i 0 ≡ x → accepted tuple ≡ true → IsPair xs ys accepted i x
    go [] h at is = absurd h
    go (p ∷ []) h at is = absurd h.1
    go (p ∷ q ∷ []) h at is = record { first = p; second = q; in_first = h.0; in_second = h.1.0; is = is; at = at }
    go (p ∷ q ∷ r ∷ tuple) h at is = absurd h.1.1

-- a bounded condition on two variables, each of whose limits is at least its bound
pub record IsCappedBy (d : ℕ) (a : Arc) (limits : List ℕ) : Type 0 where
  pub bounds : PairBounds
  pub long : length a.scope ≡ 2
  pub is : IsBounded d a.accepted bounds
  pub within : (j : ℕ) → j < length a.scope → at_place bounds j ≤ slice_index_or limits (slice_index_or a.scope j 0) 0

-- one that says the same within the ranges is such a condition
pub record IsCapped (l : Language) (a : Arc) (limits : List ℕ) : Type 0 where
  pub by : List ℕ → Bool
  pub agree : AgreeInside l a.scope by a.accepted
  pub capped : IsCappedBy l.value_count (record { scope = a.scope; accepted = by }) limits

pub bounded_stays : (d : ℕ) (a : Arc) (f g : Family) (v : ℕ) (limits : List ℕ) → d ≤ 128 → (pair : IsCappedBy d a limits) → AreDifferent a.scope → ((u : ℕ) → AreBelow d (slice_index_or g u [])) → ((u : ℕ) → u ≢ v → slice_index_or g u [] ≡ slice_index_or f u []) →
    ((x : ℕ) → has (slice_index_or g v []) x ≡ true → has (slice_index_or f v []) x ≡ true) → HasMore (slice_index_or limits v 0) (slice_index_or g v []) → has a.scope v ≡ true → is_consistent f a.scope a.accepted ≡ true → is_consistent g a.scope a.accepted ≡ true
bounded_stays d a f g v limits few pair different below others part more there ok = consistent a g (record {
  at = λ i x low here. through_supported (sets_on g a.scope) a.accepted i x (at a.scope pair.long different there pair.within (λ j y l h. supported_through (sets_on f a.scope) a.accepted j y ((supporting a f ok).at j y l h)) i x low here);
})
  where
    at : (scope : List ℕ) → length scope ≡ 2 → AreDifferent scope → has scope v ≡ true → ((j : ℕ) → j < length scope → at_place pair.bounds j ≤ slice_index_or limits (slice_index_or scope j 0) 0) →
        ((j y : ℕ) → j < length scope → has (slice_index_or f (slice_index_or scope j 0) []) y ≡ true → IsThrough (sets_on f scope) a.accepted j y) →
        (i x : ℕ) → i < length scope → has (slice_index_or g (slice_index_or scope i 0) []) x ≡ true → IsThrough (sets_on g scope) a.accepted i x
    at [] long different there within old i x low here = absurd (omega arith)
    at (u ∷ []) long different there within old i x low here = absurd (omega arith)
    at (u ∷ w ∷ r ∷ scope) long different there within old i x low here = absurd (omega arith)
    at (u ∷ w ∷ []) long different there within old i x low here = go (cases_eq v u) i low here
      where
        u_w : u ≢ w
        u_w = apart_of u w different

        last : (v ≢ u) → v ≡ w
        last other = end (or_cases (u == v) ((w == v) || false) there)
          where
            end : ((u == v) ≡ true) ⊎ (((w == v) || false) ≡ true) → v ≡ w
            end (inl same) = absurd (other (sym (eqb-true u v same)))
            end (inr same) = again (or_cases (w == v) false same)
              where
                again : ((w == v) ≡ true) ⊎ (false ≡ true) → v ≡ w
                again (inl is) = sym (eqb-true w v is)
                again (inr never) = absurd (both_ways _ refl never)

        go : (v ≡ u) ⊎ (v ≢ u) → (i : ℕ) → i < 2 → has (slice_index_or g (slice_index_or (u ∷ w ∷ []) i 0) []) x ≡ true → IsThrough (sets_on g (u ∷ w ∷ [])) a.accepted i x
        go (inl same) zero low here =
            let was : has (slice_index_or f u []) x ≡ true = ap (λ k. has (slice_index_or f k []) x) (sym same) ∙ part x (ap (λ k. has (slice_index_or g k []) x) same ∙ here) in
            let t = pair_of (slice_index_or f u []) (slice_index_or f w []) a.accepted 0 x (old 0 x (omega arith) was) in
            record { tuple = x ∷ t.second ∷ []; within = (here, (ap (λ ys. has ys t.second) (others w (λ e. u_w (sym same ∙ sym e))) ∙ t.in_second, tt)); at = refl; is = ap (λ k. a.accepted (k ∷ t.second ∷ [])) (sym t.at) ∙ t.is }
        go (inl same) (suc zero) low here =
            let t = in_column d a.accepted pair.bounds few pair.is (slice_index_or limits u 0) (slice_index_or g u []) x (below w x here) (below u) (subst (λ (k : ℕ). HasMore (slice_index_or limits k 0) (slice_index_or g k [])) same more) (within 0 (omega arith)) in
            record { tuple = t.0 ∷ x ∷ []; within = (t.1, (here, tt)); at = refl; is = t.2 }
        go (inl same) (suc (suc i)) low here = absurd (omega arith)
        go (inr other) zero low here =
            let t = in_row d a.accepted pair.bounds few pair.is (slice_index_or limits w 0) (slice_index_or g w []) x (below u x here) (below w) (subst (λ (k : ℕ). HasMore (slice_index_or limits k 0) (slice_index_or g k [])) (last other) more) (within 1 (omega arith)) in
            record { tuple = x ∷ t.0 ∷ []; within = (here, (t.1, tt)); at = refl; is = t.2 }
        go (inr other) (suc zero) low here =
            let same = last other in
            let was : has (slice_index_or f w []) x ≡ true = ap (λ k. has (slice_index_or f k []) x) (sym same) ∙ part x (ap (λ k. has (slice_index_or g k []) x) same ∙ here) in
            let t = pair_of (slice_index_or f u []) (slice_index_or f w []) a.accepted 1 x (old 1 x (omega arith) was) in
            record { tuple = t.first ∷ x ∷ []; within = (ap (λ ys. has ys t.first) (others u (λ e. other (sym e))) ∙ t.in_first, (here, tt)); at = refl; is = ap (λ k. a.accepted (t.first ∷ k ∷ [])) (sym t.at) ∙ t.is }
        go (inr other) (suc (suc i)) low here = absurd (omega arith)

-- a variable lost values, and has more than its limit
pub beside_lazy : (l : Language) (arcs : List Arc) (i : ℕ) (waiting : List ℕ) (f g : Family) (v : ℕ) (pass : ℕ → Bool) (limits : List ℕ) → l.value_count ≤ 128 → AreSmall arcs → ((k : ℕ) (a : Arc) → k < length arcs → AreDifferent (slice_index_or arcs k a).scope) → i < length arcs →
    list_all is_not_empty f ≡ true → ((a : Arc) → IsRevised (slice_index_or arcs i a) f g) → IsNarrowed v pass f g → family_size g < family_size f → IsFamilyOf l f → HasMore (slice_index_or limits v 0) (slice_index_or g v []) →
    ((k : ℕ) (a : Arc) → k < length arcs → has (slice_index_or arcs k a).scope v ≡ true → IsCapped l (slice_index_or arcs k a) limits) → IsLooked arcs i waiting waiting f g
beside_lazy l arcs i waiting f g v pass limits few small different low full to narrowed less family more capped = record {
  underway = underway_step arcs f f g i none low (underway_begin arcs f full) (to none);
  left = inr less;
  here = λ a under. (to a).consistent;
  before = λ k a under h. h;
  stays = λ k a under h ok. stay k a under ok (has (slice_index_or arcs k a).scope v) refl;
}
  where
    single : (scope : List ℕ) → has scope v ≡ false → list_any (has (v ∷ [])) scope ≡ false
    single [] h = refl
    single (u ∷ scope) h = (let parts = neither (u == v) (has scope v) h in (λ i. turned u parts.0 i || single scope parts.1 i))
      where
        neither : (a b : Bool) → (a || b) ≡ false → (a ≡ false) × (b ≡ false)
        neither true b h = cc
        neither false b h = (refl, h)

        turned : (u : ℕ) → (u == v) ≡ false → ((v == u) || false) ≡ false
        turned u e = go (v == u) refl
          where
            go : (b : Bool) → (v == u) ≡ b → ((v == u) || false) ≡ false
            go true same = absurd (both_ways _ e (eq-eqb u v (sym (eqb-true v u same))))
            go false other = ap (λ b. b || false) other

    stay : (k : ℕ) (a : Arc) → k < length arcs → is_consistent f (slice_index_or arcs k a).scope (slice_index_or arcs k a).accepted ≡ true → (b : Bool) → has (slice_index_or arcs k a).scope v ≡ b →
        is_consistent g (slice_index_or arcs k a).scope (slice_index_or arcs k a).accepted ≡ true
    stay k a under ok false lacking =
        stays_consistent (slice_index_or arcs k a) f g (v ∷ []) (small k a under) (λ u few no. narrowed_others f g v pass narrowed u (λ e. both_ways _ no (or_left _ _ (eq-eqb v u (sym e))))) (single (slice_index_or arcs k a).scope lacking) ok
    stay k a under ok true there =
        let arc : Arc = slice_index_or arcs k a in
        let pair = capped k a under there in
        consistent_as l g arc.scope pair.by arc.accepted (λ u x h. family.within u x ((to a).within u x h)) pair.agree
        (bounded_stays l.value_count (record { scope = arc.scope; accepted = pair.by }) f g v limits few pair.capped (different k a under) (λ u x h. family.values u x ((to a).within u x h)) (narrowed_others f g v pass narrowed) (λ x h. (narrowed.values x h).0) more there
        (consistent_as l f arc.scope arc.accepted pair.by family.within (agree_back l arc.scope pair.by arc.accepted pair.agree) ok))

-- ---- the limits of variables

-- the conditions of a variable whose limit is below 64 are bounded ones on two variables
pub capped : (l : Language) (arcs : List Arc) (briefs : List Brief) (limits : List ℕ) → AreBriefs l arcs briefs → AreLimits arcs briefs limits →
    (k v : ℕ) (a : Arc) → k < length arcs → k < length briefs → has (slice_index_or arcs k a).scope v ≡ true → slice_index_or limits v 0 < 64 → IsCapped l (slice_index_or arcs k a) limits
capped l arcs briefs limits told limited k v a low room there few = go (slice_index_or briefs k blank) refl
  where
    pair : (p : Pair) → IsPairOf l (slice_index_or arcs k a) p → ((j : ℕ) → j < length (slice_index_or arcs k a).scope → at_place p.bounds j ≤ slice_index_or limits (slice_index_or (slice_index_or arcs k a).scope j 0) 0) → IsCapped l (slice_index_or arcs k a) limits
    pair p is within = record {
      by = by_pair l is.pairs p;
      agree = is.agree;
      capped = record {
        bounds = p.bounds;
        long = ap length is.scope;
        is = is.bounds;
        within = within;
      };
    }

    go : (b : Brief) → slice_index_or briefs k blank ≡ b → IsCapped l (slice_index_or arcs k a) limits
    go (Two p) e =
        pair p (subst (IsBriefOf l (slice_index_or arcs k a)) e (told k a blank room low))
        (λ j below. subst (λ (b : Brief). bound_at b j ≤ slice_index_or limits (slice_index_or (slice_index_or arcs k a).scope j 0) 0) e (limited k j a blank room low below))
    go (Apart p) e =
        let is : IsApartOf l (slice_index_or arcs k a) p = subst (IsBriefOf l (slice_index_or arcs k a)) e (told k a blank room low) in
        pair p is.pair
        (λ j below. subst (λ (b : Brief). bound_at b j ≤ slice_index_or limits (slice_index_or (slice_index_or arcs k a).scope j 0) 0) e (limited k j a blank room low below))
    go (Other o) e =
        let at = member_place (slice_index_or arcs k a).scope v there in
        let most : 64 ≤ slice_index_or limits (slice_index_or (slice_index_or arcs k a).scope at.0 0) 0 = subst (λ (b : Brief). bound_at b at.0 ≤ slice_index_or limits (slice_index_or (slice_index_or arcs k a).scope at.0 0) 0) e (limited k at.0 a blank room low at.1) in
        let here : 64 ≤ slice_index_or limits v 0 = subst (λ (u : ℕ). 64 ≤ slice_index_or limits u 0) at.2 most in
        absurd (omega arith)

-- one condition more
pub limits_next : (arcs : List Arc) (briefs : List Brief) (limits raised scope : List ℕ) (i : ℕ) (new : Brief) → i < length briefs → ((a : Arc) → (slice_index_or arcs i a).scope ≡ scope) →
    ((j : ℕ) → j < length scope → bound_at new j ≤ slice_index_or raised (slice_index_or scope j 0) 0) → ((u : ℕ) → slice_index_or limits u 0 ≤ slice_index_or raised u 0) →
    ((k j : ℕ) (a : Arc) (b : Brief) → k < i → j < length (slice_index_or arcs k a).scope → bound_at (slice_index_or briefs k b) j ≤ slice_index_or limits (slice_index_or (slice_index_or arcs k a).scope j 0) 0) →
    (k j : ℕ) (a : Arc) (b : Brief) → k < i + 1 → j < length (slice_index_or arcs k a).scope → bound_at (slice_index_or (slice_set briefs i new) k b) j ≤ slice_index_or raised (slice_index_or (slice_index_or arcs k a).scope j 0) 0
limits_next arcs briefs limits raised scope i new room is there grows old k j a b low l = go (cases_eq k i)
  where
    at : List ℕ → ℕ
    at xs = slice_index_or raised (slice_index_or xs j 0) 0

    go : (k ≡ i) ⊎ (k ≢ i) → bound_at (slice_index_or (slice_set briefs i new) k b) j ≤ at (slice_index_or arcs k a).scope
    go (inl same) =
        let on : (slice_index_or arcs k a).scope ≡ scope = ap (λ (q : ℕ). (slice_index_or arcs q a).scope) same ∙ is a in
        let brief : slice_index_or (slice_set briefs i new) k b ≡ new = ap (λ (q : ℕ). slice_index_or (slice_set briefs i new) q b) same ∙ get_or-set_same briefs i new b room in
        subst (λ (c : Brief). bound_at c j ≤ at (slice_index_or arcs k a).scope) (sym brief)
        (subst (λ (xs : List ℕ). bound_at new j ≤ at xs) (sym on) (there j (subst (λ (xs : List ℕ). j < length xs) on l)))
    go (inr other) =
        subst (λ (c : Brief). bound_at c j ≤ at (slice_index_or arcs k a).scope) (sym (get_or-set_other briefs i k new b other))
        (let before = old k j a b (omega arith) l in let more = grows (slice_index_or (slice_index_or arcs k a).scope j 0) in omega arith)

-- ---- at first

untouched_at : (changed scope : List ℕ) → list_any (has changed) scope ≡ false → (j e : ℕ) → j < length scope → has changed (slice_index_or scope j e) ≡ false
untouched_at changed [] none j e low = absurd (omega arith)
untouched_at changed (v ∷ scope) none zero e low = (or_parts (has changed v) (list_any (has changed) scope) none).0
untouched_at changed (v ∷ scope) none (suc j) e low = untouched_at changed scope (or_parts (has changed v) (list_any (has changed) scope) none).1 j e (omega arith)

head_there : (scope : List ℕ) → 1 ≤ length scope → has scope (slice_index_or scope 0 0) ≡ true
head_there [] some = absurd (omega arith)
head_there (v ∷ scope) some = or_left _ _ (eq-eqb v v refl)

-- a condition is settled where its variables have more values than their limits
pub settled_first : (l : Language) (n : ℕ) (arcs : List Arc) (briefs : List Brief) (limits changed : List ℕ) (f : Family) → l.value_count ≤ 128 → All (IsOver n) arcs → length arcs ≤ length briefs → AreBriefs l arcs briefs → AreLimits arcs briefs limits → IsFamilyOf l f →
    ((u : ℕ) → u < n → has changed u ≡ false → HasMore (slice_index_or limits u 0) (slice_index_or f u [])) → AreSettled arcs changed f
settled_first l n arcs briefs limits changed f few over room told limited family more = λ k a low none.
    (let on = over k a low in
    let some = on.some in
    let arc : Arc = slice_index_or arcs k a in
    let many : (j : ℕ) → j < length arc.scope → HasMore (slice_index_or limits (slice_index_or arc.scope j 0) 0) (slice_index_or f (slice_index_or arc.scope j 0) []) =
    λ j below. more (slice_index_or arc.scope j 0) (on.known j 0 below) (untouched_at changed arc.scope none j 0 below) in
    let pair = capped l arcs briefs limits told limited k (slice_index_or arc.scope 0 0) a low (omega arith) (head_there arc.scope some) (many 0 some).low in
    let long = pair.capped.long in
    let first : 0 < length arc.scope = omega arith in
    let second : 1 < length arc.scope = omega arith in
    consistent_as l f arc.scope pair.by arc.accepted family.within pair.agree
    (bounded_consistent l.value_count (record { scope = arc.scope; accepted = pair.by }) f pair.capped.bounds few pair.capped.is pair.capped.long family.values (more_less _ _ _ (pair.capped.within 0 first) (many 0 first)) (more_less _ _ _ (pair.capped.within 1 second) (many 1 second))))

-- one variable more was looked at
pub more_next : (f : Family) (limits changed next : List ℕ) (v : ℕ) → v < 128 → ((u : ℕ) → u < 128 → has next u ≡ false → has changed u ≡ false) → (has next v ≡ false → HasMore (slice_index_or limits v 0) (slice_index_or f v [])) →
    ((u : ℕ) → u < v → has changed u ≡ false → HasMore (slice_index_or limits u 0) (slice_index_or f u [])) → (u : ℕ) → u < v + 1 → has next u ≡ false → HasMore (slice_index_or limits u 0) (slice_index_or f u [])
more_next f limits changed next v few grows here old u low none = go (cases_eq u v)
  where
    go : (u ≡ v) ⊎ (u ≢ v) → HasMore (slice_index_or limits u 0) (slice_index_or f u [])
    go (inl same) = subst (λ (k : ℕ). HasMore (slice_index_or limits k 0) (slice_index_or f k [])) (sym same) (here (ap (λ k. has next k) (sym same) ∙ none))
    go (inr other) = old u (omega arith) (grows u (omega arith) none)
