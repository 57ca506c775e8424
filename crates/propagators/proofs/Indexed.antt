-- What is known of a list of candidates, and of one more condition.
use Rattle.propagators.proofs.Prelude.{◌≡◌, ℕ, zero, suc, ◌+◌, ◌*◌, ◌/◌, ◌%◌, ◌<◌, ◌≤◌, Bool, true, false, ◌-◌, List, [], ◌∷◌, ◌++◌, length, map, take, Option, Some, None, refl, sym, ◌∙◌, ap, subst, arith, inl, inr, ◌⊎◌, slice_index_or, min, list_any, option_map_or, append-nil, length-map, length-append, get_or-take, get_or_append_left, get_or-append_right, length-take-le, take_at, same_lists, length-range_with_len, list_all-append, AllPass-from_list_all, and_parts, or_left, both_ways, cases_lt, eq-eqb, numbers, has, Candidate, Language, IsLanguage, IsCandidate, variable_count, values_of, scope_of, IsNetwork, AreConstraints, ones_of, Family, Arc, arc_of, arcs_of, is_consistent, is_arc_consistent, largest, AreSettled, IsApart, IsApartAt, IsBriefOf, bound_at, AreApartSoFar, AreTakenIn, AreNarrow, HasApart, IsParted, IsPlanOf, is_with, IsSettledBut, IsPropagated, RunsEmpty, all_values, IsRoot, IsRootBefore, Brief}
use Rattle.propagators.specs.declared.plan.Plan.{Plan}
use Rattle.propagators.proofs.Pruned.{largest_is}
use Rattle.propagators.proofs.Living.{full_above, largest_long}
use Rattle.propagators.proofs.Rounds.{sub_sub}
use Rattle.propagators.proofs.Replacing.{member_place}
use Rattle.propagators.proofs.Cutting.{member_at}
use Rattle.propagators.proofs.Parting.{noted_few}
use Rattle.propagators.proofs.Conditions.{arcs_small}

-- ---- the conditions of a list, and one more

pub arcs_alone : (l : Language) (list : List Candidate) → arcs_of l list None ≡ map (λ c. arc_of l c true) list
arcs_alone l list = append-nil (map (λ c. arc_of l c true) list)

pub arcs_beside : (l : Language) (list : List Candidate) (c : Candidate) → arcs_of l list (Some c) ≡ arcs_of l list None ++ arc_of l c false ∷ []
arcs_beside l list c = ap (λ (arcs : List Arc). arcs ++ arc_of l c false ∷ []) (sym (arcs_alone l list))

take_map : {A B : Type 0} (f : A → B) (n : ℕ) (xs : List A) → take n (map f xs) ≡ map f (take n xs)
take_map f zero xs = refl
take_map f (suc n) [] = refl
take_map f (suc n) (x ∷ xs) = ap (λ ys. f x ∷ ys) (take_map f n xs)

-- those of a front of the list
pub take_arcs : (l : Language) (list : List Candidate) (n : ℕ) → take n (arcs_of l list None) ≡ arcs_of l (take n list) None
take_arcs l list n = ap (take n) (arcs_alone l list) ∙ take_map (λ c. arc_of l c true) n list ∙ sym (arcs_alone l (take n list))

pub length_alone : (l : Language) (list : List Candidate) → length (arcs_of l list None) ≡ length list
length_alone l list = ap length (arcs_alone l list) ∙ length-map list (λ (c : Candidate). arc_of l c true)

-- those of the list, without the one against it
pub take_beside : (l : Language) (list : List Candidate) (against : Option Candidate) → take (length list) (arcs_of l list against) ≡ arcs_of l list None
take_beside l list against =
    take_at (map (λ c. arc_of l c true) list) (option_map_or (λ c. arc_of l c false ∷ []) against []) (length list) (length-map list (λ (c : Candidate). arc_of l c true))
    ∙ sym (arcs_alone l list)

pub length_beside : (l : Language) (list : List Candidate) (against : Option Candidate) → length list ≤ length (arcs_of l list against)
length_beside l list against =
    let long = length-append (map (λ c. arc_of l c true) list) (option_map_or (λ c. arc_of l c false ∷ []) against []) in
    let same = length-map list (λ (c : Candidate). arc_of l c true) in
    omega arith

take_last : {A : Type 0} (n : ℕ) (xs : List A) (d : A) → length xs ≡ n + 1 → xs ≡ take n xs ++ slice_index_or xs n d ∷ []
take_last zero [] d long = absurd (omega arith)
take_last zero (x ∷ []) d long = refl
take_last zero (x ∷ y ∷ xs) d long = absurd (omega arith)
take_last (suc n) [] d long = absurd (omega arith)
take_last (suc n) (x ∷ xs) d long = ap (λ ys. x ∷ ys) (take_last n xs d (omega arith))

-- those of a list are those before its last one, and that of this
pub arcs_last : (l : Language) (list : List Candidate) (n : ℕ) (c : Candidate) → length list ≡ n + 1 → c ≡ slice_index_or list n c → arcs_of l list None ≡ arcs_of l (take n list) None ++ arc_of l c true ∷ []
arcs_last l list n c long at =
    arcs_alone l list
    ∙ ap (map (λ c. arc_of l c true)) (take_last n list c long ∙ ap (λ (d : Candidate). take n list ++ d ∷ []) (sym at))
    ∙ map_last (take n list)
    ∙ ap (λ (arcs : List Arc). arcs ++ arc_of l c true ∷ []) (sym (arcs_alone l (take n list)))
  where
    map_last : (xs : List Candidate) → map (λ c. arc_of l c true) (xs ++ c ∷ []) ≡ map (λ c. arc_of l c true) xs ++ arc_of l c true ∷ []
    map_last [] = refl
    map_last (x ∷ xs) = ap (λ (ys : List Arc). arc_of l x true ∷ ys) (map_last xs)

pub arcs_narrow : (l : Language) (list : List Candidate) (against : Option Candidate) → IsLanguage l → AreConstraints l list against → AreNarrow (arcs_of l list against)
arcs_narrow l list against lawful are k v a low h =
    let at = member_place (slice_index_or (arcs_of l list against) k a).scope v h in
    subst (λ (w : ℕ). w < 128) at.2 (arcs_small l list against lawful are k a low at.0 0 at.1)

pub list_alone : (l : Language) (list : List Candidate) → IsNetwork l list → AreConstraints l list None
list_alone l list known = record { list = known; against = λ c h. cc }

-- ---- what they leave

-- where those before are consistent, all are but for the last one
pub settled_last : (arcs : List Arc) (a : Arc) (f : Family) → is_arc_consistent arcs f ≡ true → 1 ≤ length a.scope → AreSettled (arcs ++ a ∷ []) a.scope f
settled_last arcs a f ok some k d low none = go (cases_lt k (length arcs))
  where
    touched : (scope : List ℕ) → 1 ≤ length scope → list_any (has scope) scope ≡ true
    touched [] some = absurd (omega arith)
    touched (v ∷ scope) some = or_left _ _ (or_left _ _ (eq-eqb v v refl))

    go : (k < length arcs) ⊎ (length arcs ≤ k) → is_consistent f (slice_index_or (arcs ++ a ∷ []) k d).scope (slice_index_or (arcs ++ a ∷ []) k d).accepted ≡ true
    go (inl before) = subst (λ (b : Arc). is_consistent f b.scope b.accepted ≡ true) (sym (get_or_append_left arcs (a ∷ []) d k before)) (AllPass-from_list_all (λ b. is_consistent f b.scope b.accepted) arcs ok k d before)
    go (inr past) =
        let last : k ≡ length arcs = (let long = length-append arcs (a ∷ []) in omega arith) in
        let here : slice_index_or (arcs ++ a ∷ []) k d ≡ a = get_or-append_right arcs (a ∷ []) (length arcs) k d refl past ∙ ap (λ (n : ℕ). slice_index_or (a ∷ []) n d) (omega_zero k last) in
        absurd (both_ways _ (sym (ap (λ (b : Arc). list_any (has a.scope) b.scope) here) ∙ none) (touched a.scope some))
      where
        omega_zero : (k : ℕ) → k ≡ length arcs → ◌≡◌ {A = ℕ} (k - length arcs) 0
        omega_zero k last = omega arith

false_of : (b : Bool) → (b ≡ true → ⊥) → b ≡ false
false_of true h = absurd (h refl)
false_of false h = refl

front_consistent : (arcs more : List Arc) (f : Family) → is_arc_consistent (arcs ++ more) f ≡ true → is_arc_consistent arcs f ≡ true
front_consistent arcs more f ok = (and_parts _ _ (sym (list_all-append (λ a. is_consistent f a.scope a.accepted) arcs more) ∙ ok)).0

-- what more conditions leave of what some leave is what all leave
pub propagated_more : (l : Language) (arcs more : List Arc) (from f g : Family) → IsPropagated l arcs from f → IsPropagated l (arcs ++ more) f g → IsPropagated l (arcs ++ more) from g
propagated_more l arcs more from f g one two = record {
  largest = record {
    within = sub_sub g f from two.largest.within one.largest.within;
    consistent = two.largest.consistent;
    greatest = λ other sub ok. two.largest.greatest other (one.largest.greatest other sub (front_consistent arcs more other ok)) ok;
  };
  full = two.full;
  family = two.family;
}

-- more conditions leave no more
pub empty_more : (arcs more : List Arc) (from : Family) → RunsEmpty arcs from → RunsEmpty (arcs ++ more) from
empty_more arcs more from none = false_of _ (λ full.
    let all = largest_is (arcs ++ more) from in
    both_ways _ none (full_above (largest (arcs ++ more) from) (largest arcs from) (largest_long (arcs ++ more) from ∙ sym (largest_long arcs from))
    ((largest_is arcs from).greatest (largest (arcs ++ more) from) all.within (front_consistent arcs more (largest (arcs ++ more) from) all.consistent)) full))

pub empty_beyond : (l : Language) (arcs more : List Arc) (from f : Family) → length f ≡ length from → IsPropagated l arcs from f → RunsEmpty (arcs ++ more) f → RunsEmpty (arcs ++ more) from
empty_beyond l arcs more from f long one none = false_of _ (λ full.
    let all = largest_is (arcs ++ more) from in
    both_ways _ none (full_above (largest (arcs ++ more) from) (largest (arcs ++ more) f) (largest_long (arcs ++ more) from ∙ sym long ∙ sym (largest_long (arcs ++ more) f))
    ((largest_is (arcs ++ more) f).greatest (largest (arcs ++ more) from)
    (one.largest.greatest (largest (arcs ++ more) from) all.within (front_consistent arcs more (largest (arcs ++ more) from) all.consistent)) all.consistent) full))

pub length_values : (l : Language) → length (all_values l) ≡ variable_count l
length_values l = length-map (numbers (variable_count l)) (values_of l) ∙ length-range_with_len 0 (variable_count l)

-- ---- plans

-- a plan of the first conditions
pub taken_front : (l : Language) (arcs : List Arc) (from : ℕ) (p : Plan) → from ≤ length arcs → length arcs ≤ length p.briefs.items → IsPlanOf l (take from arcs) p → AreTakenIn l arcs p.briefs.items p.sets.items p.limits.items p.aparts.items from
taken_front l arcs from p some room is = record {
  briefs = λ k a b low. subst (λ (c : Arc). IsBriefOf l c (slice_index_or p.briefs.items k b)) (at k a low) (is.briefs k a b (omega arith) (within k low));
  limits = λ k j a b low below.
      subst (λ (c : Arc). bound_at (slice_index_or p.briefs.items k b) j ≤ slice_index_or p.limits.items (slice_index_or c.scope j 0) 0) (at k a low)
      (is.limits k j a b (omega arith) (within k low) (subst (λ (c : Arc). j < length c.scope) (sym (at k a low)) below));
  noted = λ k v a b low h. noted k b (is.noted k v a b (within k low) (let words = p.covered in omega arith) (ap (λ (c : Arc). has c.scope v) (at k a low) ∙ h));
  parted = λ k b low. is.parted k b (omega arith) (within k low);
  apart = subst (AreApartSoFar p.briefs.items p.aparts.items) (let long = length-take-le from arcs some in omega arith) is.apart;
}
  where
    at : (k : ℕ) (a : Arc) → k < from → slice_index_or (take from arcs) k a ≡ slice_index_or arcs k a
    at k a low = get_or-take from arcs k a low

    within : (k : ℕ) → k < from → k < length (take from arcs)
    within k low = (let long = length-take-le from arcs some in omega arith)

    noted : {A : Type 0} (k : ℕ) (b : Brief) → A ⊎ ((k < length p.briefs.items) × IsApart (slice_index_or p.briefs.items k b)) → A ⊎ IsApart (slice_index_or p.briefs.items k b)
    noted k b (inl there) = inl there
    noted k b (inr apart) = inr apart.1

-- other words may be cleared
pub taken_cleared : (l : Language) (arcs : List Arc) (bs : List Brief) (sets cleared ls aps : List ℕ) (from : ℕ) → from ≤ length arcs → AreNarrow arcs →
    ((k v : ℕ) → k < from → v < 128 → slice_index_or cleared (k / 64 * 128 + v) 0 ≡ slice_index_or sets (k / 64 * 128 + v) 0) → AreTakenIn l arcs bs sets ls aps from → AreTakenIn l arcs bs cleared ls aps from
taken_cleared l arcs bs sets cleared ls aps from some narrow same is = record {
  briefs = is.briefs;
  limits = is.limits;
  noted = λ k v a b low h. noted k v b (same k v low (narrow k v a (omega arith) h)) (is.noted k v a b low h);
  parted = is.parted;
  apart = is.apart;
}
  where
    noted : (k v : ℕ) (b : Brief) → slice_index_or cleared (k / 64 * 128 + v) 0 ≡ slice_index_or sets (k / 64 * 128 + v) 0 → (is_with sets v k ≡ true) ⊎ IsApart (slice_index_or bs k b) → (is_with cleared v k ≡ true) ⊎ IsApart (slice_index_or bs k b)
    noted k v b word (inl there) = inl (ap (λ (m : ℕ). has (ones_of m) (k % 64)) word ∙ there)
    noted k v b word (inr apart) = inr apart

-- none is taken in, and no variable is with another one
pub taken_none : (l : Language) (arcs : List Arc) (bs : List Brief) (sets ls aps : List ℕ) → ((v u : ℕ) → is_with aps v u ≡ true → ⊥) → AreTakenIn l arcs bs sets ls aps 0
taken_none l arcs bs sets ls aps none = record {
  briefs = λ k a b low. absurd (omega arith);
  limits = λ k j a b low. absurd (omega arith);
  noted = λ k v a b low. absurd (omega arith);
  parted = λ k b low. absurd (omega arith);
  apart = λ v u few h. absurd (none v u h);
}

pub taken_as : (l : Language) (arcs : List Arc) (bs bs_too : List Brief) (sets sets_too ls ls_too aps aps_too : List ℕ) (i : ℕ) → bs_too ≡ bs → sets_too ≡ sets → ls_too ≡ ls → aps_too ≡ aps → AreTakenIn l arcs bs sets ls aps i → AreTakenIn l arcs bs_too sets_too ls_too aps_too i
taken_as l arcs bs bs_too sets sets_too ls ls_too aps aps_too i briefs_is sets_is limits_is aparts_is is =
    subst (λ (xs : List Brief). AreTakenIn l arcs xs sets_too ls_too aps_too i) (sym briefs_is)
    (subst (λ (xs : List ℕ). AreTakenIn l arcs bs xs ls_too aps_too i) (sym sets_is)
    (subst (λ (xs : List ℕ). AreTakenIn l arcs bs sets xs aps_too i) (sym limits_is)
    (subst (λ (xs : List ℕ). AreTakenIn l arcs bs sets ls xs i) (sym aparts_is) is)))

-- a plan of all conditions
pub plan_taken : (l : Language) (arcs : List Arc) (p : Plan) → length arcs ≤ length p.briefs.items → AreTakenIn l arcs p.briefs.items p.sets.items p.limits.items p.aparts.items (min (length p.briefs.items) (length arcs)) → IsPlanOf l arcs p
plan_taken l arcs p room is = record {
  briefs = λ k a b low below. is.briefs k a b (omega arith);
  noted = λ k v a b low below h. noted_few p.briefs.items p.sets.items k v b (omega arith) (is.noted k v a b (omega arith) h);
  limits = λ k j a b low below inside. is.limits k j a b (omega arith) inside;
  parted = λ k b low below. is.parted k b (omega arith);
  apart = is.apart;
}

-- a copy of a plan, as far as it goes
pub plan_copied : (l : Language) (arcs : List Arc) (p q : Plan) (count : ℕ) → length arcs ≤ count → count ≤ length p.briefs.items → count ≤ length q.briefs.items → AreNarrow arcs → q.words ≡ p.words →
    ((k : ℕ) (b : Brief) → k < count → slice_index_or q.briefs.items k b ≡ slice_index_or p.briefs.items k b) →
    ((i : ℕ) → i < 128 * (min (count / 64 + min 1 (count % 64)) p.words) → slice_index_or q.sets.items i 0 ≡ slice_index_or p.sets.items i 0) →
    ((v : ℕ) → v < 128 → slice_index_or q.limits.items v 0 ≡ slice_index_or p.limits.items v 0) → ((i d : ℕ) → i < 128 * 2 → slice_index_or q.aparts.items i d ≡ slice_index_or p.aparts.items i d) → IsPlanOf l arcs p → IsPlanOf l arcs q
plan_copied l arcs p q count few room there narrow words briefs sets limits aparts is = record {
  briefs = λ k a b low below. subst (IsBriefOf l (slice_index_or arcs k a)) (sym (briefs k b (omega arith))) (is.briefs k a b (omega arith) below);
  noted = λ k v a b low below h.
      noted k v b (omega arith) (sets (k / 64 * 128 + v) (let small = narrow k v a low h in let fits = p.covered in omega arith)) (briefs k b (omega arith)) (is.noted k v a b low (omega arith) h);
  limits = λ k j a b low below inside.
      let small : slice_index_or (slice_index_or arcs k a).scope j 0 < 128 = narrow k (slice_index_or (slice_index_or arcs k a).scope j 0) a below (member_at (slice_index_or arcs k a).scope j inside) in
      let old = is.limits k j a b (omega arith) below inside in
      let same = limits (slice_index_or (slice_index_or arcs k a).scope j 0) small in
      subst (λ (c : Brief). bound_at c j ≤ slice_index_or q.limits.items (slice_index_or (slice_index_or arcs k a).scope j 0) 0) (sym (briefs k b (omega arith))) (omega arith);
  parted = λ k b low below.
      subst (λ (xs : List ℕ). IsParted xs (slice_index_or q.briefs.items k b)) (sym beside) (subst (IsParted p.aparts.items) (sym (briefs k b (omega arith))) (is.parted k b (omega arith) below));
  apart = λ v u small h. apart v u (is.apart v u small (ap (λ (xs : List ℕ). is_with xs v u) (sym beside) ∙ h));
}
  where
    beside : q.aparts.items ≡ p.aparts.items
    beside = same_lists q.aparts.items p.aparts.items (q.aparts_long ∙ sym p.aparts_long) (λ k d low. aparts k d (let long = q.aparts_long in omega arith))

    noted : (k v : ℕ) (b : Brief) → k < length q.briefs.items → slice_index_or q.sets.items (k / 64 * 128 + v) 0 ≡ slice_index_or p.sets.items (k / 64 * 128 + v) 0 → slice_index_or q.briefs.items k b ≡ slice_index_or p.briefs.items k b →
        (is_with p.sets.items v k ≡ true) ⊎ ((k < length p.briefs.items) × IsApart (slice_index_or p.briefs.items k b)) → (is_with q.sets.items v k ≡ true) ⊎ ((k < length q.briefs.items) × IsApart (slice_index_or q.briefs.items k b))
    noted k v b low word brief (inl there) = inl (ap (λ (m : ℕ). has (ones_of m) (k % 64)) word ∙ there)
    noted k v b low word brief (inr apart) = inr (low, subst IsApart (sym brief) apart.1)

    apart : (v u : ℕ) → HasApart p.briefs.items (min (length p.briefs.items) (length arcs)) v u → HasApart q.briefs.items (min (length q.briefs.items) (length arcs)) v u
    apart v u has_one =
        let low = has_one.low in
        record {
          place = has_one.place;
          low = omega arith;
          is = λ b. subst (λ (c : Brief). IsApartAt c v u) (sym (briefs has_one.place b (omega arith))) (has_one.is b);
        }

-- ---- the list of an index

pub listed : (xs list : List Candidate) (n : ℕ) → n ≡ length list → n ≤ length xs → ((k : ℕ) (d : Candidate) → k < n → slice_index_or xs k d ≡ slice_index_or list k d) → take n xs ≡ list
listed xs list n long room same =
    let size = length-take-le n xs room in
    same_lists (take n xs) list (size ∙ long) (λ k d low. get_or-take n xs k d (omega arith) ∙ same k d (omega arith))

-- ---- what one more condition leaves

module _ (l : Language) (arcs : List Arc) (changed : List ℕ) (f : Family) (was_alive : Bool) (is : IsRootBefore l arcs changed f was_alive) where
  pub settled_more : was_alive ≡ true → IsSettledBut l arcs changed f
  settled_more on =
      let root = is.root.alive on in
      record {
        family = root.family;
        full = root.full;
        settled = subst (λ (bs : List Arc). AreSettled bs changed f) (sym is.is)
            (subst (λ (scope : List ℕ). AreSettled (is.before ++ is.last ∷ []) scope f) is.scope_is
            (settled_last is.before is.last f root.largest.consistent (let some = is.some in let same = ap length is.scope_is in omega arith)));
      }

  pub root_dead : was_alive ≡ false → IsRoot l arcs f false
  root_dead off = record {
    alive = λ e. cc;
    dead = λ _. subst (λ (bs : List Arc). RunsEmpty bs (all_values l)) (sym is.is) (empty_more is.before (is.last ∷ []) (all_values l) (is.root.dead off));
  }

  pub root_more : was_alive ≡ true → (g : Family) (is_alive : Bool) → (is_alive ≡ true → IsPropagated l arcs f g) → (is_alive ≡ false → RunsEmpty arcs f) → IsRoot l arcs g is_alive
  root_more on g is_alive left nothing =
      let root = is.root.alive on in
      record {
        alive = λ e. subst (λ (bs : List Arc). IsPropagated l bs (all_values l) g) (sym is.is)
            (propagated_more l is.before (is.last ∷ []) (all_values l) f g root (subst (λ (bs : List Arc). IsPropagated l bs f g) is.is (left e)));
        dead = λ e. subst (λ (bs : List Arc). RunsEmpty bs (all_values l)) (sym is.is)
            (empty_beyond l is.before (is.last ∷ []) (all_values l) f (root.family.size ∙ sym (length_values l)) root (subst (λ (bs : List Arc). RunsEmpty bs f) is.is (nothing e)));
      }

-- of the last one of a list
pub root_before_last : (l : Language) (list : List Candidate) (n : ℕ) (c : Candidate) (scope : List ℕ) (f : Family) (was_alive : Bool) → IsLanguage l → IsNetwork l list → length list ≡ n + 1 → c ≡ slice_index_or list n c → scope ≡ scope_of l c →
    (own : List Candidate) → take n list ≡ own → IsRoot l (arcs_of l own None) f was_alive → IsRootBefore l (arcs_of l list None) scope f was_alive
root_before_last l list n c scope f was_alive lawful known long at scope_is own front root = record {
  before = arcs_of l (take n list) None;
  last = arc_of l c true;
  is = arcs_last l list n c long at;
  scope_is = sym scope_is;
  some = (let s = lawful.scopes c.scope [] (subst (IsCandidate l) (sym at) (known n c (omega arith))).scope in let some = s.not_empty in let same = ap length scope_is in omega arith);
  root = subst (λ (xs : List Candidate). IsRoot l (arcs_of l xs None) f was_alive) (sym front) root;
}

-- and of the one against a list
pub root_before_against : (l : Language) (list : List Candidate) (c : Candidate) (scope : List ℕ) (f : Family) (was_alive : Bool) → IsLanguage l → IsCandidate l c → scope ≡ scope_of l c →
    (own : List Candidate) → own ≡ list → IsRoot l (arcs_of l own None) f was_alive → IsRootBefore l (arcs_of l list (Some c)) scope f was_alive
root_before_against l list c scope f was_alive lawful known scope_is own same root = record {
  before = arcs_of l list None;
  last = arc_of l c false;
  is = arcs_beside l list c;
  scope_is = sym scope_is;
  some = (let s = lawful.scopes c.scope [] known.scope in let some = s.not_empty in let same = ap length scope_is in omega arith);
  root = subst (λ (xs : List Candidate). IsRoot l (arcs_of l xs None) f was_alive) same root;
}
