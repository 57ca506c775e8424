-- A consistent condition is entailed once all of its variables but one have one value.
use Rattle.propagators.proofs.Prelude.{◌≡◌, ℕ, suc, ◌+◌, ◌-◌, ◌<◌, ◌≤◌, true, List, [], ◌∷◌, length, length-map, drop, get_or-drop, length-drop, cases_lt, HasOne, sym, ◌∙◌, ap, subst, arith, inl, inr, ◌⊎◌, ◌≢◌, cases_eq, slice_index_or, All, list_all, has, Family, Arc, sets_on, is_not_empty, is_consistent, IsSubfamily, IsThrough, IsWithin, IsRevised, IsEntailed, AreEntailed, is_noted_in, Plan, Entailed, IsAlmostFixed, AreFixedBut}
use Rattle.propagators.proofs.Pruned.{consistent, supporting}
use Rattle.propagators.proofs.Replacing.{supported_through, through_supported, set_at, value_within, member_of_some, all_full}
use Rattle.propagators.proofs.Entailing.{are_less, entailed_noted}

-- a tuple within some sets is within others, where these have its values
within_others : (f g : Family) (scope tuple : List ℕ) → ((j : ℕ) → j < length scope → has (slice_index_or f (slice_index_or scope j 0) []) (slice_index_or tuple j 0) ≡ true → has (slice_index_or g (slice_index_or scope j 0) []) (slice_index_or tuple j 0) ≡ true) →
    IsWithin (sets_on f scope) tuple → IsWithin (sets_on g scope) tuple
within_others f g [] [] more within = within
within_others f g [] (x ∷ tuple) more within = absurd within
within_others f g (v ∷ scope) [] more within = absurd within
within_others f g (v ∷ scope) (x ∷ tuple) more within = (more 0 (omega arith) within.0, within_others f g scope tuple (λ j low. more (suc j) (omega arith)) within.1)

module _ (a : Arc) (f g : Family) (fixed : IsAlmostFixed f a.scope) (known : All (λ v. v < length f) a.scope) (sub : IsSubfamily g f) (long : length g ≡ length f) (full : list_all is_not_empty g ≡ true) where
  abbrev set : Family → ℕ → List ℕ
  set h j = slice_index_or h (slice_index_or a.scope j 0) []

  member : (j : ℕ) → j < length a.scope → (x : ℕ) × (has (set g j) x ≡ true)
  member j low = member_of_some (set g j) (all_full g full (slice_index_or a.scope j 0) (let at = known j 0 low in omega arith))

  -- where a variable has one value it keeps it
  kept : (j x : ℕ) → j < length a.scope → j ≢ fixed.place → has (set f j) x ≡ true → has (set g j) x ≡ true
  kept j x low other here =
      let one = fixed.others j low other in
      let some = member j low in
      ap (has (set g j)) (one.only.alone x here ∙ sym (one.only.alone some.0 (sub (slice_index_or a.scope j 0) some.0 some.1))) ∙ some.1

  moved : (j x : ℕ) → IsThrough (sets_on f a.scope) a.accepted j x → (t : List ℕ) → IsWithin (sets_on f a.scope) t → has (set g fixed.place) (slice_index_or t fixed.place 0) ≡ true → IsWithin (sets_on g a.scope) t
  moved j x through t within here = within_others f g a.scope t (λ k low at. go k low at (cases_eq k fixed.place)) within
    where
      go : (k : ℕ) → k < length a.scope → has (set f k) (slice_index_or t k 0) ≡ true → (k ≡ fixed.place) ⊎ (k ≢ fixed.place) → has (set g k) (slice_index_or t k 0) ≡ true
      go k low at (inl same) = subst (λ (p : ℕ). has (set g p) (slice_index_or t p 0) ≡ true) (sym same) here
      go k low at (inr other) = kept k (slice_index_or t k 0) low other at

  fixed_consistent : is_consistent f a.scope a.accepted ≡ true → is_consistent g a.scope a.accepted ≡ true
  fixed_consistent ok = consistent a g (record { at = λ i x low here. through_supported (sets_on g a.scope) a.accepted i x (at i x low here (cases_eq i fixed.place)) })
    where
      through : (i x : ℕ) → i < length a.scope → has (set g i) x ≡ true → IsThrough (sets_on f a.scope) a.accepted i x
      through i x low here = supported_through (sets_on f a.scope) a.accepted i x ((supporting a f ok).at i x low (sub (slice_index_or a.scope i 0) x here))

      at : (i x : ℕ) → i < length a.scope → has (set g i) x ≡ true → (i ≡ fixed.place) ⊎ (i ≢ fixed.place) → IsThrough (sets_on g a.scope) a.accepted i x
      at i x low here (inl same) =
          let t = through i x low here in
          let there : has (set g fixed.place) (slice_index_or t.tuple fixed.place 0) ≡ true =
          subst (λ (p : ℕ). has (set g p) (slice_index_or t.tuple p 0) ≡ true) same (ap (has (set g i)) t.at ∙ here) in
          record { tuple = t.tuple; within = moved i x t t.tuple t.within there; at = t.at; is = t.is }
      at i x low here (inr other) =
          let some = member fixed.place fixed.low in
          let t = through fixed.place some.0 fixed.low some.1 in
          let one = fixed.others i low other in
          let long_sets : i < length (sets_on f a.scope) = omega (arith, sets_long a.scope) in
          let value : has (set f i) (slice_index_or t.tuple i 0) ≡ true =
          ap (λ xs. has xs (slice_index_or t.tuple i 0)) (sym (set_at f a.scope i low)) ∙ value_within (sets_on f a.scope) t.tuple i t.within long_sets in
          record {
            tuple = t.tuple;
            within = moved fixed.place some.0 t t.tuple t.within (ap (has (set g fixed.place)) t.at ∙ some.1);
            at = one.only.alone (slice_index_or t.tuple i 0) value ∙ sym (one.only.alone x (sub (slice_index_or a.scope i 0) x here));
            is = t.is;
          }
        where
          sets_long : (scope : List ℕ) → length (sets_on f scope) ≡ length scope
          sets_long scope = length-map scope (λ v. slice_index_or f v [])

pub fixed_entailed : (a : Arc) (f : Family) → IsAlmostFixed f a.scope → All (λ v. v < length f) a.scope → is_consistent f a.scope a.accepted ≡ true → IsEntailed a f
fixed_entailed a f fixed known ok = λ g sub long full. fixed_consistent a f g fixed known sub long full ok

-- one more
pub next_one : (P : ℕ → Type 0) (j : ℕ) → ((k : ℕ) → k < j → P k) → P j → (k : ℕ) → k < j + 1 → P k
next_one P j before here k low = go (cases_lt k j)
  where
    go : (k < j) ⊎ (j ≤ k) → P k
    go (inl less) = before k less
    go (inr more) = subst P (let e : j ≡ k = omega arith in e) here

-- those before a place have one value each, and those behind it
pub fixed_others : (f : Family) (scope : List ℕ) (j : ℕ) → j < length scope → ((k : ℕ) → k < j → HasOne (slice_index_or f (slice_index_or scope k 0) [])) →
    ((k : ℕ) → k < length (drop (j + 1) scope) → HasOne (slice_index_or f (slice_index_or (drop (j + 1) scope) k 0) [])) → AreFixedBut f scope j
fixed_others f scope j under before after = λ k low other. go k low other (cases_lt k j)
  where
    go : (k : ℕ) → k < length scope → k ≢ j → (k < j) ⊎ (j ≤ k) → HasOne (slice_index_or f (slice_index_or scope k 0) [])
    go k low other (inl less) = before k less
    go k low other (inr more) =
        subst (λ v. HasOne (slice_index_or f v []))
        (get_or-drop (j + 1) scope (k - (j + 1)) 0 ∙ ap (λ i. slice_index_or scope i 0) (let e : j + 1 + (k - (j + 1)) ≡ k = omega arith in e))
        (after (k - (j + 1)) (omega (arith, length-drop (j + 1) scope)))

pub fixed_but : (f : Family) (scope : List ℕ) (j : ℕ) → j < length scope → ((k : ℕ) → k < j → HasOne (slice_index_or f (slice_index_or scope k 0) [])) →
    ((k : ℕ) → k < length (drop (j + 1) scope) → HasOne (slice_index_or f (slice_index_or (drop (j + 1) scope) k 0) [])) → IsAlmostFixed f scope
fixed_but f scope j under before after = record { place = j; low = under; others = fixed_others f scope j under before after }

-- it is taken in
pub fixed_taken_in : (arcs : List Arc) (p : Plan) (e more : Entailed) (i : ℕ) (a : Arc) (f g : Family) → ((b : Arc) → slice_index_or arcs i b ≡ a) → All (λ v. v < length f) a.scope → IsRevised a f g →
    ((k : ℕ) → is_noted_in more k ≡ true → (is_noted_in e k ≡ true) ⊎ ((k ≡ i) × IsAlmostFixed g a.scope)) → more.struck ≡ e.struck → AreEntailed arcs p e f → AreEntailed arcs p more g
fixed_taken_in arcs p e more i a f g is known to noted same are = entailed_noted arcs p e more g less same (λ k b low there. go k b low (noted k there))
  where
    less : AreEntailed arcs p e g
    less = are_less arcs p e f g to.within to.size are

    go : (k : ℕ) (b : Arc) → k < length arcs → (is_noted_in e k ≡ true) ⊎ ((k ≡ i) × IsAlmostFixed g a.scope) → IsEntailed (slice_index_or arcs k b) g
    go k b low (inl old) = less.noted k b low old
    go k b low (inr new) = subst (λ (c : Arc). IsEntailed c g) (sym (ap (λ j. slice_index_or arcs j b) new.0 ∙ is b))
        (fixed_entailed a g new.1 (subst (λ (n : ℕ). All (λ v. v < n) a.scope) (sym to.size) known) to.consistent)
