-- Entailed conditions: they stay so, and one more of them.
use Rattle.propagators.proofs.Prelude.{◌≡◌, ℕ, zero, suc, ◌<◌, ◌/◌, ◌%◌, true, List, length, refl, sym, ◌∙◌, ap, subst, inl, inr, ◌⊎◌, slice_index_or, replicate, both_ways, has, ones_of, list_all, Language, Family, Arc, is_consistent, is_not_empty, IsSubfamily, IsFamilyOf, IsUnderway, IsPropagated, IsEntailed, AreEntailed, is_noted_in, Plan, Entailed, ones_of-zero}
use Rattle.propagators.proofs.Rounds.{sub_sub}

pub entailed_less : (a : Arc) (f g : Family) → IsSubfamily g f → length g ≡ length f → IsEntailed a f → IsEntailed a g
entailed_less a f g sub long is = λ h below same full. is h (sub_sub h g f below sub) (same ∙ long) full

pub entailed_now : (a : Arc) (f : Family) → list_all is_not_empty f ≡ true → IsEntailed a f → is_consistent f a.scope a.accepted ≡ true
entailed_now a f full is = is f (λ v x h. h) refl full

-- values were taken away
pub are_less : (arcs : List Arc) (p : Plan) (e : Entailed) (f g : Family) → IsSubfamily g f → length g ≡ length f → AreEntailed arcs p e f → AreEntailed arcs p e g
are_less arcs p e f g sub long are = record {
  noted = λ k a low there. entailed_less (slice_index_or arcs k a) f g sub long (are.noted k a low there);
  struck = λ k v a b low few there here apart. entailed_less (slice_index_or arcs k a) f g sub long (are.struck k v a b low few there here apart);
}

pub entailed_under : (arcs : List Arc) (p : Plan) (e : Entailed) (f g : Family) → IsUnderway arcs f g → AreEntailed arcs p e f → AreEntailed arcs p e g
entailed_under arcs p e f g to are = are_less arcs p e f g to.within to.size are

pub entailed_left : (l : Language) (arcs : List Arc) (p : Plan) (e : Entailed) (f g : Family) → IsFamilyOf l f → IsPropagated l arcs f g → AreEntailed arcs p e f → AreEntailed arcs p e g
entailed_left l arcs p e f g family to are = are_less arcs p e f g to.largest.within (to.family.size ∙ sym family.size) are

-- more conditions are noted, and the same variables struck
pub entailed_noted : (arcs : List Arc) (p : Plan) (e more : Entailed) (f : Family) → AreEntailed arcs p e f → more.struck ≡ e.struck →
    ((k : ℕ) (a : Arc) → k < length arcs → is_noted_in more k ≡ true → IsEntailed (slice_index_or arcs k a) f) → AreEntailed arcs p more f
entailed_noted arcs p e more f are same noted = record {
  noted = noted;
  struck = λ k v a b low few there here apart. are.struck k v a b low few (ap (λ (words : List ℕ). has (ones_of (slice_index_or words (v / 64) 0)) (v % 64)) (sym same) ∙ there) here apart;
}

-- condition i was taken in
pub entailed_more : (arcs : List Arc) (p : Plan) (e more : Entailed) (i : ℕ) (f : Family) → AreEntailed arcs p e f → ((k : ℕ) → is_noted_in more k ≡ true → (is_noted_in e k ≡ true) ⊎ (k ≡ i)) → more.struck ≡ e.struck →
    ((a : Arc) → IsEntailed (slice_index_or arcs i a) f) → AreEntailed arcs p more f
entailed_more arcs p e more i f are to same here = entailed_noted arcs p e more f are same (λ k a low there. go k a low (to k there))
  where
    go : (k : ℕ) (a : Arc) → k < length arcs → (is_noted_in e k ≡ true) ⊎ (k ≡ i) → IsEntailed (slice_index_or arcs k a) f
    go k a low (inl old) = are.noted k a low old
    go k a low (inr at) = subst (λ (j : ℕ). IsEntailed (slice_index_or arcs j a) f) (sym at) (here a)

-- none is among them
no_member : (n i r : ℕ) → has (ones_of (slice_index_or (replicate {A = ℕ} n 0) i 0)) r ≡ true → ⊥
no_member n i r there = both_ways _ (ap (λ m. has (ones_of m) r) (zeros n i) ∙ ap (λ xs. has xs r) ones_of-zero) there
  where
    zeros : (n i : ℕ) → slice_index_or (replicate {A = ℕ} n 0) i 0 ≡ 0
    zeros zero i = refl
    zeros (suc n) zero = refl
    zeros (suc n) (suc i) = zeros n i

pub none_entailed : (arcs : List Arc) (p : Plan) (f : Family) → AreEntailed arcs p (let e : Entailed = record { words = replicate 16 0; struck = replicate 2 0 } in e) f
none_entailed arcs p f = record {
  noted = λ k a low there. absurd (no_member 16 (k / 64) (k % 64) there);
  struck = λ k v a b low few there here apart. absurd (no_member 2 (v / 64) (v % 64) there);
}
