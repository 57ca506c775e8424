-- What sifting leaves.
use Rattle.net_reduce.proofs.Prelude.{◌≡◌, Bool, true, false, ◌&&◌, not, List, [], ◌∷◌, ◌++◌, ◌⊎◌, inl, inr, refl, sym, ◌∙◌, ap, subst, append-nil, append_assoc, same_from_push, All-cons, All-head, All-tail, and_parts, and_from, not_from_false, Candidate, Language, IsCandidate, IsImplied, HasSameSolutions, violates, accepts, IsNetwork, IsSublist, Sifts, SiftedIsReduction, SiftedIsOne, ReducedIsTarget}
use Rattle.std.proofs.lemmas.List.Folds.{list_all-append}
use Rattle.assign.specs.Assignment.{Assignment}

-- ---- lists

-- a list that isn't empty has a last item
last_of : {A : Type 0} (x : A) (xs : List A) → (front : List A) × (y : A) × (x ∷ xs ≡ front ++ y ∷ [])
last_of x [] = ([], x, refl)
last_of {A} x (z ∷ xs) = go (last_of z xs)
  where
    go : (front : List A) × (y : A) × (z ∷ xs ≡ front ++ y ∷ []) → (front : List A) × (y : A) × (x ∷ z ∷ xs ≡ front ++ y ∷ [])
    go (front, y, is) = (x ∷ front, y, ap (λ (ys : List A). x ∷ ys) is)

-- an item of a list with one more at its end is that one, or one of the list
abbrev IsEnd : {A : Type 0} → List A → A → List A → A → List A → Type 0
IsEnd done c before d after = (before ≡ done) × (d ≡ c) × (after ≡ [])

abbrev IsBeforeEnd : {A : Type 0} → List A → A → List A → A → List A → Type 0
IsBeforeEnd {A} done c before d after = (front : List A) × (after ≡ front ++ c ∷ []) × (done ≡ before ++ d ∷ front)

end_or_before : {A : Type 0} (done : List A) (c : A) (before : List A) (d : A) (after : List A) → done ++ c ∷ [] ≡ before ++ d ∷ after →
    IsEnd done c before d after ⊎ IsBeforeEnd done c before d after
end_or_before done c before d [] is = let same = same_from_push done before c d is in inl (sym same.0, sym same.1, refl)
end_or_before {A} done c before d (x ∷ xs) is = go (last_of x xs)
  where
    go : (front : List A) × (y : A) × (x ∷ xs ≡ front ++ y ∷ []) → IsEnd done c before d (x ∷ xs) ⊎ IsBeforeEnd done c before d (x ∷ xs)
    go (front, y, last) =
        let same = same_from_push done (before ++ d ∷ front) c y (is ∙ ap (λ (ys : List A). before ++ d ∷ ys) last ∙ sym (append_assoc before (d ∷ front) (y ∷ []))) in
        inr (front, last ∙ ap (λ (z : A). front ++ z ∷ []) (sym same.1), same.0)

-- ---- what fewer candidates accept and imply

module _ (l : Language) where
  -- what a list accepts, its parts accept
  accepts-append : (xs ys : List Candidate) (e : Assignment) → accepts l (xs ++ ys) e ≡ (accepts l xs e && accepts l ys e)
  accepts-append xs ys e = list_all-append (λ c. not (violates l c e)) xs ys

  accepts_without : (before : List Candidate) (c : Candidate) (after : List Candidate) (e : Assignment) → accepts l (before ++ c ∷ after) e ≡ true → accepts l (before ++ after) e ≡ true
  accepts_without before c after e h =
      let both = and_parts (accepts l before e) _ (sym (accepts-append before (c ∷ after) e) ∙ h) in
      accepts-append before after e ∙ and_from _ _ both.0 ((and_parts (not (violates l c e)) _ both.1).1)

  -- what fewer imply, more imply
  implied_by_more : (before : List Candidate) (c : Candidate) (after : List Candidate) (d : Candidate) → IsImplied l (before ++ after) d → IsImplied l (before ++ c ∷ after) d
  implied_by_more before c after d implied = λ e question complete accepted. implied e question complete (accepts_without before c after e accepted)

  -- a drop keeps the solutions
  same_without : (before : List Candidate) (c : Candidate) (after : List Candidate) → IsImplied l (before ++ after) c → HasSameSolutions l (before ++ after) (before ++ c ∷ after)
  same_without before c after implied = λ e question complete.
      go e (accepts l (before ++ after) e) (accepts l (before ++ c ∷ after) e) refl refl (λ h. implied e question complete h)
    where
      go : (e : Assignment) (a b : Bool) → accepts l (before ++ after) e ≡ a → accepts l (before ++ c ∷ after) e ≡ b → (accepts l (before ++ after) e ≡ true → violates l c e ≡ false) →
          accepts l (before ++ after) e ≡ accepts l (before ++ c ∷ after) e
      go e false true fewer more holds = accepts_without before c after e more ∙ sym more
      go e false false fewer more holds = fewer ∙ sym more
      go e true true fewer more holds = fewer ∙ sym more
      go e true false fewer more holds =
          let both = and_parts (accepts l before e) _ (sym (accepts-append before after e) ∙ fewer) in
          fewer ∙ sym (accepts-append before (c ∷ after) e ∙ and_from _ _ both.0 (and_from _ _ (not_from_false _ (holds fewer)) both.1))

  -- ---- sifting

  sifts_same : (done rest part : List Candidate) → Sifts l done rest part → HasSameSolutions l part (done ++ rest)
  sifts_same done [] part is = λ e question complete. ap (λ (list : List Candidate). accepts l list e) (is ∙ sym (append-nil done))
  sifts_same done (c ∷ rest) part (inl dropped) = λ e question complete. sifts_same done rest part dropped.1 e question complete ∙ same_without done c rest dropped.0 e question complete
  sifts_same done (c ∷ rest) part (inr stays) = λ e question complete.
      sifts_same (done ++ c ∷ []) rest part stays.1 e question complete ∙ ap (λ (list : List Candidate). accepts l list e) (append_assoc done (c ∷ []) rest)

  -- what is done stands in front of some of the rest
  abbrev IsFrontOf : List Candidate → List Candidate → List Candidate → Type 0
  IsFrontOf done rest part = (more : List Candidate) × (part ≡ done ++ more) × IsSublist more rest

  sifts_sublist : (done rest part : List Candidate) → Sifts l done rest part → IsFrontOf done rest part
  sifts_sublist done [] part is = ([], is ∙ sym (append-nil done), refl)
  sifts_sublist done (c ∷ rest) part (inl dropped) = go (sifts_sublist done rest part dropped.1)
    where
      go : IsFrontOf done rest part → IsFrontOf done (c ∷ rest) part
      go (more, is, sublist) = (more, is, inl sublist)
  sifts_sublist done (c ∷ rest) part (inr stays) = go (sifts_sublist (done ++ c ∷ []) rest part stays.1)
    where
      go : IsFrontOf (done ++ c ∷ []) rest part → IsFrontOf done (c ∷ rest) part
      go (more, is, sublist) = (c ∷ more, is ∙ append_assoc done (c ∷ []) more, inr (more, refl, sublist))

  -- no item of a part is implied by its others and what comes behind
  abbrev AreNeeded : List Candidate → List Candidate → Type 0
  AreNeeded part behind = (before : List Candidate) (c : Candidate) (after : List Candidate) → part ≡ before ++ c ∷ after → IsImplied l ((before ++ after) ++ behind) c → ⊥

  needed_push : (done : List Candidate) (c : Candidate) (rest : List Candidate) → AreNeeded done (c ∷ rest) → (IsImplied l (done ++ rest) c → ⊥) → AreNeeded (done ++ c ∷ []) rest
  needed_push done c rest needed own before d after is implied = go (end_or_before done c before d after is)
    where
      go : IsEnd done c before d after ⊎ IsBeforeEnd done c before d after → ⊥
      go (inl (front, same, none)) =
          own (subst (λ (x : Candidate). IsImplied l (done ++ rest) x) same
          (subst (λ (list : List Candidate). IsImplied l (list ++ rest) d) (ap (λ (list : List Candidate). before ++ list) none ∙ append-nil before ∙ front) implied))
      go (inr (front, last, there)) =
          needed before d front there
          (subst (λ (list : List Candidate). IsImplied l list d)
          (ap (λ (list : List Candidate). (before ++ list) ++ rest) last
          ∙ ap (λ (list : List Candidate). list ++ rest) (sym (append_assoc before front (c ∷ [])))
          ∙ append_assoc (before ++ front) (c ∷ []) rest) implied)

  sifts_needed : (done rest part : List Candidate) → Sifts l done rest part → AreNeeded done rest → AreNeeded part []
  sifts_needed done [] part is needed = subst (λ (list : List Candidate). AreNeeded list []) (sym is) needed
  sifts_needed done (c ∷ rest) part (inl dropped) needed =
      sifts_needed done rest part dropped.1 (λ before d after is implied. needed before d after is (implied_by_more (before ++ after) c rest d implied))
  sifts_needed done (c ∷ rest) part (inr stays) needed = sifts_needed (done ++ c ∷ []) rest part stays.1 (needed_push done c rest needed stays.0)

  none_needed : (behind : List Candidate) → AreNeeded [] behind
  none_needed behind [] c after is implied = let no : ⊥ = cc in no
  none_needed behind (x ∷ before) c after is implied = let no : ⊥ = cc in no

  sifted_is_one : (done rest part other : List Candidate) → Sifts l done rest part → Sifts l done rest other → part ≡ other
  sifted_is_one done [] part other is same = is ∙ sym same
  sifted_is_one done (c ∷ rest) part other (inl a) (inl b) = sifted_is_one done rest part other a.1 b.1
  sifted_is_one done (c ∷ rest) part other (inl a) (inr b) = absurd (b.0 a.0)
  sifted_is_one done (c ∷ rest) part other (inr a) (inl b) = absurd (a.0 b.0)
  sifted_is_one done (c ∷ rest) part other (inr a) (inr b) = sifted_is_one (done ++ c ∷ []) rest part other a.1 b.1

-- ---- the laws

pub sifted_is_reduction : SiftedIsReduction
sifted_is_reduction l network part sifted = record {
  sublist = go (sifts_sublist l [] network part sifted);
  same = sifts_same l [] network part sifted;
  needed = λ before c after is implied.
      sifts_needed l [] network part sifted (none_needed l network) before c after is (subst (λ (list : List Candidate). IsImplied l list c) (sym (append-nil (before ++ after))) implied);
}
  where
    go : IsFrontOf l [] network part → IsSublist part network
    go (more, is, sublist) = subst (λ (list : List Candidate). IsSublist list network) (sym is) sublist

pub one_is_sifted : SiftedIsOne
one_is_sifted l network part other a b = sifted_is_one l [] network part other a b

pub reduced_is_target : ReducedIsTarget
reduced_is_target l network part target t converged reduced legal agreeing =
    λ e question complete. reduced.same e question complete ∙ sym (converged.only target legal agreeing e question complete)

-- ---- a sublist

pub sublist_known : (l : Language) (part network : List Candidate) → IsSublist part network → IsNetwork l network → IsNetwork l part
sublist_known l part [] is known = subst (λ (list : List Candidate). IsNetwork l list) (sym is) known
sublist_known l part (c ∷ network) (inl there) known = sublist_known l part network there (All-tail (IsCandidate l) c network known)
sublist_known l part (c ∷ network) (inr (rest, is, there)) known =
    subst (λ (list : List Candidate). IsNetwork l list) (sym is)
    (All-cons (IsCandidate l) c rest (All-head (IsCandidate l) c network known) (sublist_known l rest network there (All-tail (IsCandidate l) c network known)))
