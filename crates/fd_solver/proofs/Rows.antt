-- The row of each depth: what a depth hands down leaves the rows of those above.
use Rattle.fd_solver.proofs.Prelude.{◌≡◌, ℕ, ◌+◌, ◌<◌, ◌≤◌, true, false, List, [], ◌∷◌, ◌++◌, length, length-append, length-set, take, Option, refl, sym, ◌∙◌, ap, subst, arith, inl, inr, ◌⊎◌, slice_index_or, slice_set, get_or-set_same, get_or-set_other, cases_lt, has, assigned, Candidate, Language, IsLanguage, variable_count, AreConstraints, Family, arcs_of, AreEntailed, Entailed, IsOrder, is_alive_in, IsArranged, IsCopied, IsLeft, IsReady, IsShared, IsInRow, Room, copied, family_of, depth_row, shared}
use Rattle.std.proofs.lemmas.List.{get_or_append_left, get_or_at, take-append-le, take_at}
use Rattle.propagators.specs.Plans.{IsPlanOf}
use Rattle.fd_solver.proofs.Narrowing.{below_lacking}

-- a depth's row stands as before
record IsKept (old new : Room) (k : ℕ) : Type 0 where
  row : depth_row new k ≡ depth_row old k
  family : depth_row old k ≤ k → family_of new k ≡ family_of old k
  entailed : depth_row old k ≤ k → (e : Entailed) → slice_index_or new.entailed (depth_row new k) e ≡ slice_index_or old.entailed (depth_row old k) e
  plan : new.plan ≡ old.plan

-- what was narrowed is written into a row
abbrev pub written : Room → ℕ → Family → Entailed → Room
written w row g e = record w { depths = slice_set w.depths row g; entailed = slice_set w.entailed row e }

kept_written : (w : Room) (row : ℕ) (g : Family) (e : Entailed) (k : ℕ) → (depth_row w k ≤ k → depth_row w k < row) → IsKept w (written w row g e) k
kept_written w row g e k apart = record {
  row = refl;
  family = λ low. let other = apart low in get_or-set_other w.depths row (depth_row w k) g [] (λ s. omega arith);
  entailed = λ low d. let other = apart low in get_or-set_other w.entailed row (depth_row w k) e d (λ s. omega arith);
  plan = refl;
}

-- a row that is shared leaves those of the depths above
kept_shared : (w : Room) (at k : ℕ) → k < at → IsKept w (shared at w) k
kept_shared w at k above = record {
  row = same;
  family = λ low. ap (λ r. slice_index_or w.depths r []) same;
  entailed = λ low e. ap (λ r. slice_index_or w.entailed r e) same;
  plan = refl;
}
  where
    same : depth_row (shared at w) k ≡ depth_row w k
    same = get_or-set_other (slice_set w.rows at 129) (at + 1) k (depth_row w at) 0 (λ s. omega arith) ∙ get_or-set_other w.rows at k 129 0 (λ s. omega arith)

-- a copy leaves all down to its depth
kept_copied : (w : Room) (d : Entailed) (at k : ℕ) → k ≤ at → IsKept w (copied d at w) k
kept_copied w d at k above = record {
  row = same;
  family = λ low. ap (λ r. slice_index_or (slice_set w.depths (at + 1) (family_of w at)) r []) same ∙ get_or-set_other w.depths (at + 1) (depth_row w k) (family_of w at) [] (λ s. omega arith);
  entailed = λ low e. ap (λ r. slice_index_or (slice_set w.entailed (at + 1) (slice_index_or w.entailed (depth_row w at) d)) r e) same ∙ get_or-set_other w.entailed (at + 1) (depth_row w k) (slice_index_or w.entailed (depth_row w at) d) e (λ s. omega arith);
  plan = refl;
}
  where
    same : depth_row (copied d at w) k ≡ depth_row w k
    same = get_or-set_other w.rows (at + 1) k (at + 1) 0 (λ s. omega arith)

module _ (l : Language) (list : List Candidate) (against : Option Candidate) (order : List ℕ) where
  left_kept : (old new : Room) (k : ℕ) (q : List ℕ) (x y : ℕ) → IsKept old new k → x ≤ y → IsLeft l list against order old k q x → IsLeft l list against order new k q y
  left_kept old new k q x y kept more is =
      let same = kept.row in record {
        ready = λ low. let old_low : depth_row old k ≤ k = omega arith in subst (IsReady l list against (assigned (variable_count l) order q)) (sym (kept.family old_low)) (is.ready old_low);
        entailed = λ low e. let old_low : depth_row old k ≤ k = omega arith in
            subst (λ p. AreEntailed (arcs_of l list against) p (slice_index_or new.entailed (depth_row new k) e) (family_of new k)) (sym kept.plan)
            (subst (λ (f : Family). AreEntailed (arcs_of l list against) old.plan (slice_index_or new.entailed (depth_row new k) e) f) (sym (kept.family old_low))
            (subst (λ (d : Entailed). AreEntailed (arcs_of l list against) old.plan d (family_of old k)) (sym (kept.entailed old_low e)) (is.entailed old_low e)));
        spent = λ past z above. is.spent (omega arith) z (omega arith);
      }

  arranged_kept : (p : List ℕ) (x y : ℕ) (old new : Room) → ((k : ℕ) → k ≤ length p → IsKept old new k) → x ≤ y → length new.depths ≡ length old.depths → length new.entailed ≡ length old.entailed → length new.rows ≡ length old.rows →
      IsArranged l list against order p x old → IsArranged l list against order p y new
  arranged_kept p x y old new kept more depths lists rows is = record {
    here = left_kept old new (length p) p x y (kept (length p) (omega arith)) more is.here;
    above = λ k low. left_kept old new k (take k p) (slice_index_or p k 0 + 1) (slice_index_or p k 0 + 1) (kept k (omega arith)) (omega arith) (is.above k low);
    rising = λ j k less low of_j of_k.
        let same_j = (kept j (omega arith)).row in
        let same_k = (kept k low).row in
        let up = is.rising j k less low (omega arith) (omega arith) in
        omega arith;
    plan = subst (IsPlanOf l (arcs_of l list against)) (sym (kept 0 (omega arith)).plan) is.plan;
    deep = (let deep = is.deep in omega arith);
    same = (let same = is.same in omega arith);
    wide = (let wide = is.wide in omega arith);
  }

  -- values that were tried
  pub arranged_from : (p : List ℕ) (x y : ℕ) (w : Room) → x ≤ y → IsArranged l list against order p x w → IsArranged l list against order p y w
  arranged_from p x y w more is = arranged_kept p x y w w (λ k low. record { row = refl; family = λ h. refl; entailed = λ h e. refl; plan = refl }) more refl refl refl is

  -- back to the depth above
  pub arranged_up : (q : List ℕ) (y x : ℕ) (w : Room) → IsArranged l list against order (q ++ y ∷ []) x w → IsArranged l list against order q (y + 1) w
  arranged_up q y x w is =
      let long = length-append q (y ∷ []) in record {
        here = subst (λ (r : List ℕ). IsLeft l list against order w (length q) r (y + 1)) (take_at q (y ∷ []) (length q) refl)
            (subst (λ (z : ℕ). IsLeft l list against order w (length q) (take (length q) (q ++ y ∷ [])) (z + 1)) (get_or_at q y [] 0 (length q) refl) (is.above (length q) (omega arith)));
        above = λ k low. subst (λ (r : List ℕ). IsLeft l list against order w k r (slice_index_or q k 0 + 1)) (take-append-le k q (y ∷ []) (omega arith))
            (subst (λ (z : ℕ). IsLeft l list against order w k (take k (q ++ y ∷ [])) (z + 1)) (get_or_append_left q (y ∷ []) 0 k low) (is.above k (omega arith)));
        rising = λ j k less low. is.rising j k less (omega arith);
        plan = is.plan;
        deep = is.deep;
        same = is.same;
        wide = is.wide;
      }

  pub arranged_first : (w : Room) → depth_row w 0 ≡ 0 → IsReady l list against (assigned (variable_count l) order []) (slice_index_or w.depths 0 []) →
      ((e : Entailed) → AreEntailed (arcs_of l list against) w.plan (slice_index_or w.entailed 0 e) (slice_index_or w.depths 0 [])) →
      IsPlanOf l (arcs_of l list against) w.plan → variable_count l < length w.depths → length w.entailed ≡ length w.depths → length w.rows ≡ 129 → IsArranged l list against order [] 0 w
  arranged_first w row ready entailed plan deep same wide = record {
    here = record {
      ready = λ low. subst (λ r. IsReady l list against (assigned (variable_count l) order []) (slice_index_or w.depths r [])) (sym row) ready;
      entailed = λ low e. subst (λ r. AreEntailed (arcs_of l list against) w.plan (slice_index_or w.entailed r e) (slice_index_or w.depths r [])) (sym row) (entailed e);
      spent = λ past. absurd (omega arith);
    };
    above = λ k low. absurd (omega arith);
    rising = λ j k less low. absurd (omega arith);
    plan = plan;
    deep = deep;
    same = same;
    wide = wide;
  }

  -- the next depth has what is left at the prefix's own, in a row that none above has
  pub record IsHanded (p : List ℕ) (x : ℕ) (w : Room) (below : ℕ) : Type 0 where
    pub arranged : IsArranged l list against order p (x + 1) w
    pub row : depth_row w (length p + 1) ≡ below
    pub low : below ≤ length p + 1
    pub ready : IsReady l list against (assigned (variable_count l) order p) (slice_index_or w.depths below [])
    pub entailed : (e : Entailed) → AreEntailed (arcs_of l list against) w.plan (slice_index_or w.entailed below e) (slice_index_or w.depths below [])
    pub there : has (slice_index_or (slice_index_or w.depths below []) (slice_index_or order (length p) 0) []) x ≡ true
    pub apart : (k : ℕ) → k ≤ length p → depth_row w k ≤ k → depth_row w k < below

  -- the row is written
  pub arranged_written : (p : List ℕ) (x : ℕ) (new : Room) (row : ℕ) (g : Family) (e : Entailed) → IsHanded p x new row → IsArranged l list against order p (x + 1) (written new row g e)
  arranged_written p x new row g e is = arranged_kept p (x + 1) (x + 1) new (written new row g e) (λ k low. kept_written new row g e k (is.apart k low)) (omega arith)
      (length-set new.depths row g) (length-set new.entailed row e) refl is.arranged

  -- and what is written there is ready
  pub arranged_deeper : (p : List ℕ) (x : ℕ) (new : Room) (row : ℕ) (g : Family) (e : Entailed) → length p < variable_count l → IsHanded p x new row →
      IsReady l list against (assigned (variable_count l) order (p ++ x ∷ [])) g → AreEntailed (arcs_of l list against) new.plan e g → IsArranged l list against order (p ++ x ∷ []) 0 (written new row g e)
  arranged_deeper p x new row g e short is ready entailed = record {
    here = record {
      ready = λ of_k. subst (IsReady l list against (assigned (variable_count l) order (p ++ x ∷ []))) (sym family) ready;
      entailed = λ of_k d. subst (λ (f : Family). AreEntailed (arcs_of l list against) new.plan (slice_index_or (slice_set new.entailed row e) (depth_row new (length (p ++ x ∷ []))) d) f) (sym family)
          (subst (λ (c : Entailed). AreEntailed (arcs_of l list against) new.plan c g) (sym (known d)) entailed);
      spent = λ past. absurd (let low = is.low in omega (arith, long, row_is));
    };
    above = λ k low. go k (cases_lt k (length p)) (omega (arith, long));
    rising = λ j k less low of_j of_k. rises j k less (omega (arith, long)) of_j of_k (cases_lt k (length p + 1));
    plan = arranged.plan;
    deep = arranged.deep;
    same = arranged.same;
    wide = arranged.wide;
  }
    where
      arranged : IsArranged l list against order p (x + 1) (written new row g e)
      arranged = arranged_written p x new row g e is

      long : length (p ++ x ∷ []) ≡ length p + 1
      long = length-append p (x ∷ [])

      row_is : depth_row new (length (p ++ x ∷ [])) ≡ row
      row_is = ap (depth_row new) long ∙ is.row

      family : family_of (written new row g e) (length (p ++ x ∷ [])) ≡ g
      family = ap (λ r. slice_index_or (slice_set new.depths row g) r []) row_is ∙ get_or-set_same new.depths row g [] (let low = is.low in let deep = is.arranged.deep in omega arith)

      known : (d : Entailed) → slice_index_or (slice_set new.entailed row e) (depth_row new (length (p ++ x ∷ []))) d ≡ e
      known d = ap (λ r. slice_index_or (slice_set new.entailed row e) r d) row_is ∙ get_or-set_same new.entailed row e d (let low = is.low in let deep = is.arranged.deep in let same = is.arranged.same in omega arith)

      go : (k : ℕ) → (k < length p) ⊎ (length p ≤ k) → k ≤ length p → IsLeft l list against order (written new row g e) k (take k (p ++ x ∷ [])) (slice_index_or (p ++ x ∷ []) k 0 + 1)
      go k (inl above) low = subst (λ (z : ℕ). IsLeft l list against order (written new row g e) k (take k (p ++ x ∷ [])) (z + 1)) (sym (get_or_append_left p (x ∷ []) 0 k above))
          (subst (λ (r : List ℕ). IsLeft l list against order (written new row g e) k r (slice_index_or p k 0 + 1)) (sym (take-append-le k p (x ∷ []) (omega arith))) (arranged.above k above))
      go k (inr here) low =
          let same : length p ≡ k = omega arith in
          subst (λ (z : ℕ). IsLeft l list against order (written new row g e) k (take k (p ++ x ∷ [])) (z + 1)) (sym (get_or_at p x [] 0 k same))
          (subst (λ (r : List ℕ). IsLeft l list against order (written new row g e) k r (x + 1)) (sym (take_at p (x ∷ []) k same))
          (subst (λ (j : ℕ). IsLeft l list against order (written new row g e) j p (x + 1)) same arranged.here))

      rises : (j k : ℕ) → j < k → k ≤ length p + 1 → depth_row new j ≤ j → depth_row new k ≤ k → (k < length p + 1) ⊎ (length p + 1 ≤ k) → depth_row new j < depth_row new k
      rises j k less low of_j of_k (inl above) = is.arranged.rising j k less (omega arith) of_j of_k
      rises j k less low of_j of_k (inr here) =
          let last : depth_row new k ≡ row = ap (depth_row new) (let same : k ≡ length p + 1 = omega arith in same) ∙ is.row in
          let apart = is.apart j (omega arith) of_j in
          omega arith

  module _ (is : IsOrder (variable_count l) order) (lawful : IsLanguage l) (are : AreConstraints l list against) (p : List ℕ) (short : length p < variable_count l) where
    -- what isn't left is dead
    pub lacking : (at x y : ℕ) (w : Room) → at ≡ length p → IsArranged l list against order p x w → x ≤ y → (depth_row w at ≤ at → has (slice_index_or (family_of w at) (slice_index_or order at 0) []) y ≡ false) →
        is_alive_in l list against order (p ++ y ∷ []) ≡ false
    lacking at x y w place ready more = subst (λ (k : ℕ). (depth_row w k ≤ k → has (slice_index_or (family_of w k) (slice_index_or order k 0) []) y ≡ false) → is_alive_in l list against order (p ++ y ∷ []) ≡ false) (sym place)
        (λ none. go none (cases_lt (length p) (depth_row w (length p))))
      where
        go : (depth_row w (length p) ≤ length p → has (slice_index_or (family_of w (length p)) (slice_index_or order (length p) 0) []) y ≡ false) → (length p < depth_row w (length p)) ⊎ (depth_row w (length p) ≤ length p) →
            is_alive_in l list against order (p ++ y ∷ []) ≡ false
        go none (inl past) = ready.here.spent past y more
        go none (inr low) = below_lacking l list against order is lawful are p y (family_of w (length p)) short (ready.here.ready low) (none low)

    module _ (x : ℕ) (w : Room) (ready : IsArranged l list against order p x w) (there : IsInRow w (length p) (slice_index_or order (length p) 0) x) where
      handed_shared : ((y : ℕ) → x < y → has (slice_index_or (family_of w (length p)) (slice_index_or order (length p) 0) []) y ≡ false) → IsHanded p x (shared (length p) w) (depth_row w (length p))
      handed_shared last = record {
        arranged = record {
          here = record {
            ready = λ low. absurd (omega (arith, none, lawful.few_variables));
            entailed = λ low. absurd (omega (arith, none, lawful.few_variables));
            spent = λ past y above. below_lacking l list against order is lawful are p y (family_of w (length p)) short (ready.here.ready there.row) (last y (omega arith));
          };
          above = λ k low. left_kept w (shared (length p) w) k (take k p) (slice_index_or p k 0 + 1) (slice_index_or p k 0 + 1) (kept_shared w (length p) k low) (omega arith) (ready.above k low);
          rising = λ j k less low of_j of_k. rises j k less low of_j of_k (cases_lt k (length p));
          plan = ready.plan;
          deep = ready.deep;
          same = ready.same;
          wide = length-set (slice_set w.rows (length p) 129) (length p + 1) (depth_row w (length p)) ∙ length-set w.rows (length p) 129 ∙ ready.wide;
        };
        row = get_or-set_same (slice_set w.rows (length p) 129) (length p + 1) (depth_row w (length p)) 0 (omega (arith, length-set w.rows (length p) 129, ready.wide, lawful.few_variables));
        low = (let row = there.row in omega arith);
        ready = ready.here.ready there.row;
        entailed = ready.here.entailed there.row;
        there = there.value;
        apart = λ k low of_k. apart k low of_k (cases_lt k (length p));
      }
        where
          none : depth_row (shared (length p) w) (length p) ≡ 129
          none = get_or-set_other (slice_set w.rows (length p) 129) (length p + 1) (length p) (depth_row w (length p)) 0 (λ s. omega arith)
              ∙ get_or-set_same w.rows (length p) 129 0 (omega (arith, ready.wide, lawful.few_variables))

          apart : (k : ℕ) → k ≤ length p → depth_row (shared (length p) w) k ≤ k → (k < length p) ⊎ (length p ≤ k) → depth_row (shared (length p) w) k < depth_row w (length p)
          apart k low of_k (inl above) =
              let same = (kept_shared w (length p) k above).row in
              let up = ready.rising k (length p) above (omega arith) (omega arith) there.row in
              omega arith
          apart k low of_k (inr here) = absurd (let same = ap (depth_row (shared (length p) w)) (let at : k ≡ length p = omega arith in at) in omega (arith, none, lawful.few_variables))

          rises : (j k : ℕ) → j < k → k ≤ length p → depth_row (shared (length p) w) j ≤ j → depth_row (shared (length p) w) k ≤ k → (k < length p) ⊎ (length p ≤ k) → depth_row (shared (length p) w) j < depth_row (shared (length p) w) k
          rises j k less low of_j of_k (inl above) =
              let same_j = (kept_shared w (length p) j (omega arith)).row in
              let same_k = (kept_shared w (length p) k above).row in
              let up = ready.rising j k less low (omega arith) (omega arith) in
              omega arith
          rises j k less low of_j of_k (inr here) = absurd (let same = ap (depth_row (shared (length p) w)) (let at : k ≡ length p = omega arith in at) in omega (arith, none, lawful.few_variables))

      handed_copied : (new : Room) → ((e : Entailed) → new ≡ copied e (length p) w) → IsHanded p x new (length p + 1)
      handed_copied new is_copy = record {
        arranged = subst (IsArranged l list against order p (x + 1)) (sym (is_copy whichever))
            (arranged_kept p x (x + 1) w (copied whichever (length p) w) (λ k low. kept_copied w whichever (length p) k low) (omega arith) (length-set w.depths (length p + 1) (family_of w (length p)))
            (length-set w.entailed (length p + 1) (slice_index_or w.entailed (depth_row w (length p)) whichever)) (length-set w.rows (length p + 1) (length p + 1)) ready);
        row = ap (λ (v : Room). depth_row v (length p + 1)) (is_copy whichever) ∙ get_or-set_same w.rows (length p + 1) (length p + 1) 0 (omega (arith, ready.wide, lawful.few_variables));
        low = omega arith;
        ready = subst (IsReady l list against (assigned (variable_count l) order p)) (sym family) (ready.here.ready there.row);
        entailed = λ e. subst (λ (f : Family). AreEntailed (arcs_of l list against) new.plan (slice_index_or new.entailed (length p + 1) e) f) (sym family)
            (subst (λ (d : Entailed). AreEntailed (arcs_of l list against) new.plan d (family_of w (length p)))
            (sym (ap (λ (v : Room). slice_index_or v.entailed (length p + 1) e) (is_copy e) ∙ get_or-set_same w.entailed (length p + 1) (slice_index_or w.entailed (depth_row w (length p)) e) e (omega (arith, ready.deep, ready.same))))
            (subst (λ (v : Room). AreEntailed (arcs_of l list against) v.plan (slice_index_or w.entailed (depth_row w (length p)) e) (family_of w (length p))) (sym (is_copy e)) (ready.here.entailed there.row e)));
        there = ap (λ (f : Family). has (slice_index_or f (slice_index_or order (length p) 0) []) x) family ∙ there.value;
        apart = λ k low of_k. (let same = ap (λ (v : Room). depth_row v k) (is_copy whichever) ∙ (kept_copied w whichever (length p) k low).row in omega arith);
      }
        where
          whichever : Entailed
          whichever = record { words = []; struck = [] }

          family : slice_index_or new.depths (length p + 1) [] ≡ family_of w (length p)
          family = ap (λ (v : Room). slice_index_or v.depths (length p + 1) []) (is_copy whichever) ∙ get_or-set_same w.depths (length p + 1) (family_of w (length p)) [] (omega (arith, ready.deep))

      handed_either : (row : ℕ) (new : Room) → (row ≤ length p → IsShared w new (length p) (slice_index_or order (length p) 0) x row) → (length p < row → IsCopied w new (length p) row) → IsHanded p x new row
      handed_either row new shares copies = go (cases_lt (length p) row)
        where
          go : (length p < row) ⊎ (row ≤ length p) → IsHanded p x new row
          go (inl past) = subst (IsHanded p x new) (sym (copies past).row) (handed_copied new (copies past).room)
          go (inr low) = subst (IsHanded p x new) (sym (shares low).row) (subst (λ (v : Room). IsHanded p x v (depth_row w (length p))) (sym (shares low).room) (handed_shared (shares low).last))

    pub handed : (at x row : ℕ) (old new : Room) → at ≡ length p → IsArranged l list against order p x old → IsInRow old (length p) (slice_index_or order (length p) 0) x →
        (row ≤ at → IsShared old new at (slice_index_or order at 0) x row) → (at < row → IsCopied old new at row) → IsHanded p x new row
    handed at x row old new place ready there = subst (λ (k : ℕ). (row ≤ k → IsShared old new k (slice_index_or order k 0) x row) → (k < row → IsCopied old new k row) → IsHanded p x new row) (sym place)
        (handed_either x old ready there row new)
