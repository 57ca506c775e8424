-- What the searches of a network's items say of sifting it.
use Rattle.net_reduce.proofs.Prelude.{◌≡◌, ℕ, zero, suc, ◌+◌, ◌<◌, ◌≤◌, List, [], ◌∷◌, ◌++◌, length, drop, ◌⊎◌, inl, inr, refl, sym, ◌∙◌, ap, subst, arith, add-one, ◌≢◌, slice_index_or, insert, remove, append-nil, get_or_at, length-append, length_push, drop_all, All-nil, All-append, All-push, All-drop, both_ways, cases_lt, Candidate, Language, IsLanguage, IsCandidate, IsImplied, IsNetwork, Outcome, Found, Absent, Spent, outcome_of_candidate, Sifts, item_at, unless_absent, left_at, others_at, outcome_at, AreDecided, IsReducedBySearch, IsSpentAt}
use Rattle.std.proofs.Math.Seq.{drop-cons}
use Rattle.fd_solver.specs.Laws.{IsQuestionAgainst}
use Rattle.fd_solver.proofs.Outcomes.{absent_is_implied, found_is_lawful, spent_is_long}

-- ---- taking an item out of a list, and putting it back

remove_at : (front : List Candidate) (x : Candidate) (rest : List Candidate) → remove (front ++ x ∷ rest) (length front) ≡ front ++ rest
remove_at [] x rest = refl
remove_at (y ∷ front) x rest = ap (λ (list : List Candidate). y ∷ list) (remove_at front x rest)

insert_at : (front : List Candidate) (x : Candidate) (rest : List Candidate) → insert (front ++ rest) (length front) x ≡ (front ++ x ∷ []) ++ rest
insert_at [] x rest = refl
insert_at (y ∷ front) x rest = ap (λ (list : List Candidate). y ∷ list) (insert_at front x rest)

-- ---- outcomes

-- a question that the network accepts and that violates a candidate shows that it isn't implied
not_implied : (l : Language) (network : List Candidate) (c : Candidate) (e : _) → IsQuestionAgainst l network c e → IsImplied l network c → ⊥
not_implied l network c e against implied = both_ways _ (implied e against.question against.complete against.accepted) against.violates

module _ (l : Language) (network : List Candidate) (budget : ℕ) where
  -- an item more, by its outcome
  pub left_absent : (i : ℕ) → outcome_at l network budget i ≡ Absent → left_at l network budget (suc i) ≡ left_at l network budget i
  left_absent i h = ap (λ (o : Outcome). unless_absent o (left_at l network budget i) (item_at network i)) h

  pub left_found : (i : ℕ) (e : _) → outcome_at l network budget i ≡ Found e → left_at l network budget (suc i) ≡ left_at l network budget i ++ item_at network i ∷ []
  left_found i e h = ap (λ (o : Outcome). unless_absent o (left_at l network budget i) (item_at network i)) h

  pub item_next : (i : ℕ) → i < length network → drop i network ≡ item_at network i ∷ drop (suc i) network
  item_next i low = drop-cons network i (record { scope = 0; rel = 0 }) low

  pub item_known : IsNetwork l network → (i : ℕ) → i < length network → IsCandidate l (item_at network i)
  item_known known i low = known i (record { scope = 0; rel = 0 }) low

  pub left_known : IsNetwork l network → (i : ℕ) → i ≤ length network → IsNetwork l (left_at l network budget i)
  left_known known zero low = All-nil (IsCandidate l)
  left_known known (suc i) low = go (outcome_at l network budget i) (left_known known i (omega arith))
    where
      go : (o : Outcome) → IsNetwork l (left_at l network budget i) → IsNetwork l (unless_absent o (left_at l network budget i) (item_at network i))
      go Absent before = before
      go (Found e) before = All-push (IsCandidate l) (left_at l network budget i) (item_at network i) before (item_known known i (omega arith))
      go Spent before = All-push (IsCandidate l) (left_at l network budget i) (item_at network i) before (item_known known i (omega arith))

  pub others_known : IsNetwork l network → (i : ℕ) → i ≤ length network → IsNetwork l (others_at l network budget i)
  others_known known i low = All-append (IsCandidate l) (left_at l network budget i) (drop (suc i) network) (left_known known i low) (All-drop (IsCandidate l) (suc i) network known)

  -- ---- sifting, an item on

  -- what sifting goes on with from item i leads to
  abbrev pub Leads : ℕ → Type 0
  Leads i = (part : List Candidate) → Sifts l (left_at l network budget i) (drop i network) part → Sifts l [] network part

  pub leads_none : Leads 0
  leads_none part sifted = sifted

  pub leads_on : IsLanguage l → IsNetwork l network → (i : ℕ) → i < length network → outcome_at l network budget i ≢ Spent → Leads i → Leads (suc i)
  leads_on lawful known i low decided before part sifted =
      before part (subst (λ (list : List Candidate). Sifts l (left_at l network budget i) list part) (sym (item_next i low)) (go (outcome_at l network budget i) refl))
    where
      go : (o : Outcome) → outcome_at l network budget i ≡ o → Sifts l (left_at l network budget i) (item_at network i ∷ drop (suc i) network) part
      go Absent h =
          inl (
            absent_is_implied l (others_at l network budget i) (item_at network i) budget lawful (item_known known i low) h,
            subst (λ (list : List Candidate). Sifts l list (drop (suc i) network) part) (left_absent i h) sifted,
          )
      go (Found e) h =
          inr (
            not_implied l (others_at l network budget i) (item_at network i) e
                (found_is_lawful l (others_at l network budget i) (item_at network i) budget e lawful (others_known known i (omega arith)) (item_known known i low) h),
            subst (λ (list : List Candidate). Sifts l list (drop (suc i) network) part) (left_found i e h) sifted,
          )
      go Spent h = absurd (decided h)

  -- where each item has been looked at, what remains is sifted
  pub leads_end : (i : ℕ) → length network ≤ i → Leads i → Sifts l [] network (left_at l network budget i)
  leads_end i all leads = leads (left_at l network budget i) (subst (λ (rest : List Candidate). Sifts l (left_at l network budget i) rest (left_at l network budget i)) (sym (drop_all i network all)) refl)

  pub decided_none : AreDecided l network budget 0
  decided_none k low = absurd (omega arith)

  pub spent_at : IsLanguage l → IsNetwork l network → (i : ℕ) → i < length network → AreDecided l network budget i → outcome_at l network budget i ≡ Spent → IsSpentAt l network budget i
  spent_at lawful known i low first spent = record {
    known = low;
    first = first;
    spent = spent;
    long = spent_is_long l (others_at l network budget i) (item_at network i) budget lawful (others_known known i (omega arith)) (item_known known i low) spent;
  }

  -- ---- the list from which an item is taken, and to which it goes back

  -- the items before item i that remain, and the rest; what has been looked at is decided
  pub record IsUnderway (i kept : ℕ) (items : List Candidate) : Type 0 where
    pub listed : items ≡ left_at l network budget i ++ drop i network
    pub size : kept ≡ length (left_at l network budget i)
    pub few : kept ≤ i
    pub decided : AreDecided l network budget i
    pub leads : Leads i

  pub underway_none : IsUnderway 0 0 network
  underway_none = record { listed = refl; size = refl; few = omega arith; decided = decided_none; leads = leads_none }

  split_at : (i kept : ℕ) (items : List Candidate) → IsUnderway i kept items → i < length network → items ≡ left_at l network budget i ++ item_at network i ∷ drop (suc i) network
  split_at i kept items u low = u.listed ∙ ap (λ (rest : List Candidate). left_at l network budget i ++ rest) (item_next i low)

  pub inside : (i kept : ℕ) (items : List Candidate) → IsUnderway i kept items → i < length network → kept < length items
  inside i kept items u low =
      let long = ap (length {A = Candidate}) (split_at i kept items u low) ∙ length-append (left_at l network budget i) (item_at network i ∷ drop (suc i) network) in
      let at = u.size in
      omega arith

  pub taken_is : (i kept : ℕ) (items : List Candidate) (c : Candidate) → IsUnderway i kept items → i < length network → c ≡ slice_index_or items kept c → c ≡ item_at network i
  taken_is i kept items c u low is =
      is ∙ ap (λ (list : List Candidate). slice_index_or list kept c) (split_at i kept items u low)
      ∙ get_or_at (left_at l network budget i) (item_at network i) (drop (suc i) network) c kept (sym u.size)

  pub others_are : (i kept : ℕ) (items : List Candidate) → IsUnderway i kept items → i < length network → remove items kept ≡ others_at l network budget i
  others_are i kept items u low =
      ap (λ (list : List Candidate). remove list kept) (split_at i kept items u low)
      ∙ ap (λ n. remove (left_at l network budget i ++ item_at network i ∷ drop (suc i) network) n) u.size
      ∙ remove_at (left_at l network budget i) (item_at network i) (drop (suc i) network)

  -- what was searched is what is meant
  pub outcome_is : (i : ℕ) (others : List Candidate) (c : Candidate) (o : Outcome) → others ≡ others_at l network budget i → c ≡ item_at network i →
      o ≡ outcome_of_candidate l others c budget → outcome_at l network budget i ≡ o
  outcome_is i others c o same item is =
      sym (is ∙ ap (λ (list : List Candidate). outcome_of_candidate l list c budget) same ∙ ap (λ (d : Candidate). outcome_of_candidate l (others_at l network budget i) d budget) item)

  pub decided_on : (i : ℕ) → AreDecided l network budget i → outcome_at l network budget i ≢ Spent → AreDecided l network budget (suc i)
  decided_on i before here k low = go (cases_lt k i)
    where
      go : (k < i) ⊎ (i ≤ k) → outcome_at l network budget k ≢ Spent
      go (inl less) = before k less
      go (inr more) = let same : i ≡ k = omega arith in subst (λ n. outcome_at l network budget n ≢ Spent) same here

  pub underway_absent : IsLanguage l → IsNetwork l network → (i kept : ℕ) (items : List Candidate) → IsUnderway i kept items → i < length network →
      outcome_at l network budget i ≡ Absent → IsUnderway (i + 1) kept (remove items kept)
  underway_absent lawful known i kept items u low absent = subst (λ n. IsUnderway n kept (remove items kept)) (sym (add-one i)) (record {
    listed = others_are i kept items u low ∙ ap (λ (list : List Candidate). list ++ drop (suc i) network) (sym (left_absent i absent));
    size = u.size ∙ ap (length {A = Candidate}) (sym (left_absent i absent));
    few = let before = u.few in omega arith;
    decided = decided_on i u.decided decided;
    leads = leads_on lawful known i low decided u.leads;
  })
    where
      decided : outcome_at l network budget i ≢ Spent
      decided spent = let no : ⊥ = cc in no

  pub underway_found : IsLanguage l → IsNetwork l network → (i kept : ℕ) (items : List Candidate) (c : Candidate) (e : _) → IsUnderway i kept items → i < length network →
      c ≡ item_at network i → outcome_at l network budget i ≡ Found e → IsUnderway (i + 1) (kept + 1) (insert (remove items kept) kept c)
  underway_found lawful known i kept items c e u low item found = subst (λ n. IsUnderway n (kept + 1) (insert (remove items kept) kept c)) (sym (add-one i)) (record {
    listed =
        ap (λ (list : List Candidate). insert list kept c) (others_are i kept items u low)
        ∙ ap (λ n. insert (others_at l network budget i) n c) u.size
        ∙ ap (λ (d : Candidate). insert (others_at l network budget i) (length (left_at l network budget i)) d) item
        ∙ insert_at (left_at l network budget i) (item_at network i) (drop (suc i) network)
        ∙ ap (λ (list : List Candidate). list ++ drop (suc i) network) (sym (left_found i e found));
    size = ap (λ n. n + 1) u.size ∙ sym (ap (length {A = Candidate}) (left_found i e found) ∙ length_push (left_at l network budget i) (item_at network i));
    few = let before = u.few in omega arith;
    decided = decided_on i u.decided decided;
    leads = leads_on lawful known i low decided u.leads;
  })
    where
      decided : outcome_at l network budget i ≢ Spent
      decided spent = let no : ⊥ = cc in no

  -- ---- the end

  pub rest_is_none : (i kept : ℕ) (items : List Candidate) → IsUnderway i kept items → length network ≤ i → items ≡ left_at l network budget i
  rest_is_none i kept items u all = u.listed ∙ ap (λ (rest : List Candidate). left_at l network budget i ++ rest) (drop_all i network all) ∙ append-nil (left_at l network budget i)

  pub sifted : (i kept : ℕ) (items : List Candidate) → IsUnderway i kept items → length network ≤ i → Sifts l [] network items
  sifted i kept items u all = subst (λ (list : List Candidate). Sifts l [] network list) (sym (rest_is_none i kept items u all)) (leads_end i all u.leads)

  pub searched : (i kept : ℕ) (items : List Candidate) → IsUnderway i kept items → i ≡ length network → IsReducedBySearch l network budget items
  searched i kept items u end = record {
    decided = subst (λ n. AreDecided l network budget n) end u.decided;
    remains = rest_is_none i kept items u (omega arith) ∙ ap (left_at l network budget) end;
  }
